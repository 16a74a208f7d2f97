-- What remains to be proved of `new`.
use Rattle.std.proofs.Common.{arith, refl, sym, ap, subst₂, ◌∙◌, ◌≡◌, Bool, true, false, not, List, length, map}
use Rattle.run_scheduler.specs.Plans.{is_later, need_at}
use Rattle.run_scheduler.specs.Counts.{AreCountedTo}
use Rattle.run_scheduler.specs.Machines.{is_checked, is_stopped_in, files_of, tickets_of}
use Rattle.run_spec.specs.declared.child.Child.{Child}
use Rattle.run_scheduler.proofs.NewMachine.{counted_first, in_step_new}
use Rattle.run_scheduler.proofs.build_scheduler.BuildScheduler.new.Goals as goal

pub count_files-requires-clause-counted : goal.count_files-requires-clause-counted
count_files-requires-clause-counted c =
    let count : length c.args.needs.now ≡ length c.args.graph.now = c.requires.needs in
    let many : length c.in_ok-waiting.waiting.items ≡ length c.args.graph.now = c.in_ok-waiting.ensures.count ∙ count in
    subst₂ (λ (checked made : List Bool). AreCountedTo c.args.graph.now checked made c.in_ok-later.later 0) (sym c.as_slice.ensures.value) (sym c.as_slice-2.ensures.value)
    (counted_first c.args.graph.now c.in_ok-checked.checked.items c.in_ok-made.made.items c.in_ok-waiting.waiting.items c.in_ok-later.later many
    (λ k lt. c.in_ok-waiting.ensures.later k (omega (arith, lt, count)) ∙ twice (is_later (need_at c.args.needs.now k)) ∙ ap not (sym (c.in_ok-checked.ensures.checked k (omega (arith, lt, count)))))
    c.in_ok-later.ensures.waits)
  where
    twice : (b : Bool) → b ≡ not (not b)
    twice true = refl
    twice false = refl

pub returns-clause-files : goal.returns-clause-files
unfolding files_of
returns-clause-files c = c.in_ok-made.ensures.count ∙ c.requires.needs

pub returns-clause-tickets : goal.returns-clause-tickets
unfolding tickets_of
returns-clause-tickets c = ap (λ (xs : List Child). map (λ (child : Child). child.ticket) xs) c.in_ok-children.ensures.items

pub returns-clause-in_step : goal.returns-clause-in_step
returns-clause-in_step c workload of_workload =
    let count : length c.args.needs.now ≡ length c.args.graph.now = c.requires.needs in
    in_step_new _ c.args.graph.now c.args.needs.now c.args.limit c.args.keep_going workload refl refl refl refl c.in_ok-children.ensures.items
    (c.in_ok-made.ensures.count ∙ count)
    (λ at lt. c.in_ok-checked.ensures.checked at (omega (arith, lt, count)))
    (λ at lt. c.in_ok-made.ensures.fresh at (omega (arith, lt, count)))
    (λ at lt. c.stale_files-ready.ensures.stale at (omega (arith, lt, count)))
    (subst₂ (λ (checked made : List Bool). AreCountedTo c.args.graph.now checked made c.count_files.new.later (length c.args.graph.now)) c.as_slice.ensures.value c.as_slice-2.ensures.value c.in_ok-count_files.ensures) of_workload

pub returns-clause-checked : goal.returns-clause-checked
unfolding is_checked
returns-clause-checked c = λ at lt. c.in_ok-checked.ensures.checked at (omega (arith, lt, c.requires.needs))

pub returns-clause-stopped : goal.returns-clause-stopped
unfolding is_stopped_in
returns-clause-stopped c = refl
