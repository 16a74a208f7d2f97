-- What remains to be proved of `checked`.
use Rattle.std.proofs.Common.{◌≡◌, ◌==◌, ◌||◌, Bool, true, false, not, List, length, get_or, arith, refl, sym, ap, ◌∙◌}
use Rattle.std.proofs.lemmas.List.{length-set}
use Rattle.run_scheduler.specs.Machines.{is_stopped_in, files_of, tickets_of, is_checked, is_first_fault, count_in}
use Rattle.run_scheduler.proofs.Passing.{set_test}
use Rattle.run_scheduler.proofs.Sets.{more_by, no_more_in, one_more_in}
use Rattle.run_scheduler.proofs.NextSteps.{IsCheck, check_is}
use Rattle.run_scheduler.proofs.MachineSteps.{in_step_checked, waits_less, and_true, no_end, nearer_check}
use Rattle.run_scheduler.proofs.build_scheduler.BuildScheduler.record_check.Goals as goal

pub take-requires : goal.take-requires
unfolding files_of
take-requires c = omega (arith, (check_is c.args.self.now c.args.at c.requires).within, c.args.self.now.as_many_later)

pub index_mut-requires : goal.index_mut-requires
unfolding files_of
index_mut-requires c = omega (arith, (check_is c.args.self.now c.args.at c.requires).within, c.args.self.now.as_many_checked)

pub note_made-requires-clause-at : goal.note_made-requires-clause-at
unfolding files_of
note_made-requires-clause-at c = (check_is c.args.self.now c.args.at c.requires).within

pub insert-requires : goal.insert-requires
unfolding files_of
insert-requires c = omega (arith, (check_is c.args.self.now c.args.at c.requires).within, c.args.self.now.few)

pub invariant_of-self-else-fresh : goal.invariant_of-self-else-fresh
unfolding files_of
invariant_of-self-else-fresh c =
    let check : IsCheck c.args.self.now c.args.at = check_is c.args.self.now c.args.at c.requires in
    record {
      few = c.args.self.now.few;
      as_many_checked = length-set c.args.self.now.checked.items c.args.at true ∙ c.args.self.now.as_many_checked;
      as_many_later = c.take.ensures.files ∙ c.args.self.now.as_many_later;
      inside = c.args.self.now.inside;
      past = λ k le. c.insert.ensures.others k (λ e. omega (arith, e, le, check.within)) ∙ c.args.self.now.past k le;
      some = c.args.self.now.some;
      room = c.args.self.now.room;
    }

pub returns-then-fresh-clause-in_step : goal.returns-then-fresh-clause-in_step
unfolding files_of is_checked is_first_fault
returns-then-fresh-clause-in_step c workload schedule step says =
    let check : IsCheck c.args.self.now c.args.at = check_is c.args.self.now c.args.at c.requires in
    in_step_checked c.args.self.now _ workload schedule c.args.at true check c.args.self.now.as_many_checked (sym c.if-fresh.true ∙ says) refl
    (λ k. ap (λ xs. get_or xs k false) c.note_made.ensures.made ∙ set_test c.args.self.now.made.items c.args.at k check.within ∙ ap (λ b. get_or c.args.self.now.made.items k false || b) (sym (and_true (c.args.at == k))))
    (ap (λ (xs : List Bool). length xs) c.note_made.ensures.made ∙ length-set c.args.self.now.made.items c.args.at true)
    (c.note_made.ensures.later workload.count workload.deps _
    (c.take.ensures.waits workload.count workload.deps (λ k. not (get_or c.args.self.now.checked.items k false)) _ (λ k. get_or c.args.self.now.made.items k false) step.later
    (waits_less c.args.self.now.checked.items c.args.at (omega (arith, check.within, c.args.self.now.as_many_checked)))))
    c.note_made.ensures.ready refl refl refl refl step

pub returns-then-fresh-clause-files : goal.returns-then-fresh-clause-files
unfolding files_of
returns-then-fresh-clause-files c = ap (λ (xs : List Bool). length xs) c.note_made.ensures.made ∙ length-set c.args.self.now.made.items c.args.at true

pub returns-then-fresh-clause-tickets : goal.returns-then-fresh-clause-tickets
unfolding tickets_of
returns-then-fresh-clause-tickets c = refl

pub returns-then-fresh-clause-nearer : goal.returns-then-fresh-clause-nearer
unfolding files_of
returns-then-fresh-clause-nearer c =
    let check : IsCheck c.args.self.now c.args.at = check_is c.args.self.now c.args.at c.requires in
    let same : length c.note_made.new.made.items ≡ length c.args.self.now.made.items = ap (λ (xs : List Bool). length xs) c.note_made.ensures.made ∙ length-set c.args.self.now.made.items c.args.at true in
    nearer_check c.args.self.now _ (omega (arith, c.note_made.ensures.waits, c.take.ensures.fewer check.listed))
    (omega (arith, no_more_in c.args.self.now.ready c.note_made.new.ready c.args.at (length c.args.self.now.made.items) check.within c.note_made.ensures.ready, ap (count_in c.note_made.new.ready) same)) (omega arith) (omega arith)

pub returns-else-fresh-clause-in_step : goal.returns-else-fresh-clause-in_step
unfolding files_of is_checked is_first_fault
returns-else-fresh-clause-in_step c workload schedule step says =
    let check : IsCheck c.args.self.now c.args.at = check_is c.args.self.now c.args.at c.requires in
    in_step_checked c.args.self.now _ workload schedule c.args.at false check c.args.self.now.as_many_checked (sym c.if-fresh.false ∙ says) refl
    (λ k. sym (no_end (get_or c.args.self.now.made.items k false) (c.args.at == k))) refl
    (c.take.ensures.waits workload.count workload.deps (λ k. not (get_or c.args.self.now.checked.items k false)) _ (λ k. get_or c.args.self.now.made.items k false) step.later
    (waits_less c.args.self.now.checked.items c.args.at (omega (arith, check.within, c.args.self.now.as_many_checked))))
    (more_by c.args.self.now.ready c.insert.new.self c.args.at c.insert.ensures.is c.insert.ensures.others) refl refl refl refl step

pub returns-else-fresh-clause-files : goal.returns-else-fresh-clause-files
unfolding files_of
returns-else-fresh-clause-files c = refl

pub returns-else-fresh-clause-tickets : goal.returns-else-fresh-clause-tickets
unfolding tickets_of
returns-else-fresh-clause-tickets c = refl

pub returns-else-fresh-clause-nearer : goal.returns-else-fresh-clause-nearer
unfolding files_of
returns-else-fresh-clause-nearer c =
    let check : IsCheck c.args.self.now c.args.at = check_is c.args.self.now c.args.at c.requires in
    nearer_check c.args.self.now _ (c.take.ensures.fewer check.listed)
    (one_more_in c.args.self.now.ready c.insert.new.self c.args.at (length c.args.self.now.made.items) check.within c.insert.ensures.others) (omega arith) (omega arith)

pub returns-then-fresh-clause-checked : goal.returns-then-fresh-clause-checked
unfolding files_of is_checked
returns-then-fresh-clause-checked c = λ k. set_test c.args.self.now.checked.items c.args.at k (omega (arith, (check_is c.args.self.now c.args.at c.requires).within, c.args.self.now.as_many_checked))

pub returns-then-fresh-clause-stopped : goal.returns-then-fresh-clause-stopped
unfolding is_stopped_in
returns-then-fresh-clause-stopped c = refl

pub returns-else-fresh-clause-checked : goal.returns-else-fresh-clause-checked
unfolding files_of is_checked
returns-else-fresh-clause-checked c = λ k. set_test c.args.self.now.checked.items c.args.at k (omega (arith, (check_is c.args.self.now c.args.at c.requires).within, c.args.self.now.as_many_checked))

pub returns-else-fresh-clause-stopped : goal.returns-else-fresh-clause-stopped
unfolding is_stopped_in
returns-else-fresh-clause-stopped c = refl
