-- What remains to be proved of `started`.
use Rattle.std.proofs.Common.{arith, refl, sym, ap, subst, ◌∙◌, ◌<◌, ◌+◌, List, [], ◌∷◌, length}
use Rattle.std.specs.Prelude.{All}
use Rattle.std.proofs.lemmas.List.{length-append}
use Rattle.std.proofs.lemmas.List.Elements.{All-push}
use Rattle.run_spec.specs.declared.child.Child.{Child}
use Rattle.run_scheduler.specs.Rows.{to_come}
use Rattle.run_scheduler.proofs.SchedulerSteps.{start_is, in_step_started, lawful_start}
use Rattle.run_scheduler.proofs.test_scheduler.TestScheduler.record_start.Goals as goal

pub overflow_add-self : goal.overflow_add-self
overflow_add-self c = omega (arith, (start_is c.args.self.now c.args.at c.requires).within)

pub push_reserved-requires : goal.push_reserved-requires
push_reserved-requires c = omega (arith, c.args.self.now.room, (start_is c.args.self.now c.args.at c.requires).room)

pub returns-clause-lawful : goal.returns-clause-lawful
returns-clause-lawful c workload schedule is = lawful_start c.args.self.now workload schedule c.args.at is c.requires

pub returns-clause-in_step : goal.returns-clause-in_step
returns-clause-in_step c workload schedule is =
    let first = (start_is c.args.self.now c.args.at c.requires).first in
    in_step_started c.args.self.now _ workload schedule c.args.at c.args.ticket first (ap (λ n. n + 1) first) refl refl refl c.push_reserved.ensures.items refl is

pub returns-clause-nearer : goal.returns-clause-nearer
unfolding to_come
returns-clause-nearer c =
    let start = start_is c.args.self.now c.args.at c.requires in
    let longer = ap (λ (xs : List Child). length xs) c.push_reserved.ensures.items ∙ length-append c.args.self.now.children.items ((record { ticket = c.args.ticket; position = c.args.at }) ∷ []) in
    omega (arith, start.first, start.within, longer)

pub invariant_of-self : goal.invariant_of-self
invariant_of-self c =
    let start = start_is c.args.self.now c.args.at c.requires in
    record {
      within = omega (arith, start.within);
      inside = subst (All (λ (child : Child). child.position < c.args.at + 1)) (sym c.push_reserved.ensures.items)
          (All-push (λ (child : Child). child.position < c.args.at + 1) c.args.self.now.children.items (record { ticket = c.args.ticket; position = c.args.at })
          (λ k d lt. omega (arith, c.args.self.now.inside k d lt, start.first)) (omega arith));
      some = c.args.self.now.some;
      room = omega (arith, c.push_reserved.ensures.capacity, c.args.self.now.room);
    }
