-- What remains to be proved of `end_child`.
use Rattle.std.proofs.Common.{sym, ap, subst, ◌∙◌, Some, List, map}
use Rattle.run_spec.specs.Moves.{position_of, without_child}
use Rattle.run_spec.specs.Steps.{running_child}
use Rattle.run_spec.specs.declared.child.Child.{Child}
use Rattle.run_spec.proofs.ChildLists.{IsFirst, first_position, first_without, first_ticket}
use Rattle.run_scheduler.specs.Rows.{tickets_of}
use Rattle.run_scheduler.proofs.test_scheduler.TestScheduler.end_child.Goals as goal

first : (c : goal.After-self-1) → IsFirst c.args.self.now.children.items c.args.ticket c.remove-child.result c.index_of-at.result
first c =
    subst (λ (children : List Child). IsFirst children c.args.ticket c.remove-child.result c.index_of-at.result) c.as_slice.ensures.value
    (c.index_of-at.ensures.within, c.index_of-at.ensures.found c.remove-child.result, λ k lt. c.index_of-at.ensures.first k c.remove-child.result lt)

pub returns-clause-position : goal.returns-clause-position
returns-clause-position c workload schedule is =
    ap (position_of c.args.ticket) is.running ∙ first_position c.args.self.now.children.items c.args.ticket c.remove-child.result c.index_of-at.result (first c)
    ∙ ap (λ (child : Child). Some child.position) (sym c.remove-child.ensures.value)

pub returns-clause-in_step : goal.returns-clause-in_step
returns-clause-in_step c workload schedule is = record {
  of_workload = is.of_workload;
  halted = is.halted;
  running = ap (without_child c.args.ticket) is.running ∙ first_without c.args.self.now.children.items c.args.ticket c.remove-child.result c.index_of-at.result (first c)
      ∙ ap (λ (xs : List Child). map running_child xs) (sym c.remove-child.ensures.items);
  taken = is.taken;
  unmade = is.unmade;
}

pub returns-clause-tickets : goal.returns-clause-tickets
unfolding tickets_of
returns-clause-tickets c =
    ap (λ (xs : List Child). map (λ (child : Child). child.ticket) xs) c.remove-child.ensures.items
    ∙ sym (first_ticket c.args.self.now.children.items c.args.ticket c.remove-child.result c.index_of-at.result (first c))
