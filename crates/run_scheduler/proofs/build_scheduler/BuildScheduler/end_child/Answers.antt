-- What remains to be proved of `end_child`.
use Rattle.std.proofs.Common.{arith, refl, sym, ap, subst, ◌∙◌, ◌+◌, ◌<◌, Some, List, length, map, true, ◌≡◌}
use Rattle.std.specs.Prelude.{All, Contains}
use Rattle.std.proofs.lemmas.List.Edits.{length-remove}
use Rattle.run_spec.specs.Moves.{position_of, without_child}
use Rattle.run_scheduler.specs.Machines.{files_of, tickets_of, is_checked}
use Rattle.run_spec.specs.Steps.{running_child, without_ticket}
use Rattle.run_spec.specs.declared.child.Child.{Child}
use Rattle.run_spec.proofs.ChildLists.{IsFirst, first_position, first_without, first_ticket}
use Rattle.run_scheduler.proofs.MachineSteps.{in_step_as, nearer_end}
use Rattle.run_scheduler.proofs.Passing.{all_removed}
use Rattle.run_scheduler.proofs.build_scheduler.BuildScheduler.end_child.Goals as goal

first : (c : goal.After-self-1) → IsFirst c.args.self.now.children.items c.args.ticket c.remove-child.result c.index_of-at.result
first c =
    subst (λ (children : List Child). IsFirst children c.args.ticket c.remove-child.result c.index_of-at.result) c.as_slice.ensures.value
    (c.index_of-at.ensures.within, c.index_of-at.ensures.found c.remove-child.result, λ k lt. c.index_of-at.ensures.first k c.remove-child.result lt)

pub index_of-at-requires : goal.index_of-at-requires
unfolding tickets_of
index_of-at-requires c = subst (λ (children : List Child). Contains (map (λ (child : Child). child.ticket) children) c.args.ticket) (sym c.as_slice.ensures.value) c.requires

pub returns-clause-within : goal.returns-clause-within
unfolding files_of
returns-clause-within c =
    subst (λ (child : Child). child.position < length c.args.self.now.made.items) (sym c.remove-child.ensures.value) (c.args.self.now.inside c.index_of-at.result c.remove-child.result (first c).0)

pub returns-clause-position : goal.returns-clause-position
returns-clause-position c workload schedule step =
    ap (position_of c.args.ticket) step.running ∙ first_position c.args.self.now.children.items c.args.ticket c.remove-child.result c.index_of-at.result (first c)
    ∙ ap (λ (child : Child). Some child.position) (sym c.remove-child.ensures.value)

pub returns-clause-checked : goal.returns-clause-checked
unfolding is_checked
returns-clause-checked c workload schedule step =
    subst (λ (child : Child). is_checked c.args.self.now child.position ≡ true) (sym c.remove-child.ensures.value) (step.started c.index_of-at.result c.remove-child.result (first c).0)

pub returns-clause-in_step : goal.returns-clause-in_step
returns-clause-in_step c workload schedule step =
    in_step_as c.args.self.now _ workload schedule (without_ticket c.args.ticket schedule) refl refl refl refl refl refl refl (λ k lt is. refl) (λ k lt made. made)
    (ap (without_child c.args.ticket) step.running ∙ first_without c.args.self.now.children.items c.args.ticket c.remove-child.result c.index_of-at.result (first c)
    ∙ ap (λ (xs : List Child). map running_child xs) (sym c.remove-child.ensures.items))
    (subst (λ (xs : List Child). All (λ child. is_checked c.args.self.now child.position ≡ true) xs) (sym c.remove-child.ensures.items)
    (all_removed (λ (child : Child). is_checked c.args.self.now child.position ≡ true) c.args.self.now.children.items c.index_of-at.result step.started)) step.halted step

pub returns-clause-tickets : goal.returns-clause-tickets
unfolding tickets_of
returns-clause-tickets c =
    ap (λ (xs : List Child). map (λ (child : Child). child.ticket) xs) c.remove-child.ensures.items
    ∙ sym (first_ticket c.args.self.now.children.items c.args.ticket c.remove-child.result c.index_of-at.result (first c))

pub returns-clause-nearer : goal.returns-clause-nearer
unfolding files_of
returns-clause-nearer c =
    nearer_end c.args.self.now _ (omega arith) (omega arith)
    (ap (λ (xs : List Child). length xs + 1) c.remove-child.ensures.items ∙ length-remove c.args.self.now.children.items c.index_of-at.result (first c).0) (omega arith)
