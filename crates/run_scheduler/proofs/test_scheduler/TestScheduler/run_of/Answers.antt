-- What remains to be proved of `run_of`.
use Rattle.std.proofs.Common.{sym, ap, subst, ◌∙◌, Some, List}
use Rattle.std.proofs.lemmas.List.{get_or_default}
use Rattle.run_spec.specs.Moves.{position_of}
use Rattle.run_spec.specs.declared.child.Child.{Child}
use Rattle.run_spec.proofs.ChildLists.{IsFirst, first_position}
use Rattle.run_scheduler.proofs.test_scheduler.TestScheduler.run_of.Goals as goal

pub returns-clause-position : goal.returns-clause-position
returns-clause-position c workload schedule is =
    let child = c.index.result.now in
    let first : IsFirst c.args.self.now.children.items c.args.ticket child c.index_of-at.result =
    subst (λ (children : List Child). IsFirst children c.args.ticket child c.index_of-at.result) c.as_slice.ensures.value
    (c.index_of-at.ensures.within, c.index_of-at.ensures.found child, λ k lt. c.index_of-at.ensures.first k child lt) in
    ap (position_of c.args.ticket) is.running ∙ first_position c.args.self.now.children.items c.args.ticket child c.index_of-at.result first
    ∙ ap (λ (other : Child). Some other.position) (get_or_default c.args.self.now.children.items c.index_of-at.result child _ first.0 ∙ sym c.index.ensures)
