-- Answers to the goals of `lose`.
use Rattle.std.proofs.Common.{Option, sym, subst}
use Rattle.run_spec.specs.declared.fault.RunFault.{RunFault}
use Rattle.base.specs.declared.child.Event.TheVariants as event
use Rattle.std.proofs.Common.{◌++◌, [], ◌∷◌}
use Rattle.run_build.specs.UnderWay.{with_machine, IsUnderWay}
use Rattle.run_build.proofs.UnderWayThen.{lost_under_way}
use Rattle.run_build.proofs.ends.lose.Goals as goal

pub returns-clause-goes : goal.returns-clause-goes
returns-clause-goes c = λ graph from events acknowledged state is.
    subst (λ (o : Option RunFault). IsUnderWay graph from (events ++ event.Gone c.args.ticket ∷ []) acknowledged (with_machine c.record_loss-at.new.self o state)) (sym c.note.ensures)
    (lost_under_way graph from events acknowledged (with_machine c.args.scheduler.now c.args.first_fault.now state) is c.args.ticket c.record_loss-at.new.self c.args.fault c.record_loss-at.ensures.checked c.record_loss-at.ensures.stopped c.requires.kind
    (c.record_loss-at.ensures.lawful _ _ is.in_step) (c.record_loss-at.ensures.in_step _ _ is.in_step))
