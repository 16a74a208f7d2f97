-- What a run did and said that generates a project.
use Rattle.std.proofs.Common.{Ok, Err, refl}
use Rattle.outside.specs.FaultCounts.{with_children, with_output}
use Rattle.vunit_top.proofs.TestTruths.{ended_counted, fault_counted}
use Rattle.vunit_top.proofs.generating.say_generated.Goals as goal

pub returns-in-Ok-clause-generated : goal.returns-in-Ok-clause-generated
returns-in-Ok-clause-generated g c = λ scan is p. record {
  said = Ok c.in-Ok.said;
  ran = c.in-Ok.ensures.ran scan is p;
  answers = c.put_generated.ensures.answers;
  says = c.put_generated.ensures.says;
}

pub returns-in-Ok-clause-counted : goal.returns-in-Ok-clause-counted
returns-in-Ok-clause-counted g c = λ others.
    ended_counted _ _ (with_output g.O.Sink c.args.out.now others) (with_output g.O.Sink c.put_generated.new.out others) _ (c.in-Ok.ensures.explains others.build.disks)
    (c.put_generated.ensures.counted (with_children g.P.Procs c.run_generated.new.procs others))

pub returns-in-Err-clause-generated : goal.returns-in-Err-clause-generated
returns-in-Err-clause-generated g c = λ scan is p. record {
  said = Err c.in-Err.fault;
  ran = c.in-Err.ensures.ran scan is p;
  answers = c.fault_outcome.ensures;
  says = λ told. refl;
}

pub returns-in-Err-clause-counted : goal.returns-in-Err-clause-counted
returns-in-Err-clause-counted g c = λ others. rw c.fault_outcome.ensures
    (fault_counted c.in-Err.fault _ _ (with_output g.O.Sink c.args.out.now others) (c.in-Err.ensures.explains others.build.disks) (c.in-Err.ensures.fell others.build.disks))
