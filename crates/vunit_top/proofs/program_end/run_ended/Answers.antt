-- The clauses of the top call.
use Rattle.vunit_top.proofs.program_end.run_ended.Goals as goal

pub returns-clause-did : goal.returns-clause-did
returns-clause-did g c = c.run_vunit-outcome.ensures.did

pub returns-clause-keeps : goal.returns-clause-keeps
returns-clause-keeps g c = c.run_vunit-outcome.ensures.keeps

pub returns-clause-counted : goal.returns-clause-counted
returns-clause-counted g c = c.run_vunit-outcome.ensures.counted
