-- The names so far are held after more steps too.
use Rattle.testbench_scan.proofs.Leading.{all_grown}
use Rattle.testbench_scan.proofs.names.add_names.Goals as goal

pub returns : goal.returns
returns c before holds = c.add_cases.ensures before (all_grown c.args.names.now.steps.keys c.start_of.new.steps.keys c.args.names.now.ends.keys before c.in_ok-start.ensures.grown holds)
