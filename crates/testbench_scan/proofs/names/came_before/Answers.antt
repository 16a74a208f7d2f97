-- The index is that of one of the names.
use Rattle.std.proofs.Common.{◌∙◌}
use Rattle.testbench_scan.proofs.Leading.{came_before}
use Rattle.testbench_scan.proofs.names.came_before.Goals as goal

pub returns-clause-names : goal.returns-clause-names
returns-clause-names c before name holds leads = c.contains.ensures ∙ came_before c.args.names.now.steps.keys c.args.names.now.ends.keys before c.args.name_index name c.len-count.ensures.once holds leads
