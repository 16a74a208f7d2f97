-- What remains to be proved of `bytes_project`.
use Rattle.std.proofs.Common.{ap}
use Rattle.project_file.specs.Few.{few_said}
use Rattle.project_file.proofs.TomlTables.{no_text}
use Rattle.project_file.proofs.tables.bytes_project.Goals as goal

pub returns-in-Err : goal.returns-in-Err
returns-in-Err c = ap few_said (no_text c.args.bytes.now c.args.names.now c.in-Err.ensures.cases.0)
