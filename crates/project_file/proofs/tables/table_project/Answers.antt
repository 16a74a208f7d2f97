-- What remains to be proved of `table_project`.
use Rattle.std.proofs.Common.{sym, subst}
use Rattle.toml.specs.View.{table_view}
use Rattle.project_file.specs.Steps.{ReadsStep}
use Rattle.project_file.specs.Few.{few_said}
use Rattle.project_file.proofs.TomlTables.{table_is}
use Rattle.project_file.proofs.tables.table_project.Goals as goal

pub returns : goal.returns
returns c =
    subst (λ said. ReadsStep (few_said said) c.files_project.result)
    (sym (table_is c.args.names.now (table_view c.args.table.now) c.in_ok-compiler.compiler c.in_ok-simulator.simulator c.in_ok-external.external c.in_ok-bodies.bodies c.in_ok-compiler.ensures c.in_ok-simulator.ensures c.in_ok-external.ensures c.in_ok-bodies.ensures))
    c.files_project.ensures
