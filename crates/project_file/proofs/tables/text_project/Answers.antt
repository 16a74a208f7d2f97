-- What remains to be proved of `text_project`.
use Rattle.std.proofs.Common.{sym, subst}
use Rattle.toml.specs.View.{table_view}
use Rattle.project_file.specs.Steps.{ReadsStep}
use Rattle.project_file.specs.Few.{few_said}
use Rattle.project_file.proofs.TomlTables.{text_is}
use Rattle.project_file.proofs.tables.text_project.Goals as goal

pub returns-in-Ok : goal.returns-in-Ok
returns-in-Ok c = subst (λ said. ReadsStep (few_said said) c.table_project.result) (sym (text_is c.args.text.now c.args.names.now (table_view c.in-Ok.table) c.utf8.text c.in-Ok.ensures.ok)) c.table_project.ensures
