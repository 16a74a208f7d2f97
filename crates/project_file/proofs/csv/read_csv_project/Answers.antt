-- What remains to be proved of `read_csv_project`.
use Rattle.std.proofs.Common.{subst, sym}
use Rattle.std.specs.Str.Lines.{lines}
use Rattle.base.specs.Projects.{IsProject}
use Rattle.project_file.proofs.CsvProject.{files_are_names, listed_is_project, no_names}
use Rattle.project_file.proofs.csv.read_csv_project.Goals as goal

pub returns-clause-valid : goal.returns-clause-valid
returns-clause-valid c =
    subst IsProject (sym c.in_ok-listed_project.ensures) (listed_is_project c.in_ok-names.names (files_are_names _ 1 (lines c.args.bytes.now) c.in_ok-names.names no_names c.in_ok-names.ensures))
