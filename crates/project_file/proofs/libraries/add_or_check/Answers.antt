-- What remains to be proved of `add_or_check`.
use Rattle.std.proofs.Common.{Ok, Option, List, subst, sym}
use Rattle.toml.specs.View.{table_view}
use Rattle.base.specs.declared.project.ProjectFile.{ProjectFile}
use Rattle.project_file.specs.Csv.{then_read}
use Rattle.project_file.specs.Steps.{ReadsStep}
use Rattle.project_file.specs.Toml.{library_files}
use Rattle.project_file.specs.Few.{few_with}
use Rattle.project_file.proofs.FewSteps.{checked_is}
use Rattle.project_file.proofs.LibrarySum.{reads_same}
use Rattle.project_file.proofs.libraries.add_or_check.Goals as goal

pub returns-in-None-clause-added : goal.returns-in-None-clause-added
returns-in-None-clause-added c =
    subst (λ (kept : Option (List ProjectFile)). ReadsStep (then_read (library_files c.args.names.now c.args.compiler.now c.args.library.now (table_view c.args.table.now)) (λ more. Ok (few_with kept more))) c.check_library.result) (sym c.in-None.is)
    (reads_same _ _ c.check_library.result (checked_is c.args.names.now c.args.compiler.now c.args.library.now (table_view c.args.table.now)) c.check_library.ensures)
