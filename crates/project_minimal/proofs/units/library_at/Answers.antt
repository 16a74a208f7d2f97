-- The file is there.
use Rattle.std.proofs.Common.{ap, sym}
use Rattle.std.proofs.lemmas.Option.{get_or_from_slice_get}
use Rattle.base.specs.declared.project.ProjectFile.{ProjectFile}
use Rattle.project_minimal.specs.Needing.{no_file}
use Rattle.project_minimal.proofs.units.library_at.Goals as goal

pub returns : goal.returns
returns c = ap (λ (file : ProjectFile). file.name.library) (sym (get_or_from_slice_get c.args.tables.sources.project.now.files c.args.at c.get.result.now no_file c.get.ensures))
