-- True records of views.
use Rattle.std.specs.Prelude.{◌≡◌, List, [], ◌∷◌, ◌++◌, map}
use Rattle.base.specs.declared.file.FileName.{FileName}
use Rattle.base.specs.declared.graph.BuiltFile.{BuiltFile}
use Rattle.base.specs.declared.child.Request.{Request}
use Rattle.base.specs.declared.child.Exit.{Exit}
use Rattle.store_form_2.specs.declared.kept_view.Record.{Record as ViewRecord}
use Rattle.run_spec.specs.CleanBuild.{clean_build, Made}

-- a record of a view is true: a clean build of its view makes all files, and the last with its artefact
pub record IsTrueView (answer : Request → Exit) (kept : ViewRecord) : Type 0 where
  pub prefix : List BuiltFile
  pub name : FileName
  pub all_made : clean_build answer kept.view ≡ map Made (prefix ++ (record { name = name; artefact = kept.artefact }) ∷ [])
