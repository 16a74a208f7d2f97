use Rattle.std.proofs.Common.{◌≡◌, ℕ, List, [], ◌∷◌, ◌++◌, None, refl, sym, ap, ◌∙◌}
use Rattle.std.specs.Prelude.{slice_get}
use Rattle.std.proofs.lemmas.List.{append-nil}
use Rattle.std.proofs.lemmas.Option.{slice_get_past}
use Rattle.base.specs.declared.file.FileName.{FileName}
use Rattle.base.specs.declared.project.ProjectFile.{ProjectFile}
use Rattle.project_reading.specs.Reading.{names_at}
use Rattle.project_reading.proofs.linking.add_name.Goals as goal

-- there is no file at a position
no_name : (files : List ProjectFile) (position : ℕ) → slice_get files position ≡ None → names_at files (position ∷ []) ≡ []
unfolding names_at
no_name files position none = rw none refl

pub returns-in-None : goal.returns-in-None
returns-in-None c = sym (append-nil c.args.names.now) ∙ ap (λ (more : List FileName). c.args.names.now ++ more) (sym (no_name c.args.files.now c.args.position (slice_get_past c.args.files.now c.args.position c.in-None.ensures.lookup.3)))
