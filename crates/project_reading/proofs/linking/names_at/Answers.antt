use Rattle.std.proofs.Common.{◌≡◌, ℕ, List, [], ◌∷◌, ◌++◌, get_or, take, sym, ap, ◌∙◌}
use Rattle.std.specs.Prelude.{option_map, slice_get}
use Rattle.std.proofs.lemmas.List.{take_more}
use Rattle.std.proofs.lemmas.List.Elements.{filter_map-append}
use Rattle.base.specs.declared.file.FileName.{FileName}
use Rattle.base.specs.declared.project.ProjectFile.{ProjectFile}
use Rattle.project_reading.specs.Reading.{names_at}
use Rattle.project_reading.proofs.linking.names_at.Goals as goal

pub loop-position-init : goal.loop-position-init
unfolding names_at
loop-position-init c = c.new-names.ensures

-- the names at more positions
names_more : (files : List ProjectFile) (positions more : List ℕ) → names_at files positions ++ names_at files more ≡ names_at files (positions ++ more)
unfolding names_at
names_more files positions more = sym (filter_map-append (λ at. option_map (λ file. file.name) (slice_get files at)) positions more)

pub loop-position-preserved : goal.loop-position-preserved
loop-position-preserved c =
    let here : ℕ = get_or c.args.positions.now c.loop-position.position-index 0 in
    c.in_ok-add_name.ensures
    ∙ ap (λ (names : List FileName). names ++ names_at c.args.files.now (here ∷ [])) c.loop-position.invariant
    ∙ names_more c.args.files.now (take c.loop-position.position-index c.args.positions.now) (here ∷ [])
    ∙ ap (names_at c.args.files.now) (sym (take_more c.args.positions.now c.loop-position.position-index 0 c.loop-position-test.true))
