-- The record that is prepared of a file.
use Rattle.std.proofs.Common.{◌≡◌, ℕ, List, [], map, Option, Some, sym, ap, ◌∙◌}
use Rattle.std.specs.Prelude.{slice_get}
use Rattle.std.specs.Option.{option_map_or}
use Rattle.base.specs.declared.file.FileName.{FileName}
use Rattle.base.specs.declared.graph.Entry.{Entry}
use Rattle.outside.specs.Records.{Asked, Record, asked_now, asked_of, deps_at, latest_built}
use Rattle.run_spec.specs.Commits.{record_at}
use Rattle.run_spec.proofs.RecordNames.{asked_is}

-- what would be asked for a file now, with an artefact
pub record_now : (graph : List Entry) (at : ℕ) (entry : Entry) (latest_of : FileName → Option Record) (artefact : List ℕ) → slice_get graph at ≡ Some entry
    → record { asked = asked_now latest_of graph entry; artefact = artefact } ≡ record_at graph at (map (latest_built latest_of graph) (deps_at graph at)) artefact
record_now graph at entry latest_of artefact found =
    ap (λ (deps : List ℕ). record { asked = asked_of entry (map (latest_built latest_of graph) deps); artefact = artefact }) (sym (ap (λ (o : Option Entry). option_map_or (λ (e : Entry). e.deps) o []) found))
    ∙ ap (λ (asked : Asked). record { asked = asked; artefact = artefact }) (sym (asked_is graph at entry found (map (latest_built latest_of graph) (deps_at graph at))))
