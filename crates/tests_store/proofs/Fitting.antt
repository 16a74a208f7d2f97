-- What a file that fits depends on has records.
use Rattle.std.proofs.Common.{ℕ, List, [], Option, sym, ap, subst}
use Rattle.std.specs.Prelude.{All}
use Rattle.std.specs.Option.{option_map_or}
use Rattle.base.specs.declared.graph.Entry.{Entry}
use Rattle.outside.specs.Records.{deps_at}
use Rattle.store.specs.Held.{latest_held}
use Rattle.outside.specs.Records.{IsRecorded as IsCurrentLatest, HasLatest}

pub deps_built : (payloads : List (List ℕ)) (graph : List Entry) (at : ℕ) → IsCurrentLatest (latest_held payloads) graph at → All (HasLatest (latest_held payloads) graph) (deps_at graph at)
deps_built payloads graph at fits = subst (λ (ps : List ℕ). All (HasLatest (latest_held payloads) graph) ps) (sym (ap (λ (o : Option Entry). option_map_or (λ (e : Entry). e.deps) o []) fits.is_entry)) fits.built
