-- The plan of a build: for each file of a graph, whether it is fresh, stale or checked later.
use Rattle.std.specs.Prelude.{◌≡◌, ◌↔◌, ℕ, ◌<◌, Bool, true, false, not, IsTrue, List, length, slice_index_or}
use Rattle.std.specs.List.{list_all}
use Rattle.base.specs.declared.graph.Entry.{Entry}
use Rattle.outside.specs.Records.{deps_at}
use Rattle.run_scheduler.specs.declared.plans.Need.{Need}
use Rattle.run_scheduler.specs.declared.plans.Need.TheVariants.{Fresh, Stale, Later}

-- its record is current over files that are all fresh, so it isn't compiled
abbrev pub is_fresh : Need → Bool
is_fresh Fresh = true
is_fresh Stale = false
is_fresh Later = false

-- it is compiled, over files that are all fresh
abbrev pub is_stale : Need → Bool
is_stale Fresh = false
is_stale Stale = true
is_stale Later = false

-- it depends on a file that isn't fresh, so it is checked once all of these are made
abbrev pub is_later : Need → Bool
is_later Fresh = false
is_later Stale = false
is_later Later = true

-- the need of the file at a position; `Later` if the list has no such position
abbrev pub need_at : List Need → ℕ → Need
need_at needs at = slice_index_or needs at Later

-- One need for each of the files before a position. A file that depends on a file that isn't fresh is checked later. Any other
-- file is fresh exactly if its record fits.
pub record ArePlannedTo (graph : List Entry) (Fits : ℕ → Type 0) (needs : List Need) (end : ℕ) : Type 0 where
  pub as_many : length needs ≡ end
  pub later : (at : ℕ) → at < end → is_later (need_at needs at) ≡ not (list_all (λ dep. is_fresh (need_at needs dep)) (deps_at graph at))
  pub fresh : (at : ℕ) → at < end → is_later (need_at needs at) ≡ false → IsTrue (is_fresh (need_at needs at)) ↔ Fits at

-- One need for each file of a graph. A file that depends on a file that isn't fresh is checked later. Any other file is fresh
-- exactly if its record fits.
abbrev pub ArePlanned : List Entry → (ℕ → Type 0) → List Need → Type 0
ArePlanned graph Fits needs = ArePlannedTo graph Fits needs (length graph)
