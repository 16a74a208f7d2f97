-- Small tests that tell whether files are a view.
use Rattle.std.specs.Prelude.{ℕ, ◌-◌, Bool, true, not, ◌&&◌, ◌==◌, nat_le, nat_lt, List, [], ◌∷◌, length, slice_get}
use Rattle.std.specs.List.{list_all, list_any, enumerate_from, range_with_len, sum_by}
use Rattle.std.specs.Option.{option_map_or}
use Rattle.base.specs.declared.graph.Entry.{Entry}
use Rattle.base.specs.Names.{is_same_name}
use Rattle.base.specs.declared.limits.TheConstants.{FILE_LIMIT, GRAPH_TEXT_LIMIT, TEXT_LIMIT}
use Rattle.base_bytes.specs.Sizes.{has_command_sizes, has_name_sizes}

-- each item passes the test with each later one
unfoldable pub all_pairs : {X : Type 0} → (X → X → Bool) → List X → Bool
all_pairs test [] = true
all_pairs test (first ∷ others) = list_all (test first) others && all_pairs test others

-- each of the positions is among the dependencies
abbrev pub holds_all : List ℕ → List ℕ → Bool
holds_all deps positions = list_all (λ position. list_any (λ dep. dep == position) deps) positions

-- the dependencies of the file at a rank
abbrev pub found_deps : List Entry → ℕ → List ℕ
found_deps files rank = option_map_or (λ entry. entry.deps) (slice_get files rank) []

-- dependencies rise, come before the rank of their file, and hold their own dependencies
unfoldable pub fit_deps : List Entry → ℕ → List ℕ → Bool
fit_deps files rank deps = all_pairs nat_lt deps && (list_all (λ dep. nat_lt dep rank) deps && list_all (λ dep. holds_all deps (found_deps files dep)) deps)

-- a file at its rank among the files
unfoldable pub stands : List Entry → ℕ → Entry → Bool
stands files rank entry = fit_deps files rank entry.deps && (has_name_sizes entry.name && (has_command_sizes entry.command && nat_le (length entry.text) TEXT_LIMIT))

-- at most 4,096 files with distinct names, of at most 67,108,864 bytes together
unfoldable pub is_graph : List Entry → Bool
is_graph files =
    nat_le (length files) FILE_LIMIT && (all_pairs (λ entry other. not (is_same_name entry.name other.name)) files && (list_all (λ located. stands files located.0 located.1) (enumerate_from 0 files) && nat_le (sum_by (λ entry. length entry.text) files) GRAPH_TEXT_LIMIT))

-- at least one file, and the last file depends on all others
unfoldable pub is_whole : List Entry → Bool
is_whole files = nat_lt 0 (length files) && holds_all (found_deps files (length files - 1)) (range_with_len 0 (length files - 1))

-- a graph whose last file depends on all others
abbrev pub is_view : List Entry → Bool
is_view files = is_graph files && is_whole files
