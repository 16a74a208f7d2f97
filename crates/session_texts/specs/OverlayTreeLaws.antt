-- What an overlay lists are exactly the paths of its files that a tree lists.
use Rattle.std.proofs.Common.{ℕ, ◌≡◌, ◌≤◌, ◌⊎◌, inl, inr, true, false, List, [], ◌∷◌, ◌++◌, length, filter, refl, ap, arith}
use Rattle.std.specs.Prelude.{Option, Some, None, IsSome, Contains}
use Rattle.std.specs.Option.{option_or}
use Rattle.std.specs.Ordering.{nat_cmp, match_ordering}
use Rattle.std.specs.List.{AllByRecursion}
use Rattle.std.specs.List.Sorted.{IsStrictlySortedBy}
use Rattle.std.specs.BTreeSet.{insert_key}
use Rattle.std.specs.Cmp.Lexicographic.{slice_cmp}
use Rattle.std.specs.declared.cmp.Ordering.TheVariants.{Less, Equal, Greater}
use Rattle.std.proofs.lemmas.Cmp.{nat_list_cmp_total}
use Rattle.std.proofs.lemmas.List.Elements.{Contains-append_left, Contains-append_right, Contains-append_cases}
use Rattle.base.specs.declared.file.NamedText.{NamedText}
use Rattle.outside.specs.Trees.{IsRising, IsListOf, Lists, HoldsSame, is_listed}
use Rattle.memory_outside.specs.Trees.{file_at, paths_of, rising_paths}
use Rattle.memory_outside.specs.TreeLaws.{rises, same_sorted, sorted_rising, from_rising, to_rising, filter_has, filter_from, has_file, has_path}
use Rattle.session_texts.specs.OverlayTrees.{overlay_names, overlay_file}

-- strictly sorted paths
abbrev pub Sorted : List (List ℕ) → Type 0
Sorted paths = IsStrictlySortedBy (slice_cmp nat_cmp) paths

-- a path below the first of a rising list is below each
below_rising : (path : List ℕ) (paths : List (List ℕ)) → IsRising (path ∷ paths) → AllByRecursion (λ other. slice_cmp nat_cmp path other ≡ Less) paths
below_rising path [] rising = tt
below_rising path (next ∷ []) rising = (rising.0, tt)
below_rising path (next ∷ after ∷ rest) rising =
    (rising.0, below_rising path (after ∷ rest) (nat_list_cmp_total.trans path next after rising.0 rising.1.0, rising.1.1))

-- rising paths are strictly sorted
pub sorted : (paths : List (List ℕ)) → IsRising paths → Sorted paths
unfolding IsStrictlySortedBy
sorted [] rising = tt
sorted (path ∷ []) rising = (tt, tt)
sorted (path ∷ next ∷ rest) rising = (below_rising path (next ∷ rest) rising, sorted (next ∷ rest) rising.1)

-- rising paths in rising order are the same
pub already_rising : (paths : List (List ℕ)) → IsRising paths → rising_paths paths ≡ paths
already_rising paths rising = same_sorted (rising_paths paths) paths (sorted_rising paths) (sorted paths rising) (from_rising paths) (to_rising paths)

-- a path has an unsaved text or a file of the base
file_or_text : (found file : Option (List ℕ)) → IsSome (option_or found file) → IsSome found ⊎ IsSome file
file_or_text None file there = inr there
file_or_text (Some text) file there = inl refl

text_counts : (found file : Option (List ℕ)) → IsSome found → IsSome (option_or found file)
text_counts None file there = absurd (let no : false ≡ true = there in cc)
text_counts (Some text) file there = refl

file_counts : (found file : Option (List ℕ)) → IsSome file → IsSome (option_or found file)
file_counts None file there = there
file_counts (Some text) file there = refl

module _ (texts : List NamedText) {file : List ℕ → Option (List ℕ)} {paths : List (List ℕ)} (list : IsListOf file paths) where
  abbrev both : List (List ℕ)
  both = filter is_listed (paths_of texts) ++ paths

  lists_either : (path : List ℕ) → Contains (filter is_listed (paths_of texts)) path ⊎ Contains paths path → Lists (overlay_file texts file) path
  lists_either path (inl put) =
      let there : Contains (paths_of texts) path × (is_listed path ≡ true) = filter_from is_listed (paths_of texts) path put in
      (text_counts (file_at texts path) (file path) (has_file texts path there.0.0 there.0.1 there.0.2), there.1)
  lists_either path (inr base) =
      let there : Lists file path = (list.each path).0 base in
      (file_counts (file_at texts path) (file path) there.0, there.1)

  either_listed : (path : List ℕ) → IsSome (file_at texts path) ⊎ IsSome (file path) → is_listed path ≡ true → Contains both path
  either_listed path (inl put) shown =
      let there : Contains (paths_of texts) path = has_path texts path put in
      Contains-append_left (filter is_listed (paths_of texts)) paths path (filter_has is_listed (paths_of texts) path there.0 there.1 there.2 shown)
  either_listed path (inr base) shown = Contains-append_right (filter is_listed (paths_of texts)) paths path ((list.each path).1 (base, shown))

  pub lists_overlay : IsListOf (overlay_file texts file) (overlay_names texts paths)
  lists_overlay = record {
    rising = rises (overlay_names texts paths) (sorted_rising both);
    each = λ path. (
      λ there. lists_either path (Contains-append_cases (filter is_listed (paths_of texts)) paths path (from_rising both path there)),
      λ listed. to_rising both path (either_listed path (file_or_text (file_at texts path) (file path) listed.0) listed.1),
    );
  }

-- a list with one more path is not shorter
no_shorter : (xs : List (List ℕ)) (k : List ℕ) → length xs ≤ length (insert_key (slice_cmp nat_cmp) xs k)
no_shorter [] k = omega arith
no_shorter (x ∷ xs) k =
    let rest = no_shorter xs k in
    elim (slice_cmp nat_cmp k x) as (λ r. length (x ∷ xs) ≤ length (match_ordering r (k ∷ x ∷ xs) (x ∷ xs) (x ∷ insert_key (slice_cmp nat_cmp) xs k))) [
      | Less ↦ omega arith
      | Equal ↦ omega arith
      | Greater ↦ omega (arith, rest)
    ]

longer : (more paths : List (List ℕ)) → IsRising paths → length paths ≤ length (rising_paths (more ++ paths))
longer [] paths rising = let same : length (rising_paths paths) ≡ length paths = ap (λ (some : List (List ℕ)). length some) (already_rising paths rising) in omega (arith, same)
longer (path ∷ more) paths rising =
    let rest = longer more paths rising in
    let one = no_shorter (rising_paths (more ++ paths)) path in
    omega (arith, rest, one)

-- an overlay lists no fewer paths than its base
pub no_fewer : (texts : List NamedText) (paths : List (List ℕ)) → IsRising paths → length paths ≤ length (overlay_names texts paths)
no_fewer texts paths rising = longer (filter is_listed (paths_of texts)) paths rising

-- without unsaved texts an overlay is its base
pub nothing_put : (file : List ℕ → Option (List ℕ)) (paths : List (List ℕ)) → IsListOf file paths → HoldsSame (overlay_file [] file) file (overlay_names [] paths) paths
nothing_put file paths list = record { files = refl; lists = already_rising paths list.rising }
