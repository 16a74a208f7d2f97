-- What the program's listing is: sorted paths without repeats are the rising list of the same paths.
use Rattle.std.proofs.Common.{ℕ, ◌≡◌, ◌<◌, ◌≤◌, true, false, cond, List, [], ◌∷◌, length, filter, nat_eq, sym, refl}
use Rattle.std.specs.Prelude.{Contains, IsPermutation, IsSorted}
use Rattle.std.specs.List.{AllByRecursion, dedup}
use Rattle.std.specs.Ordering.{nat_cmp}
use Rattle.std.specs.Cmp.Lexicographic.{pointwise, slice_cmp}
use Rattle.std.proofs.lemmas.Bool.{and_parts, leb-true, le-leb, lt-leb}
use Rattle.std.proofs.lemmas.Cmp.{nat_list_cmp_total, nat_list_eq_equiv}
use Rattle.std.proofs.lemmas.Slice.Eq.{bytes_eq-Decides}
use Rattle.std.proofs.lemmas.Map.Text.{is_eq-slice_cmp}
use Rattle.std.proofs.lemmas.List.Kept.{IsStrictlySortedBy-dedup, Contains-dedup, Contains-from_dedup}
use Rattle.std.proofs.lemmas.List.Sorted.{Contains-permutation, IsPermutation-sym}
use Rattle.std.proofs.lemmas.List.Elements.{All-contains, All-contains_itself, All-weaker, recursion_from_All, All-from_recursion}
use Rattle.base.specs.declared.file.NamedText.{NamedText}
use Rattle.base.specs.declared.limits.TheConstants.{PATH_LIMIT}
use Rattle.outside.specs.Trees.{IsName, is_listed, names_end}
use Rattle.outside.specs.declared.tree.NamesEnd.TheVariants as names
use Rattle.memory_outside.specs.Trees.{IsPath, HavePaths, paths_of, rising_paths}
use Rattle.memory_outside.specs.TreeLaws.{same_sorted, sorted_rising, from_rising, to_rising}

-- the sorted paths without repeats
pub listing_is : (paths sorted : List (List ℕ)) → IsPermutation paths sorted → IsSorted (slice_cmp nat_cmp) sorted → dedup (pointwise nat_eq) sorted ≡ rising_paths paths
listing_is paths sorted moved in_order =
    same_sorted (dedup (pointwise nat_eq) sorted) (rising_paths paths)
    (IsStrictlySortedBy-dedup nat_list_cmp_total (λ x y. sym (is_eq-slice_cmp x y)) sorted in_order) (sorted_rising paths)
    (λ path there. to_rising paths path (Contains-permutation sorted paths path (IsPermutation-sym paths sorted moved) (Contains-from_dedup (pointwise nat_eq) sorted path there)))
    (λ path there. Contains-dedup nat_list_eq_equiv (λ x y e. (bytes_eq-Decides x y).0 e) sorted path (Contains-permutation paths sorted path moved (from_rising paths path there)))

-- a listed path is a name
listed_name : (path : List ℕ) → IsPath path → is_listed path ≡ true → IsName path
listed_name path is listed =
    record { some = is.some; short = leb-true (length path) PATH_LIMIT (and_parts _ _ (and_parts _ _ listed).0).0; text = is.text }

-- each listed path of the files is a name
pub each_name : (files : List NamedText) → HavePaths files → AllByRecursion IsName (filter is_listed (paths_of files))
each_name [] paths = tt
each_name (file ∷ rest) paths =
    let more = each_name rest paths.1 in
    (elim (is_listed file.path) as (λ b. is_listed file.path ≡ b → AllByRecursion IsName (cond b (file.path ∷ filter is_listed (paths_of rest)) (filter is_listed (paths_of rest)))) [
      | true ↦ λ is. (listed_name file.path paths.0 is, more)
      | false ↦ λ is. more
    ]) refl

-- names in rising order are names
pub names_rise : (paths : List (List ℕ)) → AllByRecursion IsName paths → AllByRecursion IsName (rising_paths paths)
names_rise paths all =
    recursion_from_All IsName (rising_paths paths)
    (All-weaker (Contains (rising_paths paths)) IsName
    (λ path there. All-contains IsName paths path (All-from_recursion IsName paths all) (from_rising paths path there))
    (rising_paths paths) (All-contains_itself (rising_paths paths)))

-- the answer to a request for at most `limit` names: all names, or `TooMany` if there are more
pub all_names : (paths : List (List ℕ)) (limit : ℕ) → length paths ≤ limit → names.Got paths ≡ names_end paths limit
all_names paths limit few = rw (le-leb (length paths) limit few) refl

pub too_many_names : (paths : List (List ℕ)) (limit : ℕ) → limit < length paths → names.TooMany ≡ names_end paths limit
too_many_names paths limit many = rw (lt-leb (length paths) limit many) refl
