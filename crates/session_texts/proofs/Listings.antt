-- What an overlay lists, from the paths of its base and of the unsaved texts.
use Rattle.std.proofs.Common.{ℕ, ◌≡◌, ◌⊎◌, inl, inr, true, false, cond, List, [], ◌∷◌, ◌++◌, length, filter, sym, ◌∙◌, arith}
use Rattle.std.specs.Prelude.{Contains}
use Rattle.std.specs.List.{AllByRecursion}
use Rattle.std.proofs.lemmas.Bool.Decides.{leb_tells}
use Rattle.std.proofs.lemmas.List.Elements.{Contains-append_left, Contains-append_right, Contains-append_cases}
use Rattle.base.specs.declared.file.NamedText.{NamedText}
use Rattle.outside.specs.Trees.{IsName, IsRising, is_listed, names_end}
use Rattle.outside.specs.declared.tree.NamesEnd.TheVariants as names
use Rattle.memory_outside.specs.Trees.{paths_of, rising_paths}
use Rattle.memory_outside.specs.TreeLaws.{same_sorted, sorted_rising, from_rising, to_rising}
use Rattle.memory_outside.proofs.ListingLemmas.{all_names, too_many_names}
use Rattle.session_texts.specs.OverlayTrees.{overlay_names}
use Rattle.session_texts.specs.OverlayTreeLaws.{no_fewer}

swapped : (xs ys : List (List ℕ)) (path : List ℕ) → Contains xs path ⊎ Contains ys path → Contains (ys ++ xs) path
swapped xs ys path (inl there) = Contains-append_right ys xs path there
swapped xs ys path (inr there) = Contains-append_left ys xs path there

either_way : (xs ys : List (List ℕ)) (path : List ℕ) → Contains (xs ++ ys) path → Contains (ys ++ xs) path
either_way xs ys path there = swapped xs ys path (Contains-append_cases xs ys path there)

rising_has : (xs ys : List (List ℕ)) (path : List ℕ) → Contains (rising_paths (xs ++ ys)) path → Contains (rising_paths (ys ++ xs)) path
rising_has xs ys path there = to_rising (ys ++ xs) path (either_way xs ys path (from_rising (xs ++ ys) path there))

-- the order of two parts doesn't change the listing of both
pub rising_either_way : (xs ys : List (List ℕ)) → rising_paths (xs ++ ys) ≡ rising_paths (ys ++ xs)
rising_either_way xs ys = same_sorted (rising_paths (xs ++ ys)) (rising_paths (ys ++ xs)) (sorted_rising (xs ++ ys)) (sorted_rising (ys ++ xs)) (rising_has xs ys) (rising_has ys xs)

-- what holds of all paths holds of the listed ones
kept_names : (paths : List (List ℕ)) → AllByRecursion IsName paths → AllByRecursion IsName (filter is_listed paths)
kept_names [] all = tt
kept_names (path ∷ rest) all =
    elim (is_listed path) as (λ b. AllByRecursion IsName (cond b (path ∷ filter is_listed rest) (filter is_listed rest))) [
      | true ↦ (all.0, kept_names rest all.1)
      | false ↦ kept_names rest all.1
    ]

-- the paths of a base and of the unsaved texts are names
pub both_names : (texts : List NamedText) (paths : List (List ℕ)) → AllByRecursion IsName (paths_of texts) → AllByRecursion IsName paths → AllByRecursion IsName (paths ++ filter is_listed (paths_of texts))
both_names texts [] put base = kept_names (paths_of texts) put
both_names texts (path ∷ rest) put base = (base.0, both_names texts rest put base.1)

-- if a base lists too many paths, an overlay does too
pub still_too_many : (texts : List NamedText) (paths : List (List ℕ)) (limit : ℕ) → IsRising paths → names.TooMany ≡ names_end paths limit → names.TooMany ≡ names_end (overlay_names texts paths) limit
still_too_many texts paths limit rising many =
    let more = no_fewer texts paths rising in
    elim (leb_tells (length paths) limit) [
      | inl few ↦
          let end : names.TooMany ≡ names.Got paths = many ∙ sym (all_names paths limit few.1) in
          absurd (let no : ⊥ = cc in no)
      | inr over ↦
          let most = over.1 in
          too_many_names (overlay_names texts paths) limit (omega (arith, more, most))
    ]
