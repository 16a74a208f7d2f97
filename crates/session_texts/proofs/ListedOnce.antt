-- A path with an unsaved text is listed once, and a new path makes a listing longer by one.
use Rattle.std.proofs.Common.{ℕ, ◌≡◌, ◌+◌, Bool, true, false, cond, List, [], ◌∷◌, ◌++◌, length, filter, nat_eq, inl, inr, refl, sym, ap, subst, ◌∙◌, ◌⊎◌, arith}
use Rattle.std.specs.Prelude.{Contains, IsTrue}
use Rattle.std.specs.List.{AllByRecursion}
use Rattle.std.specs.List.Sorted.{IsStrictlySortedBy}
use Rattle.std.specs.Ordering.{nat_cmp, is_eq, match_ordering}
use Rattle.std.specs.BTreeSet.{insert_key}
use Rattle.std.specs.Str.{bytes_eq}
use Rattle.std.specs.declared.cmp.Ordering.TheVariants.{Less, Equal, Greater}
use Rattle.std.specs.Cmp.Lexicographic.{pointwise, slice_cmp}
use Rattle.std.proofs.lemmas.Slice.Eq.{bytes_eq-Decides}
use Rattle.std.proofs.lemmas.Map.Text.{is_eq-slice_cmp}
use Rattle.std.proofs.lemmas.List.Elements.{Contains-append_left}
use Rattle.base.specs.declared.file.NamedText.{NamedText}
use Rattle.outside.specs.Trees.{IsRising, is_listed}
use Rattle.memory_outside.specs.Trees.{paths_of, rising_paths}
use Rattle.memory_outside.specs.TreeLaws.{filter_has, first_in, has_path, in_cons, later_in, none_in, same_path, sorted_rising, to_rising}
use Rattle.session_texts.specs.Texts.{has_text, named_text}
use Rattle.session_texts.specs.OverlayTrees.{overlay_names}
use Rattle.session_texts.specs.OverlayTreeLaws.{Sorted, already_rising}

-- no path above another equals it
none_above : (path : List ℕ) (paths : List (List ℕ)) → AllByRecursion (λ y. slice_cmp nat_cmp path y ≡ Less) paths → filter (bytes_eq path) paths ≡ []
none_above path [] above = refl
none_above path (first ∷ rest) above =
    let differs : pointwise nat_eq path first ≡ false = sym (is_eq-slice_cmp path first) ∙ ap is_eq above.0 in
    rw differs (none_above path rest above.1)

later_only : (path first : List ℕ) (rest : List (List ℕ)) → pointwise nat_eq path first ≡ false → (first ≡ path) ⊎ Contains rest path → Contains rest path
later_only path first rest differs (inl same) =
    let no : false ≡ true = sym differs ∙ (bytes_eq-Decides path first).1 (sym same) in
    absurd (let none : ⊥ = cc in none)
later_only path first rest differs (inr later) = later

-- strictly sorted paths have each path once
once_in : (path : List ℕ) (paths : List (List ℕ)) → Sorted paths → Contains paths path → filter (bytes_eq path) paths ≡ path ∷ []
unfolding IsStrictlySortedBy
once_in path [] sorted there = absurd (none_in path there)
once_in path (first ∷ rest) sorted there =
    (elim (pointwise nat_eq path first) as (λ b. pointwise nat_eq path first ≡ b → cond b (first ∷ filter (bytes_eq path) rest) (filter (bytes_eq path) rest) ≡ path ∷ []) [
      | true ↦ λ is.
          let same : path ≡ first = (bytes_eq-Decides path first).0 is in
          ap (λ (paths : List (List ℕ)). first ∷ paths) (none_above path rest (subst (λ (p : List ℕ). AllByRecursion (λ y. slice_cmp nat_cmp p y ≡ Less) rest) (sym same) sorted.0))
          ∙ ap (λ (p : List ℕ). p ∷ []) (sym same)
      | false ↦ λ differs. once_in path rest sorted.1 (later_only path first rest differs (in_cons first rest path there))
    ]) refl

pub listed_once : (texts : List NamedText) (paths : List (List ℕ)) (path : List ℕ) → IsTrue (has_text texts path) → IsTrue (is_listed path) → filter (bytes_eq path) (overlay_names texts paths) ≡ path ∷ []
listed_once texts paths path has shown =
    let put : List (List ℕ) = filter is_listed (paths_of texts) in
    let there : Contains (paths_of texts) path = has_path texts path has in
    once_in path (overlay_names texts paths) (sorted_rising (put ++ paths))
    (to_rising (put ++ paths) path (Contains-append_left put paths path (filter_has is_listed (paths_of texts) path there.0 there.1 there.2 shown)))

-- a new path makes a list longer by one
one_more : (paths : List (List ℕ)) (path : List ℕ) → (Contains paths path → ⊥) → length (insert_key (slice_cmp nat_cmp) paths path) ≡ length paths + 1
one_more [] path new = omega arith
one_more (first ∷ rest) path new =
    (elim (slice_cmp nat_cmp path first) as (λ r. slice_cmp nat_cmp path first ≡ r → length (match_ordering r (path ∷ first ∷ rest) (first ∷ rest) (first ∷ insert_key (slice_cmp nat_cmp) rest path)) ≡ length (first ∷ rest) + 1) [
      | Less ↦ λ is. omega arith
      | Equal ↦ λ is. absurd (new (subst (Contains (first ∷ rest)) (sym (same_path path first is)) (first_in first rest)))
      | Greater ↦ λ is. let more = one_more rest path (λ there. new (later_in first rest path there)) in omega (arith, more)
    ]) refl

pub one_listed : (path text : List ℕ) (paths : List (List ℕ)) → IsRising paths → IsTrue (is_listed path) → (Contains paths path → ⊥) → length (overlay_names (named_text path text ∷ []) paths) ≡ length paths + 1
one_listed path text paths rising shown new =
    ap (λ (b : Bool). length (rising_paths (cond b (path ∷ []) [] ++ paths))) shown
    ∙ ap (λ (some : List (List ℕ)). length (insert_key (slice_cmp nat_cmp) some path)) (already_rising paths rising)
    ∙ one_more paths path new
