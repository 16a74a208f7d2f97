-- What a put and a drop change.
use Rattle.std.proofs.Common.{ℕ, ◌≡◌, Bool, true, false, cond, List, [], ◌∷◌, nat_eq, inl, inr, refl, sym, ap, subst, ◌∙◌}
use Rattle.std.specs.Prelude.{Option, Some, None, if◌then◌else◌}
use Rattle.std.specs.List.{AllByRecursion}
use Rattle.std.specs.List.Sorted.{IsStrictlySortedBy}
use Rattle.std.specs.Option.{option_or}
use Rattle.std.specs.Ordering.{nat_cmp, is_eq, match_ordering}
use Rattle.std.specs.BTreeSet.{insert_key}
use Rattle.std.specs.Str.{bytes_eq}
use Rattle.std.specs.declared.cmp.Ordering.TheVariants.{Less, Equal, Greater}
use Rattle.std.specs.Cmp.Lexicographic.{pointwise, slice_cmp}
use Rattle.std.proofs.lemmas.Bool.{cases_Bool}
use Rattle.std.proofs.lemmas.Slice.Eq.{bytes_eq-Decides}
use Rattle.base.specs.declared.file.NamedText.{NamedText}
use Rattle.outside.specs.Trees.{IsRising}
use Rattle.memory_outside.specs.Trees.{file_at, paths_of}
use Rattle.memory_outside.specs.TreeLaws.{rises, same_path, sorted_inserted}
use Rattle.session_texts.specs.Texts.{named_text, with_text, without_text}
use Rattle.session_texts.specs.OverlayTrees.{overlay_file}
use Rattle.session_texts.specs.OverlayTreeLaws.{Sorted, sorted}
use Rattle.session_texts.proofs.TextLemmas.{at_path, none_below}

-- of two conditions that exclude each other, either may be asked first
swap_conditions : {X : Type 0} (a b : Bool) (x y z : X) → (a ≡ true → b ≡ true → ⊥) → cond a x (cond b y z) ≡ cond b y (cond a x z)
swap_conditions true true x y z not_both = absurd (not_both refl refl)
swap_conditions true false x y z not_both = refl
swap_conditions false true x y z not_both = refl
swap_conditions false false x y z not_both = refl

-- two paths that differ aren't both equal to a third
not_both : (first path other : List ℕ) → pointwise nat_eq first path ≡ false → pointwise nat_eq first other ≡ true → pointwise nat_eq path other ≡ true → ⊥
not_both first path other differs one two =
    let same : first ≡ path = (bytes_eq-Decides first other).0 one ∙ sym ((bytes_eq-Decides path other).0 two) in
    let no : false ≡ true = sym differs ∙ (bytes_eq-Decides first path).1 same in
    absurd (let none : ⊥ = cc in none)

-- the new text of a path that had one
put_here : (path text other key bytes : List ℕ) (rest : List NamedText) → path ≡ key → cond (pointwise nat_eq key other) (Some text) (file_at rest other) ≡ cond (pointwise nat_eq path other) (Some text) (cond (pointwise nat_eq key other) (Some bytes) (file_at rest other))
put_here path text other key bytes rest same =
    subst (λ (k : List ℕ). cond (pointwise nat_eq k other) (Some text) (file_at rest other) ≡ cond (pointwise nat_eq path other) (Some text) (cond (pointwise nat_eq k other) (Some bytes) (file_at rest other))) same
    (elim (pointwise nat_eq path other) as (λ b. cond b (Some text) (file_at rest other) ≡ cond b (Some text) (cond b (Some bytes) (file_at rest other))) [ true ↦ refl | false ↦ refl ])

pub put_text : (path text other : List ℕ) (texts : List NamedText) → file_at (with_text path text texts) other ≡ (if bytes_eq path other then Some text else file_at texts other)
put_text path text other [] = refl
put_text path text other (first ∷ rest) =
    (elim (slice_cmp nat_cmp path first.path) as (λ r. slice_cmp nat_cmp path first.path ≡ r → file_at (match_ordering r (named_text path text ∷ first ∷ rest) (named_text first.path text ∷ rest) (first ∷ with_text path text rest)) other ≡ (if bytes_eq path other then Some text else file_at (first ∷ rest) other)) [
      | Less ↦ λ is. refl
      | Equal ↦ λ is. put_here path text other first.path first.bytes rest (same_path path first.path is)
      | Greater ↦ λ is.
          let differs : pointwise nat_eq first.path path ≡ false = sym (at_path path first.path) ∙ ap is_eq is in
          ap (λ (found : Option (List ℕ)). cond (pointwise nat_eq first.path other) (Some first.bytes) found) (put_text path text other rest)
          ∙ swap_conditions (pointwise nat_eq first.path other) (pointwise nat_eq path other) (Some first.bytes) (Some text) (file_at rest other) (not_both first.path path other differs)
    ]) refl

-- a dropped path has no second text
dropped_here : (key other bytes : List ℕ) (rest : List NamedText) → AllByRecursion (λ y. slice_cmp nat_cmp key y ≡ Less) (paths_of rest) → file_at rest other ≡ cond (pointwise nat_eq key other) None (cond (pointwise nat_eq key other) (Some bytes) (file_at rest other))
dropped_here key other bytes rest above =
    elim (cases_Bool (pointwise nat_eq key other)) [
      | inl same ↦ rw same (subst (λ (path : List ℕ). file_at rest path ≡ None) ((bytes_eq-Decides key other).0 same) (none_below key rest above))
      | inr differs ↦ rw differs refl
    ]

neither : (b : Bool) → file_at [] [] ≡ cond b None (file_at [] [])
neither true = refl
neither false = refl

dropped_sorted : (path other : List ℕ) (texts : List NamedText) → Sorted (paths_of texts) → file_at (without_text path texts) other ≡ (if bytes_eq path other then None else file_at texts other)
unfolding IsStrictlySortedBy
dropped_sorted path other [] in_order = neither (pointwise nat_eq path other)
dropped_sorted path other (first ∷ rest) in_order =
    (elim (pointwise nat_eq first.path path) as (λ b. pointwise nat_eq first.path path ≡ b → file_at (cond b rest (first ∷ without_text path rest)) other ≡ (if bytes_eq path other then None else file_at (first ∷ rest) other)) [
      | true ↦ λ is.
          subst (λ (key : List ℕ). file_at rest other ≡ cond (pointwise nat_eq key other) None (file_at (first ∷ rest) other)) ((bytes_eq-Decides first.path path).0 is) (dropped_here first.path other first.bytes rest in_order.0)
      | false ↦ λ differs.
          ap (λ (found : Option (List ℕ)). cond (pointwise nat_eq first.path other) (Some first.bytes) found) (dropped_sorted path other rest in_order.1)
          ∙ swap_conditions (pointwise nat_eq first.path other) (pointwise nat_eq path other) (Some first.bytes) None (file_at rest other) (not_both first.path path other differs)
    ]) refl

pub dropped_text : (path other : List ℕ) (texts : List NamedText) → IsRising (paths_of texts) → file_at (without_text path texts) other ≡ (if bytes_eq path other then None else file_at texts other)
dropped_text path other texts rising = dropped_sorted path other texts (sorted (paths_of texts) rising)

-- a put adds its path to the paths
put_paths : (path text : List ℕ) (texts : List NamedText) → paths_of (with_text path text texts) ≡ insert_key (slice_cmp nat_cmp) (paths_of texts) path
put_paths path text [] = refl
put_paths path text (first ∷ rest) =
    elim (slice_cmp nat_cmp path first.path) as (λ r. paths_of (match_ordering r (named_text path text ∷ first ∷ rest) (named_text first.path text ∷ rest) (first ∷ with_text path text rest)) ≡ match_ordering r (path ∷ paths_of (first ∷ rest)) (paths_of (first ∷ rest)) (first.path ∷ insert_key (slice_cmp nat_cmp) (paths_of rest) path)) [
      | Less ↦ refl
      | Equal ↦ refl
      | Greater ↦ ap (λ (paths : List (List ℕ)). first.path ∷ paths) (put_paths path text rest)
    ]

pub put_rises : (path text : List ℕ) (texts : List NamedText) → IsRising (paths_of texts) → IsRising (paths_of (with_text path text texts))
put_rises path text texts rising =
    subst IsRising (sym (put_paths path text texts)) (rises (insert_key (slice_cmp nat_cmp) (paths_of texts) path) (sorted_inserted (paths_of texts) path (sorted (paths_of texts) rising)))

all_left : (P : List ℕ → Type 0) (path : List ℕ) (texts : List NamedText) → AllByRecursion P (paths_of texts) → AllByRecursion P (paths_of (without_text path texts))
all_left P path [] all = tt
all_left P path (first ∷ rest) all =
    elim (pointwise nat_eq first.path path) as (λ b. AllByRecursion P (paths_of (cond b rest (first ∷ without_text path rest)))) [
      | true ↦ all.1
      | false ↦ (all.0, all_left P path rest all.1)
    ]

left_sorted : (path : List ℕ) (texts : List NamedText) → Sorted (paths_of texts) → Sorted (paths_of (without_text path texts))
unfolding IsStrictlySortedBy
left_sorted path [] in_order = tt
left_sorted path (first ∷ rest) in_order =
    elim (pointwise nat_eq first.path path) as (λ b. Sorted (paths_of (cond b rest (first ∷ without_text path rest)))) [
      | true ↦ in_order.1
      | false ↦ (all_left (λ y. slice_cmp nat_cmp first.path y ≡ Less) path rest in_order.0, left_sorted path rest in_order.1)
    ]

pub drop_rises : (path : List ℕ) (texts : List NamedText) → IsRising (paths_of texts) → IsRising (paths_of (without_text path texts))
drop_rises path texts rising = rises (paths_of (without_text path texts)) (left_sorted path texts (sorted (paths_of texts) rising))

-- the file of a path in an overlay, after a put and after a drop
file_put : (b : Bool) (text : List ℕ) (found base : Option (List ℕ)) → option_or (cond b (Some text) found) base ≡ cond b (Some text) (option_or found base)
file_put true text found base = refl
file_put false text found base = refl

file_dropped : (b : Bool) (found base : Option (List ℕ)) → option_or (cond b None found) base ≡ cond b base (option_or found base)
file_dropped true found base = refl
file_dropped false found base = refl

pub put_file : (path text other : List ℕ) (texts : List NamedText) (file : List ℕ → Option (List ℕ)) → overlay_file (with_text path text texts) file other ≡ (if bytes_eq path other then Some text else overlay_file texts file other)
put_file path text other texts file =
    ap (λ (found : Option (List ℕ)). option_or found (file other)) (put_text path text other texts)
    ∙ file_put (bytes_eq path other) text (file_at texts other) (file other)

pub dropped_file : (path other : List ℕ) (texts : List NamedText) (file : List ℕ → Option (List ℕ)) → IsRising (paths_of texts) → overlay_file (without_text path texts) file other ≡ (if bytes_eq path other then file other else overlay_file texts file other)
dropped_file path other texts file rising =
    ap (λ (found : Option (List ℕ)). option_or found (file other)) (dropped_text path other texts rising)
    ∙ file_dropped (bytes_eq path other) (file_at texts other) (file other)
