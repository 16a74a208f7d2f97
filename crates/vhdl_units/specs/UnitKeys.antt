-- The order of the keys of primary units, and that the test of two keys decides whether they are equal.
use Rattle.std.specs.Prelude.{◌≡◌, ℕ, Bool, ◌&&◌, List}
use Rattle.std.proofs.Common.{ap, ◌∙◌}
use Rattle.std.proofs.lemmas.Bool.Decides.{Decides-and}
use Rattle.std.proofs.lemmas.Slice.Eq.{bytes_eq-Decides}
use Rattle.std.specs.Bool.{Decides}
use Rattle.std.specs.Cmp.{IsTotalOrder, both_tied, then_total}
use Rattle.std.specs.Cmp.Lexicographic.{on_texts, slice_cmp, texts_ties}
use Rattle.std.specs.Ordering.{is_eq, nat_cmp, on, then_cmp}
use Rattle.std.specs.Str.{bytes_eq}
use Rattle.std.specs.declared.cmp.Ordering.{Ordering}
use Rattle.vhdl_units.specs.declared.units.UnitKey.{UnitKey}

-- the key of a library and a name
abbrev pub unit_key : List ℕ → List ℕ → UnitKey
unit_key library name = record { library = library; name = name }

-- keys of the same library and the same name are equal
pub same_parts : (library its_library name its_name : List ℕ) → library ≡ its_library → name ≡ its_name → unit_key library name ≡ unit_key its_library its_name
same_parts library its_library name its_name first second = ap (λ (l : List ℕ). unit_key l name) first ∙ ap (unit_key its_library) second

-- two keys have the same name and the same library
abbrev pub is_same_unit : UnitKey → UnitKey → Bool
is_same_unit a b = bytes_eq a.name b.name && bytes_eq a.library b.library

-- the order of keys: by name, and then by library, since few units share a name
abbrev pub unit_cmp : UnitKey → UnitKey → Ordering
unit_cmp = then_cmp (on (λ k. k.name) (slice_cmp nat_cmp)) (on (λ k. k.library) (slice_cmp nat_cmp))

-- the order of keys is total
pub unit_total : IsTotalOrder unit_cmp
unit_total = then_total (on_texts (λ k. k.name)) (on_texts (λ k. k.library))

-- the test finds two keys the same exactly where the order finds them equal
pub unit_ties : (a b : UnitKey) → is_same_unit a b ≡ is_eq (unit_cmp a b)
unit_ties a b = both_tied _ _ (slice_cmp nat_cmp a.name b.name) (slice_cmp nat_cmp a.library b.library) (texts_ties a.name b.name) (texts_ties a.library b.library)

-- the test of two keys is true exactly where they are equal
pub units_decide : (a b : UnitKey) → Decides (is_same_unit a b) (a ≡ b)
units_decide a b =
    let both = Decides-and _ _ (bytes_eq-Decides a.name b.name) (bytes_eq-Decides a.library b.library) in (
      λ e. same_parts a.library b.library a.name b.name (both.0 e).1 (both.0 e).0,
      λ e. both.1 (ap (λ (n : UnitKey). n.name) e, ap (λ (n : UnitKey). n.library) e),
    )
