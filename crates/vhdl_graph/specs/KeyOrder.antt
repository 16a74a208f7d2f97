-- The order of the keys of design units, which is that of their parts, and that the test of two keys decides whether they are equal.
use Rattle.std.specs.Prelude.{◌≡◌, Bool, true, false, ◌&&◌}
use Rattle.std.proofs.Common.{refl, sym, ap, ◌∙◌}
use Rattle.std.specs.Bool.{Decides}
use Rattle.std.specs.Cmp.{IsTotalOrder, on_total}
use Rattle.std.specs.Cmp.Lexicographic.{nat_list_eq_equiv}
use Rattle.std.specs.Ordering.{is_eq, on}
use Rattle.std.specs.Str.{bytes_eq}
use Rattle.std.specs.declared.cmp.Ordering.{Ordering}
use Rattle.vhdl_units.specs.KeyParts.{KeyParts, is_same_flag, is_same_parts, parts_cmp, parts_decide, parts_ties, parts_total}
use Rattle.vhdl_graph.specs.Keys.{DesignUnitKey, is_same_key}

-- what tells keys apart
abbrev pub key_parts : DesignUnitKey → KeyParts
key_parts k = record { first = k.body; second = k.primary; library = k.library; owner = k.entity; name = k.name }

-- the order of keys: by name, entity, library, and what they are of
abbrev pub key_cmp : DesignUnitKey → DesignUnitKey → Ordering
key_cmp = on key_parts parts_cmp

-- the order of keys is total
pub key_total : IsTotalOrder key_cmp
key_total = on_total key_parts parts_total

and_true : (a : Bool) → (a && true) ≡ a
and_true true = refl
and_true false = refl

and_false : (a : Bool) → (a && false) ≡ false
and_false true = refl
and_false false = refl

-- one test more, first or last
moved : (a b c : Bool) → (a && (b && c)) ≡ (b && (a && c))
moved true true c = refl
moved true false c = refl
moved false true c = refl
moved false false c = refl

moved_last : (a b : Bool) → (a && b) ≡ (b && a)
moved_last true b = sym (and_true b)
moved_last false b = sym (and_false b)

-- tests in the other order
turned : (a b c d e : Bool) → (a && (b && (c && (d && e)))) ≡ (e && (d && (c && (b && a))))
turned a b c d e =
    ap (λ (x : Bool). a && (b && x)) (first_last c d e)
    ∙ (ap (λ (x : Bool). a && x) (moved b e (d && c))
    ∙ (moved a e (b && (d && c))
    ∙ ap (λ (x : Bool). e && x) (ap (λ (x : Bool). a && x) (moved b d c) ∙ (moved a d (b && c) ∙ ap (λ (x : Bool). d && x) (first_last a b c))))) where
      first_last : (x y z : Bool) → (x && (y && z)) ≡ (z && (y && x))
      first_last x y z = ap (λ (t : Bool). x && t) (moved_last y z) ∙ (moved x z y ∙ ap (λ (t : Bool). z && t) (moved_last x y))

-- the test of two keys is that of their parts
tests_parts : (a b : DesignUnitKey) → is_same_key a b ≡ is_same_parts (key_parts a) (key_parts b)
tests_parts a b =
    turned (is_same_flag a.primary b.primary) (is_same_flag a.body b.body) (bytes_eq b.library a.library) (bytes_eq b.entity a.entity) (bytes_eq b.name a.name)
    ∙ (ap (λ (x : Bool). x && (bytes_eq b.entity a.entity && (bytes_eq b.library a.library && flags))) (nat_list_eq_equiv.symm b.name a.name)
    ∙ (ap (λ (x : Bool). bytes_eq a.name b.name && (x && (bytes_eq b.library a.library && flags))) (nat_list_eq_equiv.symm b.entity a.entity)
    ∙ ap (λ (x : Bool). bytes_eq a.name b.name && (bytes_eq a.entity b.entity && (x && flags))) (nat_list_eq_equiv.symm b.library a.library))) where
      flags : Bool
      flags = is_same_flag a.body b.body && is_same_flag a.primary b.primary

-- the test finds two keys the same exactly where the order finds them equal
pub key_ties : (a b : DesignUnitKey) → is_same_key a b ≡ is_eq (key_cmp a b)
key_ties a b = tests_parts a b ∙ parts_ties (key_parts a) (key_parts b)

-- a key by its parts
abbrev key_of_parts : KeyParts → DesignUnitKey
key_of_parts k = record { primary = k.second; body = k.first; library = k.library; entity = k.owner; name = k.name }

-- the test of two keys is true exactly where they are equal
pub keys_decide : (a b : DesignUnitKey) → Decides (is_same_key a b) (a ≡ b)
keys_decide a b =
    let same = parts_decide (key_parts a) (key_parts b) in (
      λ told. ap key_of_parts (same.0 (sym (tests_parts a b) ∙ told)),
      λ (is : a ≡ b). tests_parts a b ∙ same.1 (ap key_parts is),
    )
