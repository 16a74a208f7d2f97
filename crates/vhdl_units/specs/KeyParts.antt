-- Keys of two flags and three names: their order, and that the test of two keys decides whether they are equal.
use Rattle.std.specs.Prelude.{◌≡◌, ℕ, Bool, true, false, ◌&&◌, not, List}
use Rattle.std.proofs.Common.{refl, sym, ap, subst, ◌∙◌, true≢false}
use Rattle.std.proofs.lemmas.Bool.{and_from, and_parts}
use Rattle.std.proofs.lemmas.Slice.Eq.{bytes_eq-Decides}
use Rattle.std.specs.Bool.{Decides}
use Rattle.std.specs.Cmp.{IsTotalOrder, bool_cmp_total, both_tied, on_total, then_total}
use Rattle.std.specs.Cmp.Lexicographic.{on_texts, slice_cmp, texts_ties}
use Rattle.std.specs.Ordering.{bool_cmp, is_eq, nat_cmp, on, then_cmp}
use Rattle.std.specs.Str.{bytes_eq}
use Rattle.std.specs.declared.cmp.Ordering.{Ordering}

-- what a key of design units tells apart: two flags of their kind, their library, the owner of secondary units, their name
pub record KeyParts : Type 0 where
  pub first : Bool
  pub second : Bool
  pub library : List ℕ
  pub owner : List ℕ
  pub name : List ℕ

-- both flags are true, or both false
abbrev pub is_same_flag : Bool → Bool → Bool
is_same_flag true other = other
is_same_flag false other = not other

-- two keys have the same name, owner, library and flags
abbrev pub is_same_parts : KeyParts → KeyParts → Bool
is_same_parts a b = bytes_eq a.name b.name && (bytes_eq a.owner b.owner && (bytes_eq a.library b.library && (is_same_flag a.first b.first && is_same_flag a.second b.second)))

-- the order of keys by their flags alone
abbrev pub flags_cmp : KeyParts → KeyParts → Ordering
flags_cmp = then_cmp (on (λ k. k.first) bool_cmp) (on (λ k. k.second) bool_cmp)

-- the order of keys by library, and then by flags
abbrev pub libraries_cmp : KeyParts → KeyParts → Ordering
libraries_cmp = then_cmp (on (λ k. k.library) (slice_cmp nat_cmp)) flags_cmp

-- the order of keys by owner, library and flags
abbrev pub owners_cmp : KeyParts → KeyParts → Ordering
owners_cmp = then_cmp (on (λ k. k.owner) (slice_cmp nat_cmp)) libraries_cmp

-- the order of keys: by name, owner, library and flags. The name comes first, since most keys differ in it.
abbrev pub parts_cmp : KeyParts → KeyParts → Ordering
parts_cmp = then_cmp (on (λ k. k.name) (slice_cmp nat_cmp)) owners_cmp

-- the order of keys is total
pub parts_total : IsTotalOrder parts_cmp
parts_total = then_total (on_texts (λ k. k.name)) (then_total (on_texts (λ k. k.owner)) (then_total (on_texts (λ k. k.library)) (then_total (on_total (λ k. k.first) bool_cmp_total) (on_total (λ k. k.second) bool_cmp_total))))

flags_tied : (a b : Bool) → is_same_flag a b ≡ is_eq (bool_cmp a b)
flags_tied true true = refl
flags_tied true false = refl
flags_tied false true = refl
flags_tied false false = refl

-- the test finds two keys the same exactly where the order finds them equal
pub parts_ties : (a b : KeyParts) → is_same_parts a b ≡ is_eq (parts_cmp a b)
parts_ties a b =
    both_tied _ _ (slice_cmp nat_cmp a.name b.name) _ (texts_ties a.name b.name)
    (both_tied _ _ (slice_cmp nat_cmp a.owner b.owner) _ (texts_ties a.owner b.owner)
    (both_tied _ _ (slice_cmp nat_cmp a.library b.library) _ (texts_ties a.library b.library)
    (both_tied _ _ (bool_cmp a.first b.first) (bool_cmp a.second b.second) (flags_tied a.first b.first) (flags_tied a.second b.second))))

same_flag : (a b : Bool) → is_same_flag a b ≡ true → a ≡ b
same_flag true b told = sym told
same_flag false true told = absurd (true≢false (sym told))
same_flag false false told = refl

flag_itself : (a : Bool) → is_same_flag a a ≡ true
flag_itself true = refl
flag_itself false = refl

same_text : (a b : List ℕ) → bytes_eq a b ≡ true → a ≡ b
same_text a b told = (bytes_eq-Decides a b).0 told

text_itself : (a : List ℕ) → bytes_eq a a ≡ true
text_itself a = (bytes_eq-Decides a a).1 refl

-- a key by its parts
abbrev key : Bool → Bool → List ℕ → List ℕ → List ℕ → KeyParts
key first second library owner name = record { first = first; second = second; library = library; owner = owner; name = name }

same_parts : (a b : KeyParts) → is_same_parts a b ≡ true → a ≡ b
same_parts a b told =
    let one = and_parts (bytes_eq a.name b.name) _ told in
    let two = and_parts (bytes_eq a.owner b.owner) _ one.1 in
    let three = and_parts (bytes_eq a.library b.library) _ two.1 in
    let four = and_parts (is_same_flag a.first b.first) (is_same_flag a.second b.second) three.1 in
    ap (λ (x : List ℕ). key a.first a.second a.library a.owner x) (same_text a.name b.name one.0)
    ∙ (ap (λ (x : List ℕ). key a.first a.second a.library x b.name) (same_text a.owner b.owner two.0)
    ∙ (ap (λ (x : List ℕ). key a.first a.second x b.owner b.name) (same_text a.library b.library three.0)
    ∙ (ap (λ (x : Bool). key x a.second b.library b.owner b.name) (same_flag a.first b.first four.0)
    ∙ ap (λ (x : Bool). key b.first x b.library b.owner b.name) (same_flag a.second b.second four.1))))

parts_itself : (a : KeyParts) → is_same_parts a a ≡ true
parts_itself a = and_from _ _ (text_itself a.name) (and_from _ _ (text_itself a.owner) (and_from _ _ (text_itself a.library) (and_from _ _ (flag_itself a.first) (flag_itself a.second))))

-- the test of two keys is true exactly where they are equal
pub parts_decide : (a b : KeyParts) → Decides (is_same_parts a b) (a ≡ b)
parts_decide a b = (same_parts a b, λ same. subst (λ (k : KeyParts). is_same_parts a k ≡ true) same (parts_itself a))
