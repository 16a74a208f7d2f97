-- Names in a set that is kept in order: a name is found where it is, and one that is put in is there.
use Rattle.std.proofs.Common.{◌≡◌, ℕ, Bool, true, false, ◌||◌, List, [], ◌∷◌, map, refl, sym, ap, ◌∙◌, inl, inr}
use Rattle.std.specs.Borrow.{Bor}
use Rattle.std.specs.List.{list_any}
use Rattle.std.specs.Str.{bytes_eq}
use Rattle.std.specs.Ordering.{is_eq, match_ordering, nat_cmp}
use Rattle.std.specs.Cmp.Lexicographic.{slice_cmp}
use Rattle.std.specs.declared.cmp.Ordering.{Ordering}
use Rattle.std.specs.declared.cmp.Ordering.TheVariants.{Less, Equal, Greater}
use Rattle.std.specs.BTreeSet.{insert_key}
use Rattle.std.proofs.lemmas.Bool.{cases_Bool, both_ways, false_from_ne_true}
use Rattle.std.proofs.lemmas.Map.Text.{is_eq-slice_cmp}
use Rattle.std.proofs.lemmas.Slice.Eq.{bytes_eq-Decides}
use Rattle.testbench_runs.specs.Verdicts.{has_case}

abbrev pub names_of : List (Bor (List ℕ)) → List (List ℕ)
names_of keys = map (λ key. key.now) keys

abbrev pub borrowed_cmp : Bor (List ℕ) → Bor (List ℕ) → Ordering
borrowed_cmp a b = slice_cmp nat_cmp a.now b.now

turned : (a b : List ℕ) → bytes_eq a b ≡ bytes_eq b a
turned a b =
    elim (cases_Bool (bytes_eq a b)) [
      | inl t ↦ t ∙ sym ((bytes_eq-Decides b a).1 (sym ((bytes_eq-Decides a b).0 t)))
      | inr f ↦ f ∙ sym (false_from_ne_true (bytes_eq b a) (λ t. both_ways (bytes_eq a b) f ((bytes_eq-Decides a b).1 (sym ((bytes_eq-Decides b a).0 t)))))
    ]

pub finds : (name : List ℕ) (keys : List (Bor (List ℕ))) → list_any (λ key. is_eq (slice_cmp nat_cmp name key.now)) keys ≡ has_case (names_of keys) name
finds name [] = refl
finds name (key ∷ keys) = rw (is_eq-slice_cmp name key.now ∙ turned name key.now, finds name keys) refl

put_first : (p q r : Bool) → (p || (q || r)) ≡ ((q || r) || p)
put_first true true r = refl
put_first true false true = refl
put_first true false false = refl
put_first false true r = refl
put_first false false true = refl
put_first false false false = refl

put_in_place : (p q r : Bool) → p ≡ q → (q || r) ≡ ((q || r) || p)
put_in_place true true r e = refl
put_in_place true false r e = absurd cc
put_in_place false true r e = absurd cc
put_in_place false false true e = refl
put_in_place false false false e = refl

put_after : (p q r : Bool) → (q || (r || p)) ≡ ((q || r) || p)
put_after p true r = refl
put_after p false r = refl

alone : (p : Bool) → (p || false) ≡ p
alone true = refl
alone false = refl

module _ (key : Bor (List ℕ)) (name : List ℕ) where
  abbrev Puts : List (Bor (List ℕ)) → List (Bor (List ℕ)) → Type 0
  Puts keys new = has_case (names_of new) name ≡ (has_case (names_of keys) name || bytes_eq key.now name)

  puts_beside : (order : Ordering) (other : Bor (List ℕ)) (keys : List (Bor (List ℕ))) → borrowed_cmp key other ≡ order → Puts keys (insert_key borrowed_cmp keys key)
      → Puts (other ∷ keys) (match_ordering order (key ∷ other ∷ keys) (other ∷ keys) (other ∷ insert_key borrowed_cmp keys key))
  puts_beside Less other keys e rest = put_first (bytes_eq key.now name) (bytes_eq other.now name) (has_case (names_of keys) name)
  puts_beside Equal other keys e rest =
      let same : key.now ≡ other.now = (bytes_eq-Decides key.now other.now).0 (sym (is_eq-slice_cmp key.now other.now) ∙ ap is_eq e) in
      put_in_place (bytes_eq key.now name) (bytes_eq other.now name) (has_case (names_of keys) name) (ap (λ (n : List ℕ). bytes_eq n name) same)
  puts_beside Greater other keys e rest =
      ap (λ (b : Bool). bytes_eq other.now name || b) rest ∙ put_after (bytes_eq key.now name) (bytes_eq other.now name) (has_case (names_of keys) name)

  -- the set then has the names that it had, and this one
  pub puts : (keys : List (Bor (List ℕ))) → has_case (names_of (insert_key borrowed_cmp keys key)) name ≡ (has_case (names_of keys) name || bytes_eq key.now name)
  puts [] = alone (bytes_eq key.now name)
  puts (other ∷ keys) = puts_beside (borrowed_cmp key other) other keys refl (puts keys)
