-- What the buckets of a table say.
use Rattle.std.proofs.Common.{◌≡◌, ℕ, ◌+◌, ◌-◌, ◌<◌, Bool, true, false, true≢false, cond, nat_eq, List, length, set, None, Some, Option, refl, sym, ap, subst, ◌∙◌, rules, tests, arith, eq-eqb}
use Rattle.std.specs.Prelude.{◌==◌}
use Rattle.std.proofs.lemmas.Bool.{eqb-true}
use Rattle.std.proofs.lemmas.List.{get_or-set_other, get_or-set_same, length-set}
use Rattle.base_collections.specs.OrderedKeys.{AreFlagged, first_of, second_of, slot_at, slot_of}

not_is : (a b : ℕ) → (a ≡ b → ⊥) → (a == b) ≡ false
not_is a b differ = search (rules, tests)

some_slot : (number : ℕ) → slot_of (number + 1) ≡ Some number
some_slot number =
    let less : number + 1 - 1 ≡ number = omega arith in
    ap (λ (b : Bool). cond b None (Some (number + 1 - 1))) (not_is (number + 1) 0 (λ e. omega (arith, e))) ∙ ap (λ (n : ℕ). Some n) less

-- a table in which a bucket was given a number
pub put_at : (slots : List ℕ) (bucket number at : ℕ) → bucket < length slots → slot_at (set slots bucket (number + 1)) at ≡ cond (nat_eq bucket at) (Some number) (slot_at slots at)
put_at slots bucket number at low = by (nat_eq bucket at) refl where
  by : (b : Bool) → nat_eq bucket at ≡ b → slot_at (set slots bucket (number + 1)) at ≡ cond b (Some number) (slot_at slots at)
  by true told = ap (slot_at (set slots bucket (number + 1))) (sym (eqb-true bucket at told)) ∙ (ap slot_of (get_or-set_same slots bucket (number + 1) 0 low) ∙ some_slot number)
  by false told = ap slot_of (get_or-set_other slots bucket at (number + 1) 0 (λ e. true≢false (sym (eq-eqb bucket at (sym e)) ∙ told)))

-- keys are found in it as in what it is
pub flagged_in : {K : Type 0} (h : K → ℕ) (slots now : List ℕ) (bucket kept : ℕ) (others : K → Option ℕ) (keys : List K) → now ≡ set slots bucket kept → AreFlagged (λ k. first_of (length slots) (h k)) (λ k. second_of (length slots) (h k)) (length slots) (slot_at (set slots bucket kept)) others keys → AreFlagged (λ k. first_of (length now) (h k)) (λ k. second_of (length now) (h k)) (length now) (slot_at now) others keys
flagged_in h slots now bucket kept others keys is are =
    subst (λ (s : List ℕ). AreFlagged (λ k. first_of (length s) (h k)) (λ k. second_of (length s) (h k)) (length s) (slot_at s) others keys) (sym is)
    (subst (λ (n : ℕ). AreFlagged (λ k. first_of n (h k)) (λ k. second_of n (h k)) n (slot_at (set slots bucket kept)) others keys) (sym (length-set slots bucket kept)) are)
