-- Flags of positions, which a loop raises one after the other.
use Rattle.std.proofs.Common.{◌≡◌, ◌≢◌, ◌<◌, ◌+◌, ◌∙◌, ℕ, List, length, get_or, set, ap, sym, subst, arith, inl, inr}
use Rattle.std.specs.Prelude.{slice_index}
use Rattle.std.proofs.lemmas.Bool.{cases_lt}
use Rattle.std.proofs.lemmas.Bool.Decides.{eqb_tells}
use Rattle.std.proofs.lemmas.List.{get_or_default, get_or-set_same, get_or-set_other}
use Rattle.tests_graphs.specs.Validity.{Covers}

-- no flag becomes 0 or leaves 0
same_zero : (deps old new : List ℕ) (done position : ℕ) → Covers deps old new done → slice_index old position ≢ 0 → slice_index new position ≢ 0
same_zero deps old new done position covers some e =
    elim (covers position) [
      | inl same ↦ some (sym same ∙ e)
      | inr raised ↦ omega (arith, raised.0, e)
    ]

pub misses : (deps old new : List ℕ) (i : ℕ) → Covers deps old new i → slice_index new (get_or deps i 0) ≡ 0 → slice_index old (get_or deps i 0) ≢ 0 → ⊥
misses deps old new i covers none some = same_zero deps old new i (get_or deps i 0) covers some none

pub held_more : (deps old new : List ℕ) (i : ℕ) → Covers deps old new i → slice_index new (get_or deps i 0) ≢ 0 → ((k : ℕ) → k < i → slice_index old (get_or deps k 0) ≢ 0) → (k : ℕ) → k < i + 1 → slice_index old (get_or deps k 0) ≢ 0
held_more deps old new i covers some held k low e =
    elim (cases_lt k i) [
      | inl l ↦ held k l e
      | inr l ↦
          let same : k ≡ i = omega arith in
          let none : slice_index old (get_or deps i 0) ≡ 0 = subst (λ (n : ℕ). slice_index old (get_or deps n 0) ≡ 0) same e in
          elim (covers (get_or deps i 0)) [
            | inl kept ↦ some (kept ∙ none)
            | inr raised ↦ raised.1 none
          ]
    ]

pub covers_more : (deps old new : List ℕ) (i : ℕ) → i < length deps → get_or deps i 0 < length new → Covers deps old new i → slice_index new (get_or deps i 0) ≢ 0 → Covers deps old (set new (get_or deps i 0) 2) (i + 1)
covers_more deps old new i lt within covers some position =
    elim (eqb_tells position (get_or deps i 0)) [
      | inl yes_it ↦
          let here : get_or (set new (get_or deps i 0) 2) position 0 ≡ 2 = ap (λ (n : ℕ). get_or (set new (get_or deps i 0) 2) n 0) yes_it.1 ∙ get_or-set_same new (get_or deps i 0) 2 0 within in
          let not_none : slice_index old position ≢ 0 = λ e. (elim (covers (get_or deps i 0)) [
            | inl kept ↦ some (kept ∙ subst (λ (n : ℕ). slice_index old n ≡ 0) yes_it.1 e)
            | inr raised ↦ raised.1 (subst (λ (n : ℕ). slice_index old n ≡ 0) yes_it.1 e)
          ]) in
          inr (here, not_none, (i, lt, get_or_default deps i position 0 lt ∙ sym yes_it.1))
      | inr other ↦
          let kept : get_or (set new (get_or deps i 0) 2) position 0 ≡ get_or new position 0 = get_or-set_other new (get_or deps i 0) position 2 0 other.1 in
          elim (covers position) [
            | inl same ↦ inl (kept ∙ same)
            | inr raised ↦ inr (kept ∙ raised.0, raised.1, raised.2)
          ]
    ]
