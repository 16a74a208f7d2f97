-- The parts of a text between delimiters, one after the other.
use Rattle.std.proofs.Common.{◌≡◌, ℕ, suc, ◌+◌, ◌<◌, ◌≤◌, Bool, eqb, ltb, List, [], ◌∷◌, length, take, drop, Some, None, refl, sym, ap, ◌∙◌, arith, inl, inr}
use Rattle.std.specs.List.{slice_split, onto_first, position, position_or_len}
use Rattle.std.specs.Str.Lines.{lines, lines_of_parts, strip_carriage_return}
use Rattle.std.proofs.lemmas.Bool.{cases_Bool, cond-true, cond-false, ltb-true, ltb-false}
use Rattle.std.proofs.lemmas.List.Splits.{slice_split_first, slice_split-cons_no}
use Rattle.std.proofs.lemmas.Option.{none-some, same_Some}

not_found : {X : Type 0} (p : X → Bool) (xs : List X) → length xs ≤ position_or_len p xs → slice_split p xs ≡ xs ∷ []
not_found p [] h = refl
not_found p (x ∷ xs) h =
    elim (cases_Bool (p x)) [
      | inl t ↦ let no_room : suc (length xs) ≤ 0 = rw t at h in absurd (omega arith)
      | inr f ↦ let less : suc (length xs) ≤ 1 + position_or_len p xs = rw f at h in slice_split-cons_no p x xs f ∙ ap (onto_first x) (not_found p xs (omega arith))
    ]

pub split_at_delimiter : {X : Type 0} (p : X → Bool) (xs : List X) (i : ℕ) (d : X) → position p xs ≡ Some i → (i < length xs) × (slice_split p xs ≡ take i xs ∷ slice_split p (drop (i + 1) xs))
split_at_delimiter p xs i d h =
    elim (cases_Bool (ltb (position_or_len p xs) (length xs))) [
      | inl t ↦
          let same : position_or_len p xs ≡ i = same_Some _ _ (sym (cond-true (ltb (position_or_len p xs) (length xs)) (Some (position_or_len p xs)) None t) ∙ h) in
          let low : position_or_len p xs < length xs = ltb-true _ _ t in
          (omega arith, rw same at (slice_split_first p xs d low))
      | inr f ↦ absurd (none-some i (sym (cond-false (ltb (position_or_len p xs) (length xs)) (Some (position_or_len p xs)) None f) ∙ h))
    ]

pub split_no_delimiter : {X : Type 0} (p : X → Bool) (xs : List X) → position p xs ≡ None → slice_split p xs ≡ xs ∷ []
split_no_delimiter p xs h =
    elim (cases_Bool (ltb (position_or_len p xs) (length xs))) [
      | inl t ↦ absurd (none-some (position_or_len p xs) (sym h ∙ cond-true (ltb (position_or_len p xs) (length xs)) (Some (position_or_len p xs)) None t))
      | inr f ↦ not_found p xs (ltb-false _ _ f)
    ]

-- a list has at least one part
some_part : {X : Type 0} (p : X → Bool) (xs : List X) → (part : List X) × (parts : List (List X)) × (slice_split p xs ≡ part ∷ parts)
some_part p [] = ([], [], refl)
some_part {X} p (x ∷ xs) =
    let more = some_part p xs in
    elim (cases_Bool (p x)) [
      | inl t ↦ ([], slice_split p xs, cond-true (p x) ([] ∷ slice_split p xs) (onto_first x (slice_split p xs)) t)
      | inr f ↦ (x ∷ more.0, more.1, cond-false (p x) ([] ∷ slice_split p xs) (onto_first x (slice_split p xs)) f ∙ ap (onto_first x) more.2)
    ]

-- the first of several parts is a line, without its carriage return
pub lines_first : (bytes line rest : List ℕ) → slice_split (λ (byte : ℕ). eqb byte 10) bytes ≡ line ∷ slice_split (λ (byte : ℕ). eqb byte 10) rest → lines bytes ≡ strip_carriage_return line ∷ lines rest
lines_first bytes line rest h =
    let more = some_part (λ (byte : ℕ). eqb byte 10) rest in
    ap lines_of_parts h ∙ ap (λ (parts : List (List ℕ)). lines_of_parts (line ∷ parts)) more.2 ∙ ap (λ (parts : List (List ℕ)). strip_carriage_return line ∷ lines_of_parts parts) (sym more.2)
