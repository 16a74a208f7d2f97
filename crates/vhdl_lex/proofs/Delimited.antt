-- The walk to the furthest end of a string or an extended identifier.
use Rattle.std.proofs.Common.{◌≡◌, ◌≢◌, ℕ, zero, suc, ◌+◌, ◌<◌, ◌≤◌, ◌⊎◌, true, false, List, length, slice_index, Option, Some, None, refl, sym, ◌∙◌, ap, subst, inl, inr, ⊎_elim, arith}
use Rattle.std.proofs.str.Laws.{order}
use Rattle.std.proofs.lemmas.List.{get_or_past}
use Rattle.vhdl_spec.specs.Tokens.{is_line_end, Inside, nothing, byte, pair, IsDelimited}
use Rattle.vhdl_spec.proofs.Exists.{in_text, start_inside}
use Rattle.vhdl_spec.proofs.Forms.{none_yet, last_byte, last_pair, last_step}
use Rattle.vhdl_lex.specs.Ends.{IsDelimitedEnd}

-- the first step from an offset inside delimiters towards a later one
data FirstStep (delimiter : ℕ) (text : List ℕ) (at end : ℕ) : Type 0 where
  one : slice_index text at ≢ delimiter → is_line_end (slice_index text at) ≡ false → FirstStep delimiter text at end
  two : slice_index text at ≡ delimiter → slice_index text (at + 1) ≡ delimiter → at + 2 ≤ end → FirstStep delimiter text at end

later_end : {delimiter : ℕ} {text : List ℕ} {at end more : ℕ} → end ≤ more → FirstStep delimiter text at end → FirstStep delimiter text at more
later_end below (one other in_line) = one other in_line
later_end below (two first second reaches) = two first second (omega arith)

-- no pair is cut: a delimiter isn't both inside and the first of a pair
not_half : {delimiter : ℕ} {text : List ℕ} {at : ℕ} → slice_index text at ≡ delimiter → FirstStep delimiter text at (at + 1) → ⊥
not_half is (one other in_line) = other is
not_half is (two first second reaches) = omega arith

first_step : (delimiter : ℕ) (text : List ℕ) (start bound at end : ℕ) → end < bound → Inside delimiter text start at → Inside delimiter text start end → at < end → FirstStep delimiter text at end
first_step delimiter text start zero at end small before inside below = absurd (omega arith)
first_step delimiter text start (suc bound) at end small before inside below =
    elim (last_step inside) [
      | none_yet is ↦ let from = start_inside before in absurd (omega arith)
      | last_byte offset within other in_line up_to ↦
          ⊎_elim
          (λ h. later_end (omega arith) (first_step delimiter text start bound at offset (omega arith) before within h))
          (λ h. let is : offset ≡ at = omega arith in one (subst (λ (n : ℕ). slice_index text n ≢ delimiter) is other) (subst (λ (n : ℕ). is_line_end (slice_index text n) ≡ false) is in_line))
          (order at offset)
      | last_pair offset within first second up_to ↦
          ⊎_elim
          (λ h. later_end (omega arith) (first_step delimiter text start bound at offset (omega arith) before within h))
          (λ h. ⊎_elim
          (λ after. let is : at ≡ offset + 1 = omega arith in absurd (not_half first (first_step delimiter text start bound offset (offset + 1) (omega arith) within (subst (Inside delimiter text start) is before) (omega arith))))
          (λ now. let is : offset ≡ at = omega arith in two (subst (λ (n : ℕ). slice_index text n ≡ delimiter) is first) (subst (λ (n : ℕ). slice_index text (n + 1) ≡ delimiter) is second) (omega arith))
          (order offset at))
          (order at offset)
    ]

-- the furthest end that was met up to an offset
abbrev pub Best : ℕ → List ℕ → ℕ → ℕ → Option ℕ → Type 0
Best delimiter text start at None = (end : ℕ) → IsDelimited delimiter text start end → at < end
Best delimiter text start at (Some best) = (best ≤ length text) × IsDelimited delimiter text start best × ((end : ℕ) → IsDelimited delimiter text start end → (end ≤ best) ⊎ (at < end))

module _ (delimiter : ℕ) (text : List ℕ) (start : ℕ) where
  pub best_at_start : Best delimiter text start (start + 1) None
  best_at_start end delimited = let from = start_inside delimited.inside in omega (arith, delimited.up_to)

  -- an end after an offset is further where the delimiter isn't there
  further : (at : ℕ) → slice_index text at ≢ delimiter → (end : ℕ) → IsDelimited delimiter text start end → at < end → at + 1 < end
  further at other end delimited after =
      ⊎_elim (λ h. h) (λ h. let is : delimited.close ≡ at = omega (arith, delimited.up_to) in absurd (other (sym (ap (slice_index text) is) ∙ delimited.closes))) (order (at + 1) end)

  pub best_past_other : (at : ℕ) (best : Option ℕ) → slice_index text at ≢ delimiter → Best delimiter text start at best → Best delimiter text start (at + 1) best
  best_past_other at None other before = λ end delimited. further at other end delimited (before end delimited)
  best_past_other at (Some best) other before = (before.0, before.1, λ end delimited. ⊎_elim (λ h. inl h) (λ h. inr (further at other end delimited h)) (before.2 end delimited))

  -- every end after an offset, seen from what is inside there
  step_to : (at : ℕ) → Inside delimiter text (start + 1) at → (end : ℕ) (delimited : IsDelimited delimiter text start end) → at + 1 < end → FirstStep delimiter text at delimited.close
  step_to at inside end delimited after = first_step delimiter text (start + 1) (suc delimited.close) at delimited.close (omega arith) inside delimited.inside (omega (arith, delimited.up_to))

  delimited_here : (at : ℕ) → Inside delimiter text (start + 1) at → slice_index text at ≡ delimiter → IsDelimited delimiter text start (at + 1)
  delimited_here at inside is = record { close = at; inside = inside; closes = is; up_to = refl }

  -- a pair is passed
  pub best_past_pair : (at : ℕ) → Inside delimiter text (start + 1) at → at < length text → slice_index text at ≡ delimiter → slice_index text (at + 1) ≡ delimiter → Best delimiter text start (at + 2) (Some (at + 1))
  best_past_pair at inside within first second = (
    omega arith,
    delimited_here at inside first,
    λ end delimited.
        ⊎_elim
        (λ h. ⊎_elim (λ far. inr far) (λ near. let is : delimited.close ≡ at + 1 = omega (arith, delimited.up_to) in absurd (not_half first (subst (FirstStep delimiter text at) is (step_to at inside end delimited h)))) (order (at + 2) end))
        (λ h. inl h)
        (order (at + 1) end),
  )

  -- a delimiter that isn't followed by a second one is the furthest end
  pub furthest_here : (at : ℕ) → Inside delimiter text (start + 1) at → at < length text → slice_index text at ≡ delimiter → slice_index text (at + 1) ≢ delimiter → IsDelimitedEnd delimiter text start (Some (at + 1))
  furthest_here at inside within first other = (
    omega arith,
    delimited_here at inside first,
    λ end delimited.
        ⊎_elim
        (λ h. elim (step_to at inside end delimited h) [ one not_delimiter in_line ↦ absurd (not_delimiter first) | two _ second reaches ↦ absurd (other second) ])
        (λ h. h)
        (order (at + 1) end),
  )

  -- nothing ends after an offset where neither the delimiter nor a byte of the line stands
  none_further : (at : ℕ) → Inside delimiter text (start + 1) at → slice_index text at ≢ delimiter → (is_line_end (slice_index text at) ≡ true) ⊎ (length text ≤ at) → delimiter ≢ 0 → (end : ℕ) → IsDelimited delimiter text start end → at < end → ⊥
  none_further at inside other stops some end delimited after =
      elim (step_to at inside end delimited (further at other end delimited after)) [
        | one not_delimiter in_line ↦ ⊎_elim (λ ends. cc) (λ past. let in_there : delimited.close < length text = in_text text delimited.close (λ zero_there. some (sym delimited.closes ∙ zero_there)) in omega (arith, delimited.up_to)) stops
        | two first second reaches ↦ other first
      ]

  pub best_is_end : (at : ℕ) (best : Option ℕ) → Inside delimiter text (start + 1) at → slice_index text at ≢ delimiter → (is_line_end (slice_index text at) ≡ true) ⊎ (length text ≤ at) → delimiter ≢ 0 → Best delimiter text start at best → IsDelimitedEnd delimiter text start best
  best_is_end at None inside other stops some before = λ end delimited. none_further at inside other stops some end delimited (before end delimited)
  best_is_end at (Some best) inside other stops some before = (before.0, before.1, λ end delimited. ⊎_elim (λ h. h) (λ h. absurd (none_further at inside other stops some end delimited h)) (before.2 end delimited))

-- the walk is at an offset
pub record Walk (delimiter : ℕ) (text : List ℕ) (start at : ℕ) (best : Option ℕ) : Type 0 where
  pub within : at ≤ length text
  pub inside : Inside delimiter text (start + 1) at
  pub furthest : Best delimiter text start at best

module _ (delimiter : ℕ) (text : List ℕ) (start : ℕ) where
  pub walk_start : start < length text → Walk delimiter text start (start + 1) None
  walk_start within = record { within = omega arith; inside = nothing refl; furthest = best_at_start delimiter text start }

  pub walk_other : (at : ℕ) (best : Option ℕ) → Walk delimiter text start at best → at < length text → slice_index text at ≢ delimiter → is_line_end (slice_index text at) ≡ false → Walk delimiter text start (at + 1) best
  walk_other at best walk within other in_line =
      record { within = omega arith; inside = byte walk.inside other in_line refl; furthest = best_past_other delimiter text start at best other walk.furthest }

  pub walk_pair : (at : ℕ) (best : Option ℕ) → Walk delimiter text start at best → delimiter ≢ 0 → at < length text → slice_index text at ≡ delimiter → slice_index text (at + 1) ≡ delimiter → Walk delimiter text start (at + 1 + 1) (Some (at + 1))
  walk_pair at best walk some within first second =
      let there : at + 1 < length text = in_text text (at + 1) (λ zero_there. some (sym second ∙ zero_there)) in
      let two : at + 1 + 1 ≡ at + 2 = omega arith in
      record { within = omega arith; inside = pair walk.inside first second two; furthest = subst (λ (n : ℕ). Best delimiter text start n (Some (at + 1))) (sym two) (best_past_pair delimiter text start at walk.inside within first second) }

  pub walk_ends : (at : ℕ) (best : Option ℕ) → Walk delimiter text start at best → delimiter ≢ 0 → is_line_end delimiter ≡ false → (is_line_end (slice_index text at) ≡ true) ⊎ (length text ≤ at) → IsDelimitedEnd delimiter text start best
  walk_ends at best walk some in_line stops =
      let other : slice_index text at ≢ delimiter = ⊎_elim (λ ends is. let both : is_line_end (slice_index text at) ≡ false = ap is_line_end is ∙ in_line in cc) (λ past is. some (sym is ∙ get_or_past text at 0 past)) stops in
      best_is_end delimiter text start at best walk.inside other stops some walk.furthest
