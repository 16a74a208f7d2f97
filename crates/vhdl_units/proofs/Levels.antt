-- Levels of parentheses: two tokens are of one depth where they have one level.
use Rattle.std.proofs.Common.{◌≡◌, ◌≢◌, ℕ, ◌+◌, ◌<◌, ◌≤◌, Bool, cond, List, length, take, drop, slice_range, sym, ◌∙◌, ap, arith, length-drop}
use Rattle.std.specs.List.{count_by}
use Rattle.std.proofs.Math.Seq.{take-length, take-take, drop-length}
use Rattle.std.proofs.lemmas.List.{length-take-le}
use Rattle.std.proofs.lemmas.Slice.{between_is}
use Rattle.std.proofs.lemmas.List.Sums.{sum_by_more, sum_by-take-drop, count_by-le-length}
use Rattle.base.specs.declared.design.Role.{Role}
use Rattle.base.specs.declared.design.Role.TheVariants.{Opening, Closing, Other}
use Rattle.vhdl_spec.specs.Units.{role_at, is_opening, is_closing, IsLevel}
use Rattle.vhdl_units.specs.Delimiters.{level_at}
use Rattle.vhdl_units.proofs.Counting.{not_opening, not_closing}

abbrev one_if : Bool → ℕ
one_if test = cond test 1 0

module _ (roles : List Role) where
  before_more : (test : Role → Bool) (at : ℕ) → at < length roles → count_by test (take (at + 1) roles) ≡ count_by test (take at roles) + cond (test (role_at roles at)) 1 0
  before_more test at within = sum_by_more (λ role. cond (test role) 1 0) roles at Other within

  -- the level of the next token
  pub level_step : (at : ℕ) → at < length roles → level_at roles (at + 1) + cond (is_closing (role_at roles at)) 1 0 ≡ level_at roles at + cond (is_opening (role_at roles at)) 1 0
  level_step at within =
      omega (arith, before_more is_opening at within, before_more is_closing at within, sum_by-take-drop (λ role. cond (is_closing role) 1 0) roles at, sum_by-take-drop (λ role. cond (is_closing role) 1 0) roles (at + 1))

  pub level_small : (at : ℕ) → at ≤ length roles → level_at roles at ≤ length roles
  level_small at within =
      omega (arith, count_by-le-length is_opening (take at roles), count_by-le-length is_closing (drop at roles), length-take-le at roles within, length-drop at roles)

  to_offset : (test : Role → Bool) (start at : ℕ) → start ≤ at → count_by test (take start roles) + count_by test (slice_range roles start at) ≡ count_by test (take at roles)
  to_offset test start at ordered =
      ap (λ (part : List Role). count_by test part + count_by test (slice_range roles start at)) (sym (take-take start at roles ordered)) ∙ ap (λ (part : List Role). count_by test (take start (take at roles)) + count_by test part) (between_is roles start at) ∙ sum_by-take-drop (λ role. cond (test role) 1 0) (take at roles) start

  pub same_level : (start at : ℕ) → start ≤ at → IsLevel roles start at → level_at roles start ≡ level_at roles at
  same_level start at ordered level =
      omega (arith, level, to_offset is_opening start at ordered, to_offset is_closing start at ordered, sum_by-take-drop (λ role. cond (is_closing role) 1 0) roles start, sum_by-take-drop (λ role. cond (is_closing role) 1 0) roles at)

  pub level_again : (start at : ℕ) → start ≤ at → level_at roles start ≡ level_at roles at → IsLevel roles start at
  level_again start at ordered same =
      omega (arith, same, to_offset is_opening start at ordered, to_offset is_closing start at ordered, sum_by-take-drop (λ role. cond (is_closing role) 1 0) roles start, sum_by-take-drop (λ role. cond (is_closing role) 1 0) roles at)

  -- the level of the next token, by the role of the token between
  pub level_opening : (at : ℕ) → at < length roles → role_at roles at ≡ Opening → level_at roles (at + 1) ≡ level_at roles at + 1
  level_opening at within is =
      omega (arith, level_step at within, ap (λ (role : Role). one_if (is_opening role)) is, ap (λ (role : Role). one_if (is_closing role)) is)

  pub level_closing : (at : ℕ) → at < length roles → role_at roles at ≡ Closing → level_at roles at ≡ level_at roles (at + 1) + 1
  level_closing at within is =
      omega (arith, level_step at within, ap (λ (role : Role). one_if (is_opening role)) is, ap (λ (role : Role). one_if (is_closing role)) is)

  pub level_other : (at : ℕ) → at < length roles → role_at roles at ≢ Opening → role_at roles at ≢ Closing → level_at roles (at + 1) ≡ level_at roles at
  level_other at within no_opening no_closing =
      omega (arith, level_step at within, ap one_if (not_opening (role_at roles at) no_opening), ap one_if (not_closing (role_at roles at) no_closing))

  -- at the end of the file each opening parenthesis is one before
  pub level_end : level_at roles (length roles) ≡ count_by is_opening roles
  level_end = omega (arith, ap (count_by is_opening) (take-length roles), ap (count_by is_closing) (drop-length roles))
