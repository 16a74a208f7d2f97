-- The pattern parts of a pattern, one after the other.
use Rattle.std.proofs.Common.{ℕ, ◌≡◌, ◌+◌, ◌<◌, ◌≤◌, zero, suc, List, [], ◌∷◌, length, drop, get_or, arith, refl, sym, ap, ◌∙◌}
use Rattle.std.proofs.lemmas.List.{drop_more, drop_all, drop-drop}
use Rattle.testbench_select.specs.declared.pattern.PatternPart.{PatternPart}
use Rattle.testbench_select.specs.Patterns.{first_pattern_part, pattern_parts_after, pattern_parts_of}

skipped : (taken : ℕ) (bytes : List ℕ) → pattern_parts_after taken bytes ≡ pattern_parts_of (drop taken bytes)
unfolding pattern_parts_after
skipped zero bytes = refl
skipped (suc taken) [] = refl
skipped (suc taken) (byte ∷ bytes) = skipped taken bytes

-- the pattern parts from an offset on: one that takes `taken` bytes after its first byte, then those of the bytes that
-- follow
pub one_more : (bytes : List ℕ) (at : ℕ) (pattern_part : PatternPart) (taken : ℕ) → at < length bytes → (pattern_part, taken) ≡ first_pattern_part (get_or bytes at 0) (drop (at + 1) bytes)
    → pattern_part ∷ pattern_parts_of (drop (at + (1 + taken)) bytes) ≡ pattern_parts_of (drop at bytes)
unfolding pattern_parts_after
one_more bytes at pattern_part taken within is =
    let here = first_pattern_part (get_or bytes at 0) (drop (at + 1) bytes) in
    let rest : pattern_parts_after taken (drop (at + 1) bytes) ≡ pattern_parts_of (drop (at + (1 + taken)) bytes) =
    skipped taken (drop (at + 1) bytes) ∙ ap pattern_parts_of (drop-drop taken (at + 1) bytes) ∙ ap (λ n. pattern_parts_of (drop n bytes)) (omega arith) in
    sym (ap pattern_parts_of (drop_more bytes at 0 within) ∙ ap (λ (found : PatternPart × ℕ). found.0 ∷ pattern_parts_after found.1 (drop (at + 1) bytes)) (sym is) ∙ ap (λ ps. pattern_part ∷ ps) rest)

pub no_pattern_parts : (bytes : List ℕ) (at : ℕ) → length bytes ≤ at → pattern_parts_of (drop at bytes) ≡ []
unfolding pattern_parts_after
no_pattern_parts bytes at past = ap pattern_parts_of (drop_all at bytes past)
