-- Parentheses up to one token more.
use Rattle.std.proofs.Common.{◌≡◌, ℕ, ◌+◌, ◌<◌, ◌≤◌, Bool, true, false, cond, List, [], ◌∷◌, length, slice_range, sym, ◌∙◌, ap, rules, tests, arith}
use Rattle.std.specs.Prelude.{◌==◌}
use Rattle.std.specs.List.{count_by}
use Rattle.std.proofs.lemmas.List.Edits.{between_more}
use Rattle.std.proofs.lemmas.List.Sums.{sum_by-append}
use Rattle.base.specs.declared.design.Role.{Role}
use Rattle.base.specs.declared.design.Role.TheVariants.{Other}
use Rattle.vhdl_spec.specs.Units.{role_at}

pub count_more : (test : Role → Bool) (roles : List Role) (start at : ℕ) → start ≤ at → at < length roles → count_by test (slice_range roles start (at + 1)) ≡ count_by test (slice_range roles start at) + cond (test (role_at roles at)) 1 0
count_more test roles start at ordered within =
    ap (count_by test) (between_more roles start at Other ordered within) ∙ sum_by-append (λ x. cond (test x) 1 0) (slice_range roles start at) (role_at roles at ∷ []) ∙ ap (λ (n : ℕ). count_by test (slice_range roles start at) + n) (grind arith)

-- how many there are, from how many there were
pub counted : (test : Role → Bool) (roles : List Role) (start at count : ℕ) (answer : Bool) (more : ℕ) → start ≤ at → at < length roles → count ≡ count_by test (slice_range roles start at) → answer ≡ test (role_at roles at) → more ≡ cond answer 1 0 → count + more ≡ count_by test (slice_range roles start (at + 1))
counted test roles start at count answer more ordered within is told one =
    ap (λ (n : ℕ). count + n) one ∙ ap (λ (b : Bool). count + cond b 1 0) told ∙ ap (λ (n : ℕ). n + cond (test (role_at roles at)) 1 0) is ∙ sym (count_more test roles start at ordered within)

pub level_is : (a b c d : ℕ) → a ≡ c → b ≡ d → a ≡ b → (c == d) ≡ true
level_is a b c d one two same = let here : c ≡ d = sym one ∙ same ∙ two in search (rules, tests)

pub level_not : (a b c d : ℕ) → a ≡ c → b ≡ d → (a ≡ b → ⊥) → (c == d) ≡ false
level_not a b c d one two other = let apart : c ≡ d → ⊥ = λ same. other (one ∙ same ∙ sym two) in search (rules, tests)
