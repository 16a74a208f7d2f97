-- The unquoted value of a byte followed by the rest of a string.
use Rattle.std.proofs.Common.{◌≡◌, ℕ, ◌<◌, Bool, true, false, cond, ◌&&◌, List, [], ◌∷◌, length, drop, get_or, refl, sym, ap, rules, tests, arith}
use Rattle.std.specs.Prelude.{◌==◌}
use Rattle.vhdl_spec.specs.Tokens.{quote}
use Rattle.vhdl_outline.specs.Calls.{unquoted}

not_quote : (byte : ℕ) → (byte ≡ quote → ⊥) → (byte == quote) ≡ false
not_quote byte other = search (rules, tests)

is_quote : (byte : ℕ) → byte ≡ quote → (byte == quote) ≡ true
is_quote byte is = search (rules, tests)

pub nothing_left : (bytes : List ℕ) → length bytes < 1 → unquoted bytes ≡ []
unfolding unquoted
nothing_left [] none = refl
nothing_left (byte ∷ bytes) none = absurd (omega arith)

second_false : (a b : Bool) → b ≡ false → (a && b) ≡ false
second_false true b is = is
second_false false b is = refl

-- a byte other than a quote
pub after_other : (byte : ℕ) (bytes : List ℕ) → (byte ≡ quote → ⊥) → unquoted (byte ∷ bytes) ≡ byte ∷ unquoted bytes
unfolding unquoted
after_other byte [] other = refl
after_other byte (next ∷ bytes) other = ap (λ (b : Bool). cond (b && (next == quote)) (quote ∷ unquoted bytes) (byte ∷ unquoted (next ∷ bytes))) (not_quote byte other)

pub after_last : (byte : ℕ) (bytes : List ℕ) → length bytes ≡ 0 → unquoted (byte ∷ bytes) ≡ byte ∷ unquoted bytes
unfolding unquoted
after_last byte [] none = refl
after_last byte (next ∷ bytes) none = absurd (omega arith)

-- a byte before another than a quote
pub before_other : (byte : ℕ) (bytes : List ℕ) → (get_or bytes 0 0 ≡ quote → ⊥) → unquoted (byte ∷ bytes) ≡ byte ∷ unquoted bytes
unfolding unquoted
before_other byte [] other = refl
before_other byte (next ∷ bytes) other = ap (λ (b : Bool). cond b (quote ∷ unquoted bytes) (byte ∷ unquoted (next ∷ bytes))) (second_false (byte == quote) (next == quote) (not_quote next other))

-- two quotes
pub before_quote : (byte : ℕ) (bytes : List ℕ) → byte ≡ quote → get_or bytes 0 0 ≡ quote → unquoted (byte ∷ bytes) ≡ byte ∷ unquoted (drop 1 bytes)
unfolding unquoted
before_quote byte [] is next = absurd (omega arith)
before_quote byte (next ∷ bytes) is more = rw (is_quote byte is, is_quote next more) (ap (λ (b : ℕ). b ∷ unquoted bytes) (sym is))
