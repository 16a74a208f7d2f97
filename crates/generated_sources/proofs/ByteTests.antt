-- Tests of bytes, and what follows where two tests pass or one of two.
use Rattle.std.proofs.Common.{◌≡◌, ℕ, ◌⊎◌, inl, inr, Bool, true, false, not, ◌&&◌, ◌||◌, ◌==◌, List, [], ◌∷◌, refl}
use Rattle.std.specs.Prelude.{if◌then◌else◌}
use Rattle.vhdl_spec.specs.Tokens.{is_line_end}

abbrev pub begins_with : (ℕ → Bool) → List ℕ → Bool
begins_with test [] = false
begins_with test (byte ∷ bytes) = test byte

abbrev pub in_line : ℕ → Bool
in_line byte = not (is_line_end byte)

abbrev pub is_empty : List ℕ → Bool
is_empty [] = true
is_empty (byte ∷ bytes) = false

abbrev pub is_quote : ℕ → Bool
is_quote byte = byte == 34

-- bytes of a line other than a quote, and then a quote, after which no other one comes
abbrev pub ends_quoted : List ℕ → List ℕ → Bool
ends_quoted [] rest = false
ends_quoted (byte ∷ bytes) rest = if is_quote byte then is_empty bytes && not (begins_with is_quote rest) else in_line byte && ends_quoted bytes rest

pub both_of : (x y : Bool) → (x && y) ≡ true → (x ≡ true) × (y ≡ true)
both_of true y h = (refl, h)
both_of false y h = let nothing : ⊥ = cc in absurd nothing

pub either_of : (x y : Bool) → (x || y) ≡ true → (x ≡ true) ⊎ (y ≡ true)
either_of true y h = inl refl
either_of false y h = inr h

pub false_both : (x : Bool) → (x && false) ≡ true → ⊥
false_both true h = cc
false_both false h = cc

pub not_false : (x : Bool) → not x ≡ true → x ≡ false
not_false true h = let nothing : ⊥ = cc in absurd nothing
not_false false h = refl
