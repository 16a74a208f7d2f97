-- A line that is a word and a name.
use Rattle.std.proofs.Common.{◌≡◌, ℕ, Bool, true, false, eqb, Option, List, [], ◌∷◌, ◌++◌, codes, refl, sym, ◌∙◌}
use Rattle.std.specs.Option.{option_map_or}
use Rattle.std.specs.Str.{bytes_eq}
use Rattle.std.proofs.lemmas.Bool.{eq-eqb, eqb-true}
use Rattle.child_lines.specs.Lines.{after_word}
use Rattle.child_tools.specs.Benches.{is_entity_line, is_failure}

same_letters : (letter byte : ℕ) (same : Bool) → eqb letter byte ≡ same → eqb byte letter ≡ same
same_letters letter byte true told = eq-eqb byte letter (sym (eqb-true letter byte told))
same_letters letter byte false told = by (eqb byte letter) refl where
  by : (other : Bool) → eqb byte letter ≡ other → eqb byte letter ≡ false
  by false is = is
  by true is = let never : true ≡ false = sym (eq-eqb letter byte (sym (eqb-true byte letter is))) ∙ told in absurd (let none : ⊥ = cc in none)

-- what comes after a word is a name
abbrev pub is_after : List ℕ → Option (List ℕ) → Bool
is_after name found = option_map_or (λ rest. bytes_eq rest name) found false

said_more : (letter byte : ℕ) (word name line : List ℕ) (same : Bool) → eqb letter byte ≡ same → bytes_eq line (word ++ name) ≡ is_after name (after_word word line) → bytes_eq (byte ∷ line) ((letter ∷ word) ++ name) ≡ is_after name (after_word (letter ∷ word) (byte ∷ line))
unfolding after_word
said_more letter byte word name line true told rest = rw (same_letters letter byte true told, told) rest
said_more letter byte word name line false told rest = rw (same_letters letter byte false told, told) refl

-- a line that is a word and a name has the name after the word
pub said : (word name line : List ℕ) → bytes_eq line (word ++ name) ≡ is_after name (after_word word line)
unfolding after_word
said [] name line = refl
said (letter ∷ word) name [] = refl
said (letter ∷ word) name (byte ∷ line) = said_more letter byte word name line (eqb letter byte) refl (said word name line)

pub entity_said : (name line : List ℕ) → is_entity_line name line ≡ is_after name (after_word (codes "unit entity ") line)
unfolding is_entity_line
entity_said name line = said (codes "unit entity ") name line

pub failure_said : (name line : List ℕ) → is_failure name line ≡ is_after name (after_word (codes "script fail ") line)
unfolding is_failure
failure_said name line = said (codes "script fail ") name line
