-- The name of a design unit is a part of its text.
use Rattle.std.proofs.Common.{◌≡◌, ℕ, zero, suc, ◌+◌, ◌-◌, ◌≤◌, List, [], ◌∷◌, length, take, drop, arith}
use Rattle.std.specs.Prelude.{slice_range, slice_index_or}
use Rattle.std.specs.Char.{to_ascii_lowercase}
use Rattle.std.proofs.lemmas.List.{length-map}
use Rattle.base.specs.declared.design.Unit.{Unit as DesignUnit}
use Rattle.base.specs.declared.lexical.Token.{Token}
use Rattle.base.specs.declared.lexical.TokenKind.{TokenKind}
use Rattle.base.specs.declared.lexical.TokenKind.TheVariants.{Word, Extended, Number, Str, Char, Tick, Symbol, High}
use Rattle.vhdl_spec.specs.Words.{lower_case}
use Rattle.vhdl_spec.specs.Units.{Element, item, plain, owned, name_by_kind, name_of, name_token, token_at, units_from}

take_short : {X : Type 0} (n : ℕ) (xs : List X) → length (take n xs) ≤ length xs
take_short zero xs = omega arith
take_short (suc n) [] = omega arith
take_short (suc n) (x ∷ xs) = let rest = take_short n xs in omega (arith, rest)

drop_short : {X : Type 0} (n : ℕ) (xs : List X) → length (drop n xs) ≤ length xs
drop_short zero xs = omega arith
drop_short (suc n) [] = omega arith
drop_short (suc n) (x ∷ xs) = let rest = drop_short n xs in omega (arith, rest)

part_short : (text : List ℕ) (from to : ℕ) → length (slice_range text from to) ≤ length text
part_short text from to = let one = take_short (to - from) (drop from text) in let two = drop_short from text in omega (arith, one, two)

low_short : (text : List ℕ) (from to : ℕ) → length (lower_case (slice_range text from to)) ≤ length text
low_short text from to = let one = part_short text from to in omega (arith, one, length-map (slice_range text from to) to_ascii_lowercase)

by_kind : (text : List ℕ) (here : Token) (kind : TokenKind) → length (name_by_kind text here kind) ≤ length text
by_kind text here Extended = part_short text here.start here.end
by_kind text here Word = low_short text here.start here.end
by_kind text here Number = low_short text here.start here.end
by_kind text here Str = low_short text here.start here.end
by_kind text here Char = low_short text here.start here.end
by_kind text here Tick = low_short text here.start here.end
by_kind text here Symbol = low_short text here.start here.end
by_kind text here High = low_short text here.start here.end

named : (text : List ℕ) (tokens : List Token) (at : ℕ) → length (name_of text tokens at) ≤ length text
named text tokens at = by_kind text (token_at tokens at) (token_at tokens at).kind

-- in a list, by its number
abbrev pub AreShort : ℕ → List DesignUnit → Type 0
AreShort size units = (k : ℕ) (other : DesignUnit) → length other.name ≤ size → length (slice_index_or units k other).name ≤ size

one_short : (size : ℕ) (unit : DesignUnit) (units : List DesignUnit) → length unit.name ≤ size → AreShort size units → AreShort size (unit ∷ units)
one_short size unit units here rest zero other is = here
one_short size unit units here rest (suc k) other is = rest k other is

units_short_from : (text : List ℕ) (tokens : List Token) (lead at : ℕ) (elements : List Element) → AreShort (length text) (units_from text tokens lead at elements)
units_short_from text tokens lead at [] = λ k other is. is
units_short_from text tokens lead at (item last ∷ elements) = units_short_from text tokens lead (last + 1) elements
units_short_from text tokens lead at (plain kind last ∷ elements) =
    one_short (length text) _ (units_from text tokens (last + 1) (last + 1) elements) (named text tokens (name_token kind at)) (units_short_from text tokens (last + 1) (last + 1) elements)
units_short_from text tokens lead at (owned kind before last ∷ elements) =
    one_short (length text) _ (units_from text tokens (last + 1) (last + 1) elements) (named text tokens (name_token kind at)) (units_short_from text tokens (last + 1) (last + 1) elements)

pub units_short : (text : List ℕ) (tokens : List Token) (elements : List Element) → AreShort (length text) (units_from text tokens 0 0 elements)
units_short text tokens elements = units_short_from text tokens 0 0 elements
