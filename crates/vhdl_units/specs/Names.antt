-- The names of single tokens.
use Rattle.std.specs.Prelude.{ℕ, List}
use Rattle.base.specs.declared.lexical.Token.{Token}
use Rattle.vhdl_spec.specs.Units.{name_by_kind}

-- a word in lower case, an extended identifier as written (15.4)
abbrev pub token_name : List ℕ → Token → List ℕ
token_name text token = name_by_kind text token token.kind
