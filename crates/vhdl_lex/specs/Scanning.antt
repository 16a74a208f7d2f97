-- What a scan gives where the cut, or the fault, is known.
use Rattle.std.specs.Prelude.{◌≡◌, List, Result, Ok, Err}
use Rattle.base.specs.declared.lexical.Tokens.{Tokens}
use Rattle.base.specs.declared.lexical.LexFault.{LexFault}
use Rattle.base.specs.declared.memory.OrMemory.{OrMemory}
use Rattle.base.specs.declared.memory.OrMemory.TheVariants.{NoMemory, Fault}
use Rattle.vhdl_spec.specs.Tokens.{LexicalElement, AreOf}

-- the tokens of these lexical elements, or out of memory
abbrev pub GivesTokens : List LexicalElement → Result Tokens (OrMemory LexFault) → Type 0
GivesTokens lexical_elements (Ok tokens) = AreOf lexical_elements tokens
GivesTokens lexical_elements (Err answer) = answer ≡ NoMemory

-- this lexical fault, or out of memory
abbrev pub GivesFault : LexFault → Result Tokens (OrMemory LexFault) → Type 0
GivesFault fault (Ok tokens) = ⊥
GivesFault fault (Err NoMemory) = Unit {0}
GivesFault fault (Err (Fault given)) = given ≡ fault
