-- What a scan gives is exact, since a text has one cut or one fault.
use Rattle.std.proofs.Common.{ℕ, List, Ok, Err, Result, refl, subst}
use Rattle.base.specs.declared.lexical.Tokens.{Tokens}
use Rattle.base.specs.declared.lexical.LexFault.{LexFault}
use Rattle.base.specs.declared.memory.OrMemory.{OrMemory}
use Rattle.base.specs.declared.memory.OrMemory.TheVariants.{NoMemory, Fault}
use Rattle.vhdl_spec.specs.Tokens.{LexicalElement, IsCut, HasFault, AreOf, Scans}
use Rattle.vhdl_spec.proofs.Cut.{one_cut, one_fault, no_cut_and_fault}
use Rattle.vhdl_lex.specs.Scanning.{GivesTokens, GivesFault}

pub gives_tokens : (text : List ℕ) (result : Result Tokens (OrMemory LexFault)) → Scans text result → (lexical_elements : List LexicalElement) → IsCut text lexical_elements → GivesTokens lexical_elements result
gives_tokens text (Ok tokens) scans lexical_elements cut = subst (λ (ps : List LexicalElement). AreOf ps tokens) (one_cut text scans.0 lexical_elements scans.1 cut) scans.2
gives_tokens text (Err NoMemory) scans lexical_elements cut = refl
gives_tokens text (Err (Fault fault)) scans lexical_elements cut = absurd (no_cut_and_fault text lexical_elements fault cut scans)

pub gives_fault : (text : List ℕ) (result : Result Tokens (OrMemory LexFault)) → Scans text result → (fault : LexFault) → HasFault text fault → GivesFault fault result
gives_fault text (Ok tokens) scans fault has = no_cut_and_fault text scans.0 fault scans.1 has
gives_fault text (Err NoMemory) scans fault has = tt
gives_fault text (Err (Fault given)) scans fault has = one_fault text given fault scans has
