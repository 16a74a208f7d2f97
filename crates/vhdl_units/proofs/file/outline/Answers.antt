-- What outlining gives is exact, since a file has one outline or one fault.
use Rattle.std.proofs.Common.{List, length, sym, ap, subst, arith}
use Rattle.base.specs.declared.lexical.Token.{Token}
use Rattle.vhdl_spec.specs.Units.{Outlines}
use Rattle.vhdl_spec.proofs.Lying.{Lie, tokens_lie, tokens_few}
use Rattle.vhdl_units.proofs.Exact.{gives_units, gives_unit_fault}
use Rattle.vhdl_units.proofs.file.outline.Goals as goal

pub read-requires-clause-lie : goal.read-requires-clause-lie
read-requires-clause-lie c = subst (Lie (length c.args.text.now)) (sym c.as_slice.ensures) (tokens_lie c.args.text.now c.args.tokens.now c.requires.tokens)

pub read-requires-clause-small : goal.read-requires-clause-small
read-requires-clause-small c = omega (arith, tokens_few c.args.text.now c.args.tokens.now c.requires.tokens, ap length c.as_slice.ensures, c.requires.small)

pub returns-clause-outline : goal.returns-clause-outline
returns-clause-outline c = gives_units c.args.text.now c.args.tokens.now.list c.read.result (subst (λ (tokens : List Token). Outlines c.args.text.now tokens c.read.result) c.as_slice.ensures c.read.ensures)

pub returns-clause-fault : goal.returns-clause-fault
returns-clause-fault c = gives_unit_fault c.args.text.now c.args.tokens.now.list c.read.result (subst (λ (tokens : List Token). Outlines c.args.text.now tokens c.read.result) c.as_slice.ensures c.read.ensures)
