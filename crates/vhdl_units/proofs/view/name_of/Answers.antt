-- Tokens of a cut are in the text.
use Rattle.std.proofs.Common.{length, sym, subst}
use Rattle.vhdl_spec.proofs.Lying.{Lie, tokens_lie}
use Rattle.vhdl_units.proofs.view.name_of.Goals as goal

pub token_name-requires-clause-lie : goal.token_name-requires-clause-lie
token_name-requires-clause-lie c = subst (Lie (length c.args.text.now)) (sym c.as_slice.ensures) (tokens_lie c.args.text.now c.args.tokens.now c.requires.tokens)
