-- Tokens of a cut are in the text.
use Rattle.std.proofs.Common.{◌<◌, ◌≤◌, length, subst}
use Rattle.std.proofs.lemmas.List.{get_or_default}
use Rattle.base.specs.declared.lexical.Token.{Token}
use Rattle.base.specs.declared.lexical.TokenKind.TheVariants.{High}
use Rattle.vhdl_spec.proofs.Lying.{tokens_lie, tokens_few}
use Rattle.vhdl_spec.proofs.laws.laws_of_tokens.Goals as goal

pub returns-clause-within : goal.returns-clause-within
returns-clause-within c text tokens are k d inside =
    subst (λ (token : Token). (token.start < token.end) × (token.end ≤ length text)) (get_or_default tokens.list k (record { kind = High; start = 0; end = 0 }) d inside)
    (tokens_lie text tokens are k inside)

pub returns-clause-few : goal.returns-clause-few
returns-clause-few c = tokens_few
