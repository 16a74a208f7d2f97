-- A call names a string.
use Rattle.std.proofs.Common.{sym, ◌∙◌, ap, subst}
use Rattle.std.specs.List.{All}
use Rattle.std.proofs.lemmas.List.Elements.{All-push}
use Rattle.base.specs.declared.lexical.Token.{Token}
use Rattle.vhdl_outline.specs.Calls.{is_string}
use Rattle.vhdl_outline.specs.Runs.{IsStringIn}
use Rattle.vhdl_outline.proofs.Calling.{call_string}
use Rattle.vhdl_outline.proofs.calls.push_call.Goals as goal

pub returns-in_ok-push-clause-lie : goal.returns-in_ok-push-clause-lie
returns-in_ok-push-clause-lie c =
    let text = c.args.text.now in
    let named = ap (λ (t : Token). is_string t.kind) c.token_at.ensures.is ∙ call_string text c.args.tokens.now.list c.args.at (sym c.is_run_call.ensures.value ∙ c.if-is_run_call.true) in
    subst (All (IsStringIn text)) (sym c.in_ok-push.ensures.items) (All-push (IsStringIn text) c.args.strings.now.items c.token_at.result c.requires.lie (c.token_at.ensures.long named))
