-- The token is in the text, and a string has two quotes.
use Rattle.std.proofs.Common.{◌≡◌, List, true, ◌∙◌, ap, sym, subst}
use Rattle.std.specs.Prelude.{slice_index_or}
use Rattle.std.proofs.lemmas.List.{get_or_default}
use Rattle.base.specs.declared.lexical.Token.{Token}
use Rattle.base.specs.declared.lexical.TokenKind.TheVariants.{Word, High}
use Rattle.vhdl_spec.specs.Units.{token_at}
use Rattle.vhdl_spec.proofs.Lying.{tokens_lie}
use Rattle.vhdl_outline.specs.Calls.{is_string}
use Rattle.vhdl_outline.specs.Runs.{IsStringIn}
use Rattle.vhdl_outline.proofs.LexicalElements.{strings_long}
use Rattle.vhdl_outline.proofs.calls.token_at.Goals as goal

abbrev word : Token
word = record { kind = Word; start = 0; end = 0 }

abbrev high : Token
high = record { kind = High; start = 0; end = 0 }

pub returns : goal.returns
returns c =
    let text = c.args._text.now in
    let tokens = c.args.tokens.now.list in
    let here : slice_index_or c.as_slice.result.now c.args.at word ≡ token_at tokens c.args.at = ap (λ (ts : List Token). slice_index_or ts c.args.at word) c.as_slice.ensures ∙ get_or_default tokens c.args.at word high c.requires.within in
    let lies = tokens_lie text c.args.tokens.now c.requires.tokens c.args.at c.requires.within in
    record {
      is = here;
      long = subst (λ (t : Token). is_string t.kind ≡ true → IsStringIn text t) (sym here) (λ is. (strings_long text c.args.tokens.now c.requires.tokens c.args.at c.requires.within is, lies.1));
    }
