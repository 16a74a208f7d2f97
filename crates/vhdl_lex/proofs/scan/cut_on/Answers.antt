-- A gap, and then each lexical element that is found, is read.
use Rattle.std.proofs.Common.{List, sym, ◌∙◌, ap, subst, arith}
use Rattle.base.specs.declared.lexical.Token.{Token}
use Rattle.base.specs.declared.lexical.Span.{Span}
use Rattle.vhdl_spec.specs.Tokens.{line_comment, token}
use Rattle.vhdl_spec.specs.Units.{roles_of}
use Rattle.vhdl_lex.specs.declared.lexical_element.Found.TheVariants.{Unclosed}
use Rattle.vhdl_lex.specs.LexicalElements.{IsFound, IsLexicalElementEnd, Skips, last_of}
use Rattle.vhdl_lex.specs.Reading.{Read}
use Rattle.vhdl_lex.proofs.Steps.{roles_more, read_blanks, read_gap, read_comment, read_token, read_fault}
use Rattle.vhdl_lex.proofs.scan.cut_on.Goals as goal

pub returns-then-at-text-clause-read : goal.returns-then-at-text-clause-read
returns-then-at-text-clause-read c = (omega (arith, c.requires.within, c.if-at-text.true), read_blanks c.args.text.now c.loop-at.list.items c.loop-at.comments.items c.loop-at.at c.gap_end_by-at.result c.loop-at.invariant.read c.gap_end_by-at.ensures)

pub returns-in-Unclosed-clause-read : goal.returns-in-Unclosed-clause-read
returns-in-Unclosed-clause-read c = read_fault c.args.text.now c.loop-at.list.items c.loop-at.comments.items c.gap_end_by-at.result (read_blanks c.args.text.now c.loop-at.list.items c.loop-at.comments.items c.loop-at.at c.gap_end_by-at.result c.loop-at.invariant.read c.gap_end_by-at.ensures) c.in-Unclosed.fault (let within = c.gap_end_by-at.ensures.within in omega (arith, c.if-at-text.false)) (subst (λ (list : List Token). IsFound c.args.text.now (last_of list) c.gap_end_by-at.result (Unclosed c.in-Unclosed.fault)) c.as_slice.ensures.value c.in-Unclosed.ensures)

pub loop-at-preserved-in-Gap : goal.loop-at-preserved-in-Gap
loop-at-preserved-in-Gap c = record {
  ordered = omega (arith, c.loop-at.invariant.ordered, c.gap_end_by-at.ensures.reaches, c.in-Gap.ensures.some);
  read = read_gap c.args.text.now c.loop-at.list.items c.loop-at.comments.items c.gap_end_by-at.result (read_blanks c.args.text.now c.loop-at.list.items c.loop-at.comments.items c.loop-at.at c.gap_end_by-at.result c.loop-at.invariant.read c.gap_end_by-at.ensures) c.in-Gap.end (subst (λ (list : List Token). Skips c.args.text.now (last_of list) c.gap_end_by-at.result c.in-Gap.end) c.as_slice.ensures.value c.in-Gap.ensures);
  roles = c.loop-at.invariant.roles;
}

pub loop-at-preserved-in_ok-push-in-Comment : goal.loop-at-preserved-in_ok-push-in-Comment
loop-at-preserved-in_ok-push-in-Comment c = record {
  ordered = omega (arith, c.loop-at.invariant.ordered, c.gap_end_by-at.ensures.reaches, c.in-Comment.ensures.longest.some);
  read = subst (λ (comments : List Span). Read c.args.text.now c.loop-at.list.items comments c.in-Comment.end) (sym c.in_ok-push-in-Comment.ensures.items)
      (read_comment c.args.text.now c.loop-at.list.items c.loop-at.comments.items c.gap_end_by-at.result (read_blanks c.args.text.now c.loop-at.list.items c.loop-at.comments.items c.loop-at.at c.gap_end_by-at.result c.loop-at.invariant.read c.gap_end_by-at.ensures) c.in-Comment.end (subst (λ (list : List Token). IsLexicalElementEnd line_comment c.args.text.now (last_of list) c.gap_end_by-at.result c.in-Comment.end) c.as_slice.ensures.value c.in-Comment.ensures));
  roles = c.loop-at.invariant.roles;
}

pub push_role-requires : goal.push_role-requires
push_role-requires c = (omega (arith, c.in-Lexeme.ensures.longest.some), omega (arith, c.in-Lexeme.ensures.longest.within))

pub loop-at-preserved : goal.loop-at-preserved
loop-at-preserved c =
    let here : Token = record { kind = c.in-Lexeme.kind; start = c.gap_end_by-at.result; end = c.in-Lexeme.end } in
    record {
      ordered = omega (arith, c.loop-at.invariant.ordered, c.gap_end_by-at.ensures.reaches, c.in-Lexeme.ensures.longest.some);
      read = subst (λ (list : List Token). Read c.args.text.now list c.loop-at.comments.items c.in-Lexeme.end) (sym c.in_ok-push-in-Lexeme.ensures.items)
          (read_token c.args.text.now c.loop-at.list.items c.loop-at.comments.items c.gap_end_by-at.result (read_blanks c.args.text.now c.loop-at.list.items c.loop-at.comments.items c.loop-at.at c.gap_end_by-at.result c.loop-at.invariant.read c.gap_end_by-at.ensures) c.in-Lexeme.kind c.in-Lexeme.end (subst (λ (list : List Token). IsLexicalElementEnd (token c.in-Lexeme.kind) c.args.text.now (last_of list) c.gap_end_by-at.result c.in-Lexeme.end) c.as_slice.ensures.value c.in-Lexeme.ensures));
      roles = c.in_ok-push_role-in-Lexeme.ensures ∙ roles_more c.args.text.now c.loop-at.list.items here c.loop-at.roles.items c.loop-at.invariant.roles ∙ sym (ap (roles_of c.args.text.now) c.in_ok-push-in-Lexeme.ensures.items);
    }
