use Rattle.std.proofs.Common.{arith, sym, ap, ◌∙◌, ◌++◌, subst, append_assoc}
use Rattle.session_script.specs.Commands.{is_put_end, text_line}
use Rattle.session_script.specs.Scripts.{Counts, script_of_put}
use Rattle.session_script.proofs.ScriptSteps.{put_done, put_ends, put_more}
use Rattle.session_script.proofs.puts.skip_put.Goals as goal

pub returns-in-Ends-clause-script : goal.returns-in-Ends-clause-script
returns-in-Ends-clause-script g c = λ tells path text.
    let kept = c.loop-ending.invariant.0 tells path text in
    kept.same
    ∙ put_ends (record { path = path; text = text ++ kept.more }) c.loop-ending.lines (g.S.Source.left c.loop-ending.input) c.in-Ends.ending (sym c.in-Ends.is ∙ c.in_ok-ending.ensures.next tells)

pub returns-then-is_put_end-clause-script : goal.returns-then-is_put_end-clause-script
returns-then-is_put_end-clause-script g c = λ tells path text.
    let kept = c.loop-ending.invariant.0 tells path text in
    let counts = subst (λ next. Counts next c.loop-ending.lines c.next.new.self) c.in-Got.is c.in_ok-ending.ensures.count in
    record {
      more = kept.more;
      begins = kept.same ∙ put_done path (text ++ kept.more) c.loop-ending.lines c.next.new.self (g.S.Source.left c.loop-ending.input) (g.S.Source.left c.next.new.input) c.in-Got.line (sym c.in-Got.is ∙ c.in_ok-ending.ensures.next tells) counts.0 (c.in_ok-ending.ensures.left tells) (ap is_put_end (sym c.bytes.ensures) ∙ sym c.is_put_end.ensures ∙ c.if-is_put_end.true);
    }

pub loop-ending-preserved : goal.loop-ending-preserved
loop-ending-preserved g c =
    let counts = subst (λ next. Counts next c.loop-ending.lines c.next.new.self) c.in-Got.is c.in_ok-ending.ensures.count in (
      λ tells path text.
          let kept = c.loop-ending.invariant.0 tells path text in
          record {
            more = kept.more ++ text_line c.in-Got.line;
            same =
                kept.same
                ∙ put_more path (text ++ kept.more) c.loop-ending.lines c.next.new.self (g.S.Source.left c.loop-ending.input) (g.S.Source.left c.next.new.input) c.in-Got.line (sym c.in-Got.is ∙ c.in_ok-ending.ensures.next tells) counts.0 (c.in_ok-ending.ensures.left tells) (ap is_put_end (sym c.bytes.ensures) ∙ sym c.is_put_end.ensures ∙ c.if-is_put_end.false)
                ∙ ap (λ bytes. script_of_put path bytes c.next.new.self (g.S.Source.left c.next.new.input)) (append_assoc text kept.more (text_line c.in-Got.line));
          },
      c.in_ok-ending.ensures.cause ∙ c.loop-ending.invariant.1,
      omega (arith, counts.0, c.loop-ending.invariant.2),
    )
