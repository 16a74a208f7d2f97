use Rattle.std.proofs.Common.{sym, ap, ◌∙◌, subst}
use Rattle.session_script.specs.declared.lines.NextLine.TheVariants.{Got}
use Rattle.session_script.specs.Scripts.{Counts}
use Rattle.session_script.proofs.ScriptSteps.{passes_line, put_ends}
use Rattle.session_script.proofs.puts.take_put_line.Goals as goal

pub returns-in-Ends-clause-script : goal.returns-in-Ends-clause-script
returns-in-Ends-clause-script g c = λ tells path.
    put_ends (record { path = path; text = c.args.text.now.items }) c.args.lines.now (g.S.Source.left c.args.input.now) c.in-Ends.ending (sym c.in-Ends.is ∙ c.in_ok-ending.ensures.next tells)

pub returns-in-Ok-clause-script : goal.returns-in-Ok-clause-script
returns-in-Ok-clause-script g c = λ tells path.
    let counts = subst (λ next. Counts next c.args.lines.now c.next.new.self) c.in-Got.is c.in_ok-ending.ensures.count in
    passes_line c.args.limit path c.in-Ok.added c.args.text.now.items c.add_line.new.text.items c.bytes.result.now c.args.lines.now c.next.new.self (g.S.Source.left c.args.input.now) (g.S.Source.left c.next.new.input)
    (ap Got c.bytes.ensures ∙ sym c.in-Got.is ∙ c.in_ok-ending.ensures.next tells) counts.0 (c.in_ok-ending.ensures.left tells) c.in-Ok.ensures
