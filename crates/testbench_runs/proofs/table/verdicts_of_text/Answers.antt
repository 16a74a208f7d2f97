-- What remains to be proved of `verdicts_of_text`.
use Rattle.std.proofs.Common.{Bool, map, sym, ap, ◌∙◌}
use Rattle.std.proofs.lemmas.Result.{IfOk-weaker}
use Rattle.base.specs.declared.child.MaybeText.TheVariants.{Given}
use Rattle.testbench_runs.specs.Verdicts.{verdicts}
use Rattle.testbench_runs.specs.Starts.{verdict_by}
use Rattle.testbench_runs.proofs.Sayings.{verdicts_said}
use Rattle.testbench_runs.proofs.table.verdicts_of_text.Goals as goal

pub returns : goal.returns
returns c =
    let cases = c.args.cases.now in
    let text = c.args.text.now in
    let said = c.in_ok-said.said in
    let same = verdicts_said cases c.in_ok-set.set c.args.code text said c.in_ok-set.ensures c.in_ok-said.ensures in
    IfOk-weaker c.verdicts_by.result _ _
    (λ list is. is ∙ ap (λ (w : Bool). map (verdict_by said w) cases) c.ends_well-ends_well.ensures ∙ same ∙ ap (λ (whole : Bool). verdicts cases whole c.args.code (Given text)) (sym c.if-whole.false))
    c.verdicts_by.ensures
