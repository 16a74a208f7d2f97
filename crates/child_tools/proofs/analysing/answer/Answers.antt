-- A text with a scan, or with a fault.
use Rattle.std.proofs.Common.{◌∙◌, ℕ, None, Some, List, subst}
use Rattle.std.proofs.lemmas.Result.{IfOk-weaker}
use Rattle.child_tools.specs.Found.{IsFoundClean}
use Rattle.child_tools.proofs.AnswerLemmas.{answers_fault, answers_scan}
use Rattle.child_tools.proofs.analysing.answer.Goals as goal

pub returns-in-Some : goal.returns-in-Some
returns-in-Some c scan is =
    let here = subst (IsFoundClean c.bytes.result.now) c.in-Some.is c.in_ok-scan.ensures.scan in
    let found = subst (λ (text : List ℕ). IsFoundClean text (Some c.in-Some.scan)) c.bytes.ensures here in
    IfOk-weaker c.answer_scan.result _ _ (λ exit made. made ∙ answers_scan scan is c.args.job.now c.in-Some.scan found) c.answer_scan.ensures

pub returns : goal.returns
returns c scan is =
    let here = subst (IsFoundClean c.bytes.result.now) c.in-None.is c.in_ok-scan.ensures.scan in
    let found = subst (λ (text : List ℕ). IsFoundClean text None) c.bytes.ensures here in
    IfOk-weaker c.not_vhdl.result _ _ (λ exit made. made ∙ answers_fault scan is c.args.job.now found) c.not_vhdl.ensures
