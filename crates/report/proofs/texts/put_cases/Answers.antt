-- What remains to be proved of `put_cases`.
use Rattle.std.proofs.Common.{◌++◌, List, ℕ, get_or, refl, ap, ◌∙◌}
use Rattle.testbench_runs.specs.declared.ends.Verdict.{Verdict}
use Rattle.testbench_runs.specs.declared.ends.Verdict.TheVariants.{Passed}
use Rattle.report.specs.TestTexts.{case_line}
use Rattle.report.proofs.Walks.{pair_put, pairs_end}
use Rattle.report.proofs.texts.put_cases.Goals as goal

abbrev line : List ℕ × Verdict → List ℕ
line both = case_line both.0 both.1

pub loop-i-preserved : goal.loop-i-preserved
loop-i-preserved c =
    let verdict : Verdict = get_or c.args.verdicts.now c.loop-i.i Passed in
    pair_put line c.args.names.now c.args.verdicts.now c.loop-i.i c.min-count.result c.min-count.ensures c.index-names-i.result verdict Passed _ c.loop-i.out.items c.put_case.new.out.items
    c.loop-i-test.true c.index-names-i.is refl c.loop-i.invariant (c.in_ok-put_case.ensures ∙ ap (λ (n : List ℕ). c.loop-i.out.items ++ case_line n verdict) c.bytes-name.ensures)

pub returns : goal.returns
returns c = pairs_end line c.args.names.now c.args.verdicts.now c.loop-i.i c.min-count.result c.min-count.ensures _ c.loop-i.out.items c.loop-i-test.false c.loop-i.invariant
