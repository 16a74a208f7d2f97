-- The case here fails, and is the last; or it passes.
use Rattle.std.proofs.Common.{◌≡◌, ◌<◌, ◌++◌, ℕ, List, [], length, get_or, ap, ap₂, sym, subst, ◌∙◌}
use Rattle.std.proofs.lemmas.Result.{IfOk-weaker}
use Rattle.child_tools.specs.Benches.{cases_from, failed_case, full_name, start_line}
use Rattle.testbench_runs.specs.Verdicts.{has_case}
use Rattle.child_tools.proofs.Cases.{all_pass, fails_here, passes_here}
use Rattle.child_tools.proofs.Failing.{case_fails}
use Rattle.child_tools.proofs.benches.run_cases.Goals as goal

-- the case of this turn, among those of the bench
case_here : (cases items : List (List ℕ)) (index : ℕ) (name : List ℕ) → items ≡ cases → index < length items → name ≡ get_or items index name → (index < length cases) × (name ≡ get_or cases index name)
case_here cases items index name same within is =
    (subst (λ (all : List (List ℕ)). index < length all) same within, subst (λ (all : List (List ℕ)). name ≡ get_or all index name) same is)

pub returns-then-has : goal.returns-then-has
returns-then-has c =
    let job = c.args.job.now in
    let name : List ℕ = c.name-item.result in
    let here = case_here job.cases c.as_slice-name-items.result.now c.loop-name.name-index name c.as_slice-name-items.ensures c.loop-name-test.true c.name-item.is in
    let full : c.in_ok-full.full ≡ full_name job name = c.in_ok-full.ensures ∙ ap (full_name job) c.bytes.ensures in
    let asked : c.bytes-in-loop-name-2.result.now ≡ full_name job name = c.bytes-in-loop-name-2.ensures ∙ full in
    let told : c.bytes-then-has.result.now ≡ full_name job name = c.bytes-then-has.ensures ∙ full in
    let put : c.put_start.new.results.items ≡ c.loop-name.results.items ++ start_line name = c.in_ok-put_start.ensures ∙ ap (λ (n : List ℕ). c.loop-name.results.items ++ start_line n) c.bytes-in-loop-name.ensures in
    let failing = sym (case_fails job c.args.failing.now c.requires c.loop-name.name-index name here.0 here.1) ∙ (sym (ap (has_case c.args.failing.now) asked) ∙ (sym c.has.ensures ∙ c.if-has.true)) in
    let last = fails_here job c.loop-name.results.items c.as_slice-name-items.result.now c.loop-name.name-index name _ c.loop-name-test.true c.name-item.is c.loop-name.invariant failing in
    IfOk-weaker c.failed_case.result _ _
    (λ exit same. same ∙ (ap₂ failed_case told put ∙ (last ∙ ap (cases_from job []) c.as_slice-name-items.ensures)))
    c.failed_case.ensures

pub loop-name-preserved : goal.loop-name-preserved
loop-name-preserved c =
    let job = c.args.job.now in
    let name : List ℕ = c.name-item.result in
    let here = case_here job.cases c.as_slice-name-items.result.now c.loop-name.name-index name c.as_slice-name-items.ensures c.loop-name-test.true c.name-item.is in
    let asked : c.bytes-in-loop-name-2.result.now ≡ full_name job name = c.bytes-in-loop-name-2.ensures ∙ (c.in_ok-full.ensures ∙ ap (full_name job) c.bytes.ensures) in
    let put : c.put_start.new.results.items ≡ c.loop-name.results.items ++ start_line name = c.in_ok-put_start.ensures ∙ ap (λ (n : List ℕ). c.loop-name.results.items ++ start_line n) c.bytes-in-loop-name.ensures in
    let passing = sym (case_fails job c.args.failing.now c.requires c.loop-name.name-index name here.0 here.1) ∙ (sym (ap (has_case c.args.failing.now) asked) ∙ (sym c.has.ensures ∙ c.if-has.false)) in
    rw put (passes_here job c.loop-name.results.items c.as_slice-name-items.result.now c.loop-name.name-index name _ c.loop-name-test.true c.name-item.is c.loop-name.invariant passing)

pub returns : goal.returns
returns c =
    let done = all_pass c.args.job.now c.loop-name.results.items c.as_slice-name-items.result.now c.loop-name.name-index _ c.loop-name-test.false c.loop-name.invariant in
    IfOk-weaker c.all_done.result _ _
    (λ exit same. same ∙ (done ∙ ap (cases_from c.args.job.now []) c.as_slice-name-items.ensures))
    c.all_done.ensures
