-- One name more, or the first that came before.
use Rattle.std.proofs.Common.{◌≡◌, ◌∙◌, ◌<◌, ◌+◌, ◌++◌, ◌∷◌, [], ℕ, List, None, length, map, take, drop, get_or, append_assoc, append-nil, reverse, sym, ap, subst, arith}
use Rattle.std.specs.Option.{option_map}
use Rattle.std.proofs.lemmas.List.{map_more, take_all}
use Rattle.std.proofs.lemmas.Result.{err_from_is_err_and}
use Rattle.base_outcomes.specs.declared.bench.TestCase.{TestCase}
use Rattle.base_outcomes.specs.declared.bench.TestFault.TheVariants.{DuplicateTest}
use Rattle.base_outcomes.specs.declared.bench.Bench.{Bench}
use Rattle.testbench_select.specs.Selection.{bench_names, full_name, name_start}
use Rattle.testbench_scan.specs.Benches.{first_repeated}
use Rattle.testbench_scan.specs.Paths.{HoldsFullNames}
use Rattle.testbench_scan.proofs.Leading.{back_grown}
use Rattle.testbench_scan.proofs.Founds.{mapped_split}
use Rattle.testbench_scan.proofs.Repeats.{NoneRepeated, fault_here, none_at_first, none_more}
use Rattle.testbench_scan.proofs.names.add_cases.Goals as goal

pub loop-test_case-init : goal.loop-test_case-init
loop-test_case-init c = record {
  start = c.requires;
  added = λ before holds. (subst (λ (names : List (List ℕ)). HoldsFullNames c.args.names.now names) (sym (append-nil before)) holds, none_at_first before);
}

pub loop-test_case-preserved : goal.loop-test_case-preserved
loop-test_case-preserved c =
    let i : ℕ = c.loop-test_case.test_case-index in
    let bench : Bench = c.args.bench.now in
    let cases : List TestCase = bench.cases in
    let item : TestCase = c.test_case-item.result in
    let name : List ℕ = full_name bench item in
    let so_far : List (List ℕ) = map (full_name bench) (take i cases) in
    let here : item ≡ get_or cases i item = c.test_case-item.is ∙ ap (λ (cs : List TestCase). get_or cs i item) c.as_slice-test_case-items.ensures in
    let within : i < length cases = subst (λ (cs : List TestCase). i < length cs) c.as_slice-test_case-items.ensures c.loop-test_case-test.true in
    let more : map (full_name bench) (take (i + 1) cases) ≡ so_far ++ name ∷ [] = map_more (full_name bench) cases i item within ∙ ap (λ (z : TestCase). so_far ++ full_name bench z ∷ []) (sym here) in
    record {
      start = back_grown c.loop-test_case.names.steps.keys c.add_name.new.names.steps.keys c.args.start (reverse (name_start bench)) c.in_ok-add_name.ensures.grown c.loop-test_case.invariant.start;
      added = λ before holds.
          let kept = c.loop-test_case.invariant.added before holds in
          let added = c.in_ok-add_name.ensures.added (before ++ so_far) (kept.0) in
          let longer : before ++ map (full_name bench) (take (i + 1) cases) ≡ (before ++ so_far) ++ name ∷ [] = ap (λ (ns : List (List ℕ)). before ++ ns) more ∙ sym (append_assoc before so_far (name ∷ [])) in (
            subst (λ (ns : List (List ℕ)). HoldsFullNames c.add_name.new.names ns) (sym longer) (added.1),
            subst (λ (ns : List (List ℕ)). NoneRepeated before ns) (sym more) (none_more before so_far name (kept.1) (added.0)),
          );
    }

pub returns-in_err-add_name : goal.returns-in_err-add_name
returns-in_err-add_name c before holds =
    let p = err_from_is_err_and c.from_residual.result c.from_residual.ensures.1 in
    let i : ℕ = c.loop-test_case.test_case-index in
    let bench : Bench = c.args.bench.now in
    let cases : List TestCase = bench.cases in
    let item : TestCase = c.test_case-item.result in
    let name : List ℕ = full_name bench item in
    let so_far : List (List ℕ) = map (full_name bench) (take i cases) in
    let after : List (List ℕ) = map (full_name bench) (drop (i + 1) cases) in
    let here : item ≡ get_or cases i item = c.test_case-item.is ∙ ap (λ (cs : List TestCase). get_or cs i item) c.as_slice-test_case-items.ensures in
    let within : i < length cases = subst (λ (cs : List TestCase). i < length cs) c.as_slice-test_case-items.ensures c.loop-test_case-test.true in
    let kept = c.loop-test_case.invariant.added before holds in
    let split : map (full_name bench) cases ≡ so_far ++ name ∷ after = mapped_split (full_name bench) cases i item within ∙ ap (λ (z : TestCase). so_far ++ full_name bench z ∷ after) (sym here) in
    rw (p.1, p.2) (fault_here before so_far after (map (full_name bench) cases) name c.in_err-add_name.field-0.0 (kept.1) split (c.in_err-add_name.ensures.added (before ++ so_far) (kept.0)))

pub returns : goal.returns
returns c before holds =
    let cases : List TestCase = c.args.bench.now.cases in
    let kept = c.loop-test_case.invariant.added before holds in
    let all : take c.loop-test_case.test_case-index cases ≡ cases = take_all c.loop-test_case.test_case-index cases (let e = ap length c.as_slice-test_case-items.ensures in omega (arith, e, c.loop-test_case-test.false)) in
    let none : NoneRepeated before (map (full_name c.args.bench.now) cases) = subst (λ (cs : List TestCase). NoneRepeated before (map (full_name c.args.bench.now) cs)) all (kept.1) in
    let nothing : first_repeated before (bench_names c.args.bench.now) ≡ None = ap (first_repeated before) (sym (append-nil (map (full_name c.args.bench.now) cases))) ∙ none [] in
    (ap (option_map DuplicateTest) nothing, subst (λ (cs : List TestCase). HoldsFullNames c.loop-test_case.names (before ++ map (full_name c.args.bench.now) cs)) all (kept.0))
