-- One bench more, or the first fault.
use Rattle.std.proofs.Common.{◌≡◌, ◌∙◌, ◌+◌, ◌++◌, ◌∷◌, [], ℕ, List, map, take, drop, get_or, sym, ap, subst}
use Rattle.std.specs.Prelude.{Result}
use Rattle.std.specs.List.{flat_map}
use Rattle.std.proofs.lemmas.List.{map_more, take_all}
use Rattle.std.proofs.lemmas.Result.{err_from_is_err_and}
use Rattle.base_outcomes.specs.declared.bench.Bench.{Bench}
use Rattle.base_outcomes.specs.declared.bench.TestFault.{TestFault}
use Rattle.base.specs.declared.refs.UnitId.{UnitId}
use Rattle.testbench_scan.specs.Benches.{bench_at, found_bench, names_of_found}
use Rattle.testbench_scan.specs.Files.{scanned}
use Rattle.testbench_scan.specs.Paths.{HoldsFullNames}
use Rattle.testbench_scan.proofs.Founds.{NoneFails, fails_here, gives_all, gives_fault, mapped_split, none_fails_more, parts_push}
use Rattle.testbench_scan.proofs.scanning.benches_of.Goals as goal

abbrev no_unit : UnitId
no_unit = record { file = 0; unit = 0 }

pub loop-entity-preserved : goal.loop-entity-preserved
loop-entity-preserved c scans are holds =
    let kept = c.loop-entity.invariant scans are holds in
    let i : ℕ = c.loop-entity.entity-index in
    let entities : List UnitId = c.args.entities.now in
    let one : Result Bench TestFault = bench_at (scanned c.args.files scans) (get_or entities i no_unit) in
    let so_far : List (Result Bench TestFault) = map (bench_at (scanned c.args.files scans)) (take i entities) in
    let more : map (bench_at (scanned c.args.files scans)) (take (i + 1) entities) ≡ so_far ++ one ∷ [] = map_more (bench_at (scanned c.args.files scans)) entities i no_unit c.loop-entity-test.true in
    let gives = c.in_ok-push_bench.ensures scans (flat_map names_of_found so_far) are holds kept.names in
    record {
      names = subst (λ (found : List (Result Bench TestFault)). HoldsFullNames c.push_bench.new.names (flat_map names_of_found found)) (sym more) (subst (λ (names : List (List ℕ)). HoldsFullNames c.push_bench.new.names names) (sym (parts_push names_of_found so_far one)) (gives.1.0));
      tests = gives.1.1 ∙ ap (λ (tests : List Bench). tests ++ found_bench one) kept.tests ∙ sym (parts_push found_bench so_far one) ∙ ap (flat_map found_bench) (sym more);
      none = subst NoneFails (sym more) (none_fails_more so_far one kept.none (gives.0));
    }

pub returns-in_err-push_bench : goal.returns-in_err-push_bench
returns-in_err-push_bench c scans are holds =
    let kept = c.loop-entity.invariant scans are holds in
    let p = err_from_is_err_and c.from_residual.result c.from_residual.ensures.1 in
    let i : ℕ = c.loop-entity.entity-index in
    let entities : List UnitId = c.args.entities.now in
    let one : Result Bench TestFault = bench_at (scanned c.args.files scans) (get_or entities i no_unit) in
    let so_far : List (Result Bench TestFault) = map (bench_at (scanned c.args.files scans)) (take i entities) in
    let after : List (Result Bench TestFault) = map (bench_at (scanned c.args.files scans)) (drop (i + 1) entities) in
    let told = c.in_err-push_bench.ensures scans (flat_map names_of_found so_far) are holds kept.names in
    rw (p.1, p.2) (gives_fault (map (bench_at (scanned c.args.files scans)) entities) c.in_err-push_bench.field-0.0 (fails_here so_far after (map (bench_at (scanned c.args.files scans)) entities) one c.in_err-push_bench.field-0.0 kept.none (mapped_split (bench_at (scanned c.args.files scans)) entities i no_unit c.loop-entity-test.true) told))

pub returns : goal.returns
returns c scans are holds =
    let kept = c.loop-entity.invariant scans are holds in
    let entities : List UnitId = c.args.entities.now in
    let all : take c.loop-entity.entity-index entities ≡ entities = take_all c.loop-entity.entity-index entities c.loop-entity-test.false in
    gives_all (map (bench_at (scanned c.args.files scans)) entities) c.loop-entity.tests (subst (λ (es : List UnitId). NoneFails (map (bench_at (scanned c.args.files scans)) es)) all kept.none) (kept.tests ∙ ap (λ (es : List UnitId). flat_map found_bench (map (bench_at (scanned c.args.files scans)) es)) all)
