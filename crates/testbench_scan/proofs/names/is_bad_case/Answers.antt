-- The name begins badly, or not, and then its end counts.
use Rattle.std.proofs.Common.{◌≡◌, ◌∙◌, ℕ, false, List, length, not, rules, tests, ap, sym}
use Rattle.std.specs.Prelude.{◌==◌}
use Rattle.testbench_scan.specs.Benches.{is_good_name}
use Rattle.testbench_scan.proofs.Spelling.{bad_end, bad_start}
use Rattle.testbench_scan.proofs.names.is_bad_case.Goals as goal

pub returns-then-not-start_is_good : goal.returns-then-not-start_is_good
returns-then-not-start_is_good c = bad_start c.args.bench.now c.args.test_case.now (sym c.requires ∙ c.if-not-start_is_good.true)

pub returns : goal.returns
returns c =
    let told : (length c.bytes-name.result.now == 0) ≡ false = search (rules, tests, c.is_empty.ensures, c.if-is_empty.false) in
    let some : (length c.args.test_case.now.name == 0) ≡ false = ap (λ (bytes : List ℕ). length bytes == 0) (sym c.bytes-name.ensures) ∙ told in
    ap not (c.is_good_name.ensures ∙ ap is_good_name c.bytes-name.ensures) ∙ bad_end c.args.bench.now c.args.test_case.now some (sym c.requires ∙ c.if-not-start_is_good.false)
