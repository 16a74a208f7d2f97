-- What remains to be proved of `is_utf8`.
use Rattle.std.proofs.Common.{◌∙◌}
use Rattle.testbench_scan.proofs.Utf8Test.{is_utf8-from_result}
use Rattle.testbench_scan.proofs.names.is_utf8.Goals as goal

pub returns : goal.returns
returns c = c.is_ok.ensures.value ∙ is_utf8-from_result c.from_utf8.result c.args.bytes.now _ _ (λ s h. h.1) (λ e h. h.0) c.from_utf8.ensures.cases
