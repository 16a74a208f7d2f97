use Rattle.vhdl_spec.proofs.OneFinding.{some_finding}
use Rattle.vhdl_spec.proofs.scanners.some_scanner.Goals as goal

pub returns : goal.returns
returns c = (λ text. (some_finding text).0, λ text. (some_finding text).1)
