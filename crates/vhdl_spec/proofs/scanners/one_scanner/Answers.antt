-- Answers to the goals of `one_scanner`.
use Rattle.vhdl_spec.proofs.OneFinding.{one_finding}
use Rattle.vhdl_spec.proofs.scanners.one_scanner.Goals as goal

pub returns : goal.returns
returns c = λ scan other is is_other text. one_finding text (scan text) (other text) (is text) (is_other text)
