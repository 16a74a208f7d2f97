-- What the loop of `warning_text` keeps: the lines of the warnings so far are put.
use Rattle.std.proofs.Common.{◌≡◌, take}
use Rattle.report.specs.Texts.{warning_text}
use Rattle.report.proofs.report.warning_text.Given as goal

abbrev pub invariant-loop-i : goal.invariant-loop-i
invariant-loop-i l = l.text.items ≡ warning_text l.project.files (take l.i l.warnings)
