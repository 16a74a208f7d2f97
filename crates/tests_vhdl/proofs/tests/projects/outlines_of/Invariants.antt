-- So far the outlines of the texts up to the position.
use Rattle.std.proofs.Common.{take}
use Rattle.vhdl_outline.specs.Outlines.{AreOutlined}
use Rattle.tests_vhdl.proofs.tests.projects.outlines_of.Given as goal

abbrev pub invariant-loop-at : goal.invariant-loop-at
invariant-loop-at l = AreOutlined (take l.at l.texts) l.outlines
