-- So far the files up to the position are linked.
use Rattle.std.proofs.Common.{List}
use Rattle.base.specs.declared.design.Scan.{Scan}
use Rattle.vhdl_outline.specs.Outlines.{AreOutlinesOf}
use Rattle.vhdl_graph.proofs.FileLemmas.{AreLinked}
use Rattle.vhdl_graph.proofs.linking.link_files.Given as goal

abbrev pub invariant-loop-file : goal.invariant-loop-file
invariant-loop-file l = (scans : List Scan) → AreOutlinesOf l.texts scans l.outlines → AreLinked l.project l.texts scans l.file l.edges l.warnings
