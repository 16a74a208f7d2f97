-- So far the units of the files up to the position are added.
use Rattle.std.proofs.Common.{ℕ, List, length}
use Rattle.base.specs.declared.design.Scan.{Scan}
use Rattle.vhdl_outline.specs.Outlines.{FilesAreOf}
use Rattle.vhdl_graph.specs.Indexes.{ArePositionsOfFiles}
use Rattle.vhdl_graph.proofs.IndexLemmas.{AreIndexed}
use Rattle.vhdl_graph.proofs.index.index_of.Given as goal

abbrev pub invariant-loop-file : goal.invariant-loop-file
invariant-loop-file l = record {
  indices : ArePositionsOfFiles (length l.project.files) l.index;
  indexed : (texts : List (List ℕ)) (scans : List Scan) → FilesAreOf texts scans l.files → AreIndexed l.project.files texts scans l.file l.index;
}
