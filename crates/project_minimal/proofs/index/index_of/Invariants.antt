-- The units of the files up to the next are there.
use Rattle.std.proofs.Common.{length}
use Rattle.project_minimal.specs.MinimalSet.{NeedSources}
use Rattle.project_minimal.specs.Sources.{AreNeeds}
use Rattle.project_minimal.specs.Suppliers.{FitAll, HoldsFiles}
use Rattle.project_minimal.proofs.index.index_of.Given as goal

abbrev pub invariant-loop-file : goal.invariant-loop-file
invariant-loop-file l = record {
  fit : FitAll (length l.sources.project.now.files) l.index;
  holds : (said : NeedSources) → AreNeeds l.sources said → HoldsFiles said l.file l.index;
}
