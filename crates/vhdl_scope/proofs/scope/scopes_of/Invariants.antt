-- So far the units of the files up to the position.
use Rattle.std.proofs.Common.{◌≡◌, ℕ, List, length}
use Rattle.base.specs.declared.design.Scan.{Scan}
use Rattle.vhdl_outline.specs.Outlines.{FilesAreOf}
use Rattle.vhdl_scope.proofs.ScopeLemmas.{AreFirst}
use Rattle.vhdl_scope.proofs.scope.scopes_of.Given as goal

abbrev pub invariant-loop-file : goal.invariant-loop-file
invariant-loop-file l = record {
  each : length l.starts.items ≡ l.file;
  first : (texts : List (List ℕ)) (scans : List Scan) → FilesAreOf texts scans l.files → AreFirst l.keeps l.project.files texts scans l.file l.starts.items l.groups l.owned.items;
}
