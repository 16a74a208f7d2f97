-- The invariant of the loop of `check_pairs`: the check of the remaining dependencies has the same result as the check of
-- all.
use Rattle.std.proofs.Common.{◌≡◌, List, [], ℕ, Ok, drop, map}
use Rattle.toml.specs.View.{table_view}
use Rattle.base.specs.declared.project.ProjectFile.{ProjectFile}
use Rattle.project_file.specs.Toml.{files_of, pairs_of}
use Rattle.project_file.specs.Few.{faults_of, AreLibraries}
use Rattle.project_file.proofs.lookups.check_pairs.Given as goal

abbrev pub invariant-loop-i : goal.invariant-loop-i
invariant-loop-i l = (compiler : List (List ℕ)) (files : List ProjectFile) → files_of l.names compiler [] (map (λ t. table_view t.now) l.tables) ≡ Ok files → AreLibraries (map (λ t. table_view t.now) l.tables) l.libraries.keys
    → faults_of (pairs_of files (map (λ t. table_view t.now) (drop l.i l.pairs))) ≡ faults_of (pairs_of files (map (λ t. table_view t.now) l.pairs))
