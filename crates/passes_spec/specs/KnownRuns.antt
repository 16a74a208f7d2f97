-- Which runs are known to pass, and the ends of all runs if the known ones are not started.
use Rattle.std.specs.Prelude.{ℕ, Bool, ◌&&◌, true, false, List, [], ◌∷◌, map, drop, Option, Some, None}
use Rattle.std.specs.Str.{bytes_eq}
use Rattle.std.specs.Cmp.Lexicographic.{pointwise}
use Rattle.std.proofs.Math.Bool.{beq}
use Rattle.base.specs.declared.graph.BuiltFile.{BuiltFile}
use Rattle.base.specs.Names.{is_same_name}
use Rattle.testbench_runs.specs.declared.runs.TestRun.{TestRun}
use Rattle.testbench_runs.specs.declared.ends.RunEnd.{RunEnd}
use Rattle.testbench_runs.specs.declared.ends.Verdict.TheVariants.{Passed}
use Rattle.testbench_runs.specs.Runs.{case_names}
use Rattle.testbench_runs.specs.Verdicts.{unstarted_run}
use Rattle.passes_spec.specs.Passes.{Pass, last_pass}

-- ## What is recalled

-- the same name and artefact
abbrev pub is_same_file : BuiltFile → BuiltFile → Bool
is_same_file a b = is_same_name a.name b.name && bytes_eq a.artefact b.artefact

-- the same run, in all that it has
abbrev pub is_same_run : TestRun → TestRun → Bool
is_same_run a b = bytes_eq a.library b.library && (bytes_eq a.bench b.bench && (bytes_eq a.architecture b.architecture && (pointwise bytes_eq a.cases b.cases && (beq a.whole b.whole && (beq a.same_sim b.same_sim && bytes_eq a.path b.path)))))

-- A pass is current for a run with a simulator over built files: it has this run, these words and these files.
abbrev pub is_current : TestRun → List (List ℕ) → List BuiltFile → Pass → Bool
is_current run simulator built pass = is_same_run pass.run run && (pointwise bytes_eq pass.simulator simulator && pointwise is_same_file pass.built built)

-- the output of a pass that is current
abbrev pub output_if : Bool → Pass → Option (List ℕ)
output_if true pass = Some pass.output
output_if false pass = None

-- the output of a pass that is current; no output without such a pass
abbrev pub output_for : TestRun → List (List ℕ) → List BuiltFile → Option Pass → Option (List ℕ)
output_for run simulator built None = None
output_for run simulator built (Some pass) = output_if (is_current run simulator built pass) pass

-- What is recalled of a run: the output of the last pass of its tests, where that pass is current.
abbrev pub recalled : List Pass → List (List ℕ) → List BuiltFile → TestRun → Option (List ℕ)
recalled passes simulator built run = output_for run simulator built (last_pass run simulator passes)

-- ## Runs that are not started

-- the end of a run that is known to pass, with its output
abbrev pub passed_run : TestRun → List ℕ → RunEnd
passed_run run output = record { names = case_names run; verdicts = map (λ name. Passed) (case_names run); output = output }

-- the runs that are left: this run, unless it is known, and then the rest
abbrev pub left_if : Option (List ℕ) → TestRun → List TestRun → List TestRun
left_if None run rest = run ∷ rest
left_if (Some output) run rest = rest

-- the runs that are left: all that aren't known, in order
unfoldable pub runs_left : (TestRun → Option (List ℕ)) → List TestRun → List TestRun
runs_left known [] = []
runs_left known (run ∷ runs) = left_if (known run) run (runs_left known runs)

-- The end of a run: a known run has passed with its output, and an unknown run has the first of these ends. An unknown run
-- without an end is unstarted.
abbrev pub end_or : Option (List ℕ) → TestRun → List RunEnd → RunEnd
end_or (Some output) run ends = passed_run run output
end_or None run [] = unstarted_run run
end_or None run (end ∷ ends) = end

-- the ends that are left after the end of a run
abbrev pub ends_after : Option (List ℕ) → List RunEnd → List RunEnd
ends_after (Some output) ends = ends
ends_after None ends = drop 1 ends

-- the ends of all runs, in order: the ends of the runs that were left, merged with the ends of the known runs
unfoldable pub merged_ends : (TestRun → Option (List ℕ)) → List TestRun → List RunEnd → List RunEnd
merged_ends known [] ends = []
merged_ends known (run ∷ runs) ends = end_or (known run) run ends ∷ merged_ends known runs (ends_after (known run) ends)
