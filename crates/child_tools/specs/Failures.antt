-- The failing cases that are collected while artefacts are scanned.
use Rattle.std.specs.Prelude.{◌≡◌, ℕ, Bool, true, ◌||◌, ◌&&◌, List, ◌∷◌, codes, map}
use Rattle.testbench_runs.specs.Verdicts.{has_case}
use Rattle.testbench_runs.specs.declared.jobs.BenchJob.{BenchJob}
use Rattle.child_tools.specs.Benches.{fails, full_name}

-- the full names to look for: the name of `all`, the case of a bench without named cases, and the names of the cases of the job
abbrev pub full_names : BenchJob → List (List ℕ)
full_names job = map (full_name job) (codes "all" ∷ job.cases)

-- a set contains its old names and the wanted names that pass a test, and no others
abbrev pub Takes : List (List ℕ) → (List ℕ → Bool) → List (List ℕ) → List (List ℕ) → Type 0
Takes wanted test old new = (name : List ℕ) → has_case new name ≡ (has_case old name || (has_case wanted name && test name))

-- a set contains a full name of the job exactly if that case fails
abbrev pub KnowsFailures : BenchJob → List (List ℕ) → Type 0
KnowsFailures job failing = (name : List ℕ) → has_case (full_names job) name ≡ true → has_case failing name ≡ fails job.built name
