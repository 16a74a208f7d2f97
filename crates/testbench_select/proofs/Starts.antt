-- Full names by what they begin with.
use Rattle.std.proofs.Common.{◌≡◌, ◌∙◌, ℕ, List, ◌++◌, codes, append_assoc, ap, sym}
use Rattle.base_outcomes.specs.declared.bench.Bench.{Bench}
use Rattle.base_outcomes.specs.declared.bench.TestCase.{TestCase}
use Rattle.testbench_select.specs.Selection.{full_name, name_start}

pub start_then : (bench : Bench) (test_case : TestCase) → name_start bench ++ test_case.name ≡ full_name bench test_case
start_then bench test_case =
    append_assoc bench.library (codes "." ++ (bench.name ++ codes ".")) test_case.name
    ∙ ap (λ (rest : List ℕ). bench.library ++ rest)
    (append_assoc (codes ".") (bench.name ++ codes ".") test_case.name ∙ ap (λ (rest : List ℕ). codes "." ++ rest) (append_assoc bench.name (codes ".") test_case.name))
