-- An export nests four deep at most.
use Rattle.std.proofs.Common.{◌≤◌, List, [], ◌∷◌, ◌++◌, map, arith}
use Rattle.serde_json.specs.Data.{Data, depth, items_depth}
use Rattle.serde_json.specs.View.{items_of}
use Rattle.base_outcomes.specs.declared.bench.Bench.{Bench}
use Rattle.base_outcomes.specs.declared.bench.TestCase.{TestCase}
use Rattle.base.specs.declared.graph.Entry.{Entry}
use Rattle.base.specs.declared.project.ProjectFile.{ProjectFile}
use Rattle.report.specs.Export.{file_data, version_data, location_data, test_data, files_data, tests_data, export_data}

files_depth : (graph : List Entry) → items_depth (items_of (files_data graph)) ≤ 1
unfolding file_data
files_depth [] = omega arith
files_depth (entry ∷ rest) = omega (arith, files_depth rest)

cases_depth : (files : List ProjectFile) (bench : Bench) (cases : List TestCase) (more : List Data) → items_depth (items_of more) ≤ 2 → items_depth (items_of (map (test_data files bench) cases ++ more)) ≤ 2
unfolding test_data location_data
cases_depth files bench [] more within = within
cases_depth files bench (case ∷ rest) more within = omega (arith, cases_depth files bench rest more within)

tests_depth : (files : List ProjectFile) (tests : List Bench) → items_depth (items_of (tests_data files tests)) ≤ 2
tests_depth files [] = omega arith
tests_depth files (bench ∷ rest) = cases_depth files bench bench.cases (tests_data files rest) (tests_depth files rest)

pub export_depth : (graph : List Entry) (files : List ProjectFile) (tests : List Bench) → depth (export_data graph files tests) ≤ 127
unfolding export_data version_data
export_depth graph files tests = omega (arith, files_depth graph, tests_depth files tests)
