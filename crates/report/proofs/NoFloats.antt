-- There is no float in an export.
use Rattle.std.proofs.Common.{◌≡◌, Bool, false, ◌||◌, List, [], ◌∷◌, ◌++◌, map, refl, ap, ◌∙◌}
use Rattle.serde_json.specs.Data.{Data}
use Rattle.serde_json.specs.View.{items_of}
use Rattle.serde_json.specs.Written.{has_float, items_have_float}
use Rattle.base_outcomes.specs.declared.bench.Bench.{Bench}
use Rattle.base_outcomes.specs.declared.bench.TestCase.{TestCase}
use Rattle.base.specs.declared.graph.Entry.{Entry}
use Rattle.base.specs.declared.project.ProjectFile.{ProjectFile}
use Rattle.report.specs.Export.{file_data, version_data, location_data, test_data, files_data, tests_data, export_data}

none_in_files : (graph : List Entry) → items_have_float (items_of (files_data graph)) ≡ false
unfolding file_data
none_in_files [] = refl
none_in_files (entry ∷ rest) = none_in_files rest

none_in_cases : (files : List ProjectFile) (bench : Bench) (cases : List TestCase) (more : List Data) → items_have_float (items_of more) ≡ false → items_have_float (items_of (map (test_data files bench) cases ++ more)) ≡ false
unfolding test_data location_data
none_in_cases files bench [] more none = none
none_in_cases files bench (case ∷ rest) more none = none_in_cases files bench rest more none

none_in_tests : (files : List ProjectFile) (tests : List Bench) → items_have_float (items_of (tests_data files tests)) ≡ false
none_in_tests files [] = refl
none_in_tests files (bench ∷ rest) = none_in_cases files bench bench.cases (tests_data files rest) (none_in_tests files rest)

pub none_in_export : (graph : List Entry) (files : List ProjectFile) (tests : List Bench) → has_float (export_data graph files tests) ≡ false
unfolding export_data version_data
none_in_export graph files tests =
    ap (λ (b : Bool). b || (items_have_float (items_of (tests_data files tests)) || false)) (none_in_files graph) ∙ ap (λ (b : Bool). b || false) (none_in_tests files tests)
