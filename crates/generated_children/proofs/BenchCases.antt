-- What the tokens of the generated bench say of tests, and which runs its tests have, by computation.
use Rattle.std.proofs.Common.{◌≡◌, ℕ, true, false, List, [], ◌∷◌, ◌++◌, refl, ap, ◌∙◌}
use Rattle.std.specs.Prelude.{Ok, codes, map}
use Rattle.std.specs.Char.{encode_utf8}
use Rattle.std.specs.List.{flat_map}
use Rattle.std.specs.Str.{chars, is_utf8}
use Rattle.base.specs.declared.lexical.Token.{Token}
use Rattle.base.specs.declared.project.ProjectFile.{ProjectFile}
use Rattle.base_outcomes.specs.declared.bench.Bench.{Bench}
use Rattle.vhdl_spec.specs.Units.{word_role}
use Rattle.vhdl_spec.specs.Words.{reserved_words}
use Rattle.vhdl_outline.specs.Calls.{called_cases, unquoted}
use Rattle.vhdl_outline.specs.Runs.{is_bench_unit}
use Rattle.testbench_scan.specs.Benches.{tests_found}
use Rattle.testbench_select.specs.Fits.{fits_pattern_parts}
use Rattle.testbench_select.specs.Patterns.{first_pattern_part, pattern_parts_after, pattern_parts_of}
use Rattle.testbench_select.specs.Selection.{selection}
use Rattle.testbench_runs.specs.Runs.{bench_runs, path_at}
use Rattle.generated_project.specs.Files.{bench_body, bench_head, bench_path}
use Rattle.generated_sources.specs.BenchScans.{bench_architecture, bench_entity, bench_entity_name, bench_file_tokens}
use Rattle.generated_sources.specs.PackageLinks.{used_library}
use Rattle.generated_sources.specs.PackageScans.{package_unit}
use Rattle.generated_children.specs.BenchTests.{runs_of_all, bench_cases, generated_bench}
use Rattle.generated_children.specs.TestedBench.{both_runs, first_case, second_case}

pub bench_is : is_bench_unit (bench_head ++ bench_body) bench_file_tokens bench_entity ≡ true
unfolding bench_head bench_body word_role reserved_words
bench_is = refl

pub no_bench : (text : List ℕ) (tokens : List Token) (number : ℕ) → is_bench_unit text tokens (package_unit number) ≡ false
no_bench text tokens number = refl

pub cases_are : (position : ℕ) → called_cases position (bench_head ++ bench_body) bench_file_tokens bench_architecture ≡ bench_cases position
unfolding bench_head bench_body word_role reserved_words unquoted first_case second_case
cases_are position = refl

-- nothing is wrong with its names
pub names_right : (position : ℕ) → tests_found (Ok (generated_bench position) ∷ []) ≡ Ok (generated_bench position ∷ [])
unfolding encode_utf8 chars is_utf8 used_library bench_entity_name first_case second_case
names_right position = refl

all_selected : (position : ℕ) → selection (map pattern_parts_of (codes "*" ∷ [])) (generated_bench position ∷ []) ≡ generated_bench position ∷ []
unfolding first_pattern_part pattern_parts_after fits_pattern_parts used_library bench_entity_name first_case second_case
all_selected position = refl

runs_of : (files : List ProjectFile) (position : ℕ) → path_at files position ≡ bench_path → bench_runs files (generated_bench position) ++ [] ≡ both_runs
unfolding bench_runs
runs_of files position is = rw is refl

pub runs_are : (files : List ProjectFile) (position : ℕ) → path_at files position ≡ bench_path → runs_of_all files (generated_bench position ∷ []) ≡ both_runs
runs_are files position is = ap (λ (tests : List Bench). flat_map (bench_runs files) tests) (all_selected position) ∙ runs_of files position is
