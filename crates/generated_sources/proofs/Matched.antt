-- The files that the patterns of the generated project file match.
use Rattle.std.proofs.Common.{◌≡◌, ℕ, ◌^◌, ◌<◌, Bool, true, false, not, ◌&&◌, List, [], ◌∷◌, ◌++◌, length, map, refl, ap, ◌∙◌, arith}
use Rattle.std.specs.Prelude.{codes, filter, Ok, Err}
use Rattle.std.specs.Fmt.{decimal}
use Rattle.std.specs.List.{AllByRecursion, list_any}
use Rattle.std.proofs.lemmas.Bool.{cond-true, cond-false}
use Rattle.base.specs.declared.project.ProjectFault.{ProjectFault}
use Rattle.vhdl_spec.proofs.SomeTests.{and_both, or_first, or_second}
use Rattle.project_file.specs.Paths.{components, is_any_components, is_component_of, matches_path}
use Rattle.project_file.specs.Toml.{is_among, matching_names}
use Rattle.testbench_select.specs.Fits.{ends_of, fits_pattern_parts}
use Rattle.testbench_select.specs.Patterns.{first_pattern_part, opened_set, pattern_parts_after, pattern_parts_of, set_after, set_length, before_closing, ranges_of}
use Rattle.testbench_select.specs.Segments.{is_any_bytes, is_match, is_right}
use Rattle.generated_project.specs.Files.{bench_path, package_path, source_end, source_folder, toml_path}
use Rattle.generated_sources.proofs.Listed.{package_parts}

-- the two patterns
unfoldable pub source_pattern : List ℕ
source_pattern = codes "src/*.vhd"

unfoldable pub bench_pattern : List ℕ
bench_pattern = codes "tb.vhd"

-- some end of a list passes
ends_any : {X : Type 0} (f : List X → Bool) (front end : List X) → f end ≡ true → list_any f (ends_of (front ++ end)) ≡ true
ends_any f [] [] passes = or_first (f []) false passes
ends_any f [] (x ∷ end) passes = or_first (f (x ∷ end)) (list_any f (ends_of end)) passes
ends_any f (x ∷ front) end passes = or_second (f (x ∷ front ++ end)) (list_any f (ends_of (front ++ end))) (ends_any f front end passes)

matches_end : (digits : List ℕ) → is_match (pattern_parts_of (codes "*.vhd")) (102 ∷ digits ++ source_end) ≡ true
unfolding fits_pattern_parts pattern_parts_after first_pattern_part opened_set set_after set_length before_closing ranges_of source_end
matches_end digits = ends_any (fits_pattern_parts is_any_bytes is_right (pattern_parts_of (codes ".vhd"))) (102 ∷ digits) source_end refl

matches_parts : (digits : List ℕ) → fits_pattern_parts is_any_components is_component_of (components source_pattern) (codes "src" ∷ (102 ∷ digits ++ source_end) ∷ []) ≡ true
unfolding source_pattern fits_pattern_parts pattern_parts_after first_pattern_part opened_set set_after set_length before_closing ranges_of
matches_parts digits = ap (λ (test : Bool). test && true) (matches_end digits)

source_matches : (number : ℕ) → number < 2 ^ 64 → matches_path source_pattern (package_path number) ≡ true
unfolding matches_path
source_matches number small = ap (λ (parts : List (List ℕ)). fits_pattern_parts is_any_components is_component_of (components source_pattern) parts) (package_parts number small) ∙ matches_parts (decimal number)

source_not_bench : matches_path source_pattern bench_path ≡ false
unfolding matches_path source_pattern bench_path fits_pattern_parts pattern_parts_after first_pattern_part opened_set set_after set_length before_closing ranges_of
source_not_bench = refl

source_not_toml : matches_path source_pattern toml_path ≡ false
unfolding matches_path source_pattern toml_path fits_pattern_parts pattern_parts_after first_pattern_part opened_set set_after set_length before_closing ranges_of
source_not_toml = refl

bench_matches : matches_path bench_pattern bench_path ≡ true
unfolding matches_path bench_pattern bench_path fits_pattern_parts pattern_parts_after first_pattern_part opened_set set_after set_length before_closing ranges_of
bench_matches = refl

bench_not_toml : matches_path bench_pattern toml_path ≡ false
unfolding matches_path bench_pattern toml_path fits_pattern_parts pattern_parts_after first_pattern_part opened_set set_after set_length before_closing ranges_of
bench_not_toml = refl

bench_not_parts : (part : List ℕ) → fits_pattern_parts is_any_components is_component_of (components bench_pattern) (codes "src" ∷ part ∷ []) ≡ false
unfolding bench_pattern fits_pattern_parts pattern_parts_after first_pattern_part opened_set set_after set_length before_closing ranges_of
bench_not_parts part = refl

bench_not_source : (number : ℕ) → number < 2 ^ 64 → matches_path bench_pattern (package_path number) ≡ false
unfolding matches_path
bench_not_source number small = ap (λ (parts : List (List ℕ)). fits_pattern_parts is_any_components is_component_of (components bench_pattern) parts) (package_parts number small) ∙ bench_not_parts (102 ∷ decimal number ++ source_end)

-- ## Names

abbrev pub names_of : List ℕ → List (List ℕ)
names_of numbers = map package_path numbers ++ bench_path ∷ toml_path ∷ []

abbrev Small : List ℕ → Type 0
Small numbers = AllByRecursion (λ n. n < 2 ^ 64) numbers

abbrev is_new : List (List ℕ) → List ℕ → List ℕ → Bool
is_new found pattern name = matches_path pattern name && not (is_among found name)

sources_new : (numbers : List ℕ) → Small numbers → filter (is_new [] source_pattern) (names_of numbers) ≡ map package_path numbers
sources_new [] small =
    cond-false (is_new [] source_pattern bench_path) (bench_path ∷ filter (is_new [] source_pattern) (toml_path ∷ [])) (filter (is_new [] source_pattern) (toml_path ∷ [])) (ap (λ (test : Bool). test && true) source_not_bench)
    ∙ cond-false (is_new [] source_pattern toml_path) (toml_path ∷ []) [] (ap (λ (test : Bool). test && true) source_not_toml)
sources_new (number ∷ numbers) small =
    cond-true (is_new [] source_pattern (package_path number)) (package_path number ∷ filter (is_new [] source_pattern) (names_of numbers)) (filter (is_new [] source_pattern) (names_of numbers)) (ap (λ (test : Bool). test && true) (source_matches number small.0))
    ∙ ap (λ (paths : List (List ℕ)). package_path number ∷ paths) (sources_new numbers small.1)

bench_not_among : (numbers : List ℕ) → is_among (map package_path numbers) bench_path ≡ false
unfolding bench_path source_folder
bench_not_among [] = refl
bench_not_among (number ∷ numbers) = bench_not_among numbers

bench_new : (found : List (List ℕ)) (numbers : List ℕ) → is_among found bench_path ≡ false → Small numbers → filter (is_new found bench_pattern) (names_of numbers) ≡ bench_path ∷ []
bench_new found [] other small =
    cond-true (is_new found bench_pattern bench_path) (bench_path ∷ filter (is_new found bench_pattern) (toml_path ∷ [])) (filter (is_new found bench_pattern) (toml_path ∷ [])) (and_both (matches_path bench_pattern bench_path) (not (is_among found bench_path)) bench_matches (ap not other))
    ∙ ap (λ (paths : List (List ℕ)). bench_path ∷ paths) (cond-false (is_new found bench_pattern toml_path) (toml_path ∷ []) [] (ap (λ (test : Bool). test && not (is_among found toml_path)) bench_not_toml))
bench_new found (number ∷ numbers) other small =
    cond-false (is_new found bench_pattern (package_path number)) (package_path number ∷ filter (is_new found bench_pattern) (names_of numbers)) (filter (is_new found bench_pattern) (names_of numbers)) (ap (λ (test : Bool). test && not (is_among found (package_path number))) (bench_not_source number small.0))
    ∙ bench_new found numbers other small.1

some_source : (numbers : List ℕ) → 0 < length numbers → Small numbers → list_any (matches_path source_pattern) (names_of numbers) ≡ true
some_source [] some small = absurd (omega (arith, some))
some_source (number ∷ numbers) some small = or_first (matches_path source_pattern (package_path number)) (list_any (matches_path source_pattern) (names_of numbers)) (source_matches number small.0)

some_bench : (numbers : List ℕ) → list_any (matches_path bench_pattern) (names_of numbers) ≡ true
some_bench [] = or_first (matches_path bench_pattern bench_path) (list_any (matches_path bench_pattern) (toml_path ∷ [])) bench_matches
some_bench (number ∷ numbers) = or_second (matches_path bench_pattern (package_path number)) (list_any (matches_path bench_pattern) (names_of numbers)) (some_bench numbers)

-- one pattern that matches a name, and then the others
one_pattern : (names found more : List (List ℕ)) (pattern : List ℕ) (patterns : List (List ℕ)) → list_any (matches_path pattern) names ≡ true → filter (is_new found pattern) names ≡ more → matching_names names found (pattern ∷ patterns) ≡ matching_names names (found ++ more) patterns
unfolding matching_names
one_pattern names found more pattern patterns some is =
    cond-true (list_any (matches_path pattern) names) (matching_names names (found ++ filter (is_new found pattern) names) patterns) (Err (Rattle.base.specs.declared.project.ProjectFault.TheVariants.NothingMatches pattern)) some
    ∙ ap (λ (new : List (List ℕ)). matching_names names (found ++ new) patterns) is

no_patterns : (names found : List (List ℕ)) → matching_names names found [] ≡ Ok found
unfolding matching_names
no_patterns names found = refl

pub matched : (numbers : List ℕ) → 0 < length numbers → Small numbers → matching_names (names_of numbers) [] (source_pattern ∷ bench_pattern ∷ []) ≡ Ok (map package_path numbers ++ bench_path ∷ [])
matched numbers some small =
    one_pattern (names_of numbers) [] (map package_path numbers) source_pattern (bench_pattern ∷ []) (some_source numbers some small) (sources_new numbers small)
    ∙ one_pattern (names_of numbers) (map package_path numbers) (bench_path ∷ []) bench_pattern [] (some_bench numbers) (bench_new (map package_path numbers) numbers (bench_not_among numbers) small)
    ∙ no_patterns (names_of numbers) (map package_path numbers ++ bench_path ∷ [])
