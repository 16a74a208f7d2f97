-- The generated project has the tests of its bench alone, in whatever order its files come.
use Rattle.std.proofs.Common.{◌≡◌, ◌≢◌, ℕ, zero, suc, ◌<◌, Bool, true, false, eqb, List, [], ◌∷◌, ◌++◌, length, map, get_or, Option, refl, sym, ap, subst, ◌∙◌, arith, inl, inr}
use Rattle.std.specs.Prelude.{Result, Ok, filter, flat_map, slice_index_or}
use Rattle.std.specs.Option.{option_map, option_map_or}
use Rattle.std.proofs.lemmas.Bool.{cases_Bool, eqb-false, eqb-true}
use Rattle.std.proofs.lemmas.Grind.{flat_map-append}
use Rattle.std.proofs.lemmas.List.{append-nil, get_or-map, length-map}
use Rattle.std.proofs.lemmas.List.Concat.{flat_map-cons}
use Rattle.std.proofs.lemmas.List.Elements.{filter-append}
use Rattle.std.proofs.lemmas.Option.{get_or_from_slice_get, slice_get-map, slice_get_within}
use Rattle.base.specs.PresentGraph.{below}
use Rattle.base.specs.declared.design.Scan.{Scan}
use Rattle.base.specs.declared.project.ProjectFile.{ProjectFile}
use Rattle.base.specs.declared.refs.UnitId.{UnitId}
use Rattle.base_outcomes.specs.declared.bench.Bench.{Bench}
use Rattle.base_outcomes.specs.declared.bench.TestCase.{TestCase}
use Rattle.base_outcomes.specs.declared.bench.TestFault.{TestFault}
use Rattle.vhdl_outline.specs.Calls.{asks_same_sim, called_cases, cases_or, whole_case}
use Rattle.vhdl_outline.specs.Runs.{is_bench_unit}
use Rattle.testbench_scan.specs.Benches.{ScannedFiles, architectures_of, bench_at, bench_numbers, bench_of, bench_with, design_unit, file_units, is_architecture_of, is_bench, no_design_unit, no_scan, no_source, tests_found, tests_of, unit_number, unit_numbers}
use Rattle.testbench_runs.specs.Runs.{path_at}
use Rattle.generated_project.specs.Files.{bench_body, bench_head, bench_path}
use Rattle.generated_sources.proofs.Members.{one_rank}
use Rattle.generated_sources.specs.NumberedFiles.{numbered_file, numbered_scan, numbered_bytes}
use Rattle.generated_sources.specs.BenchScans.{bench_entity, bench_entity_name, bench_scan, bench_file_tokens}
use Rattle.generated_sources.specs.PackageLinks.{used_library}
use Rattle.generated_sources.specs.PackageScans.{package_scan}
use Rattle.generated_children.specs.BenchTests.{HasBenchAt, runs_of_all, generated_bench, numbered_sources}
use Rattle.generated_children.specs.TestedBench.{both_runs}
use Rattle.generated_children.proofs.BenchCases.{bench_is, cases_are, names_right, runs_are}

-- ## Lists with elements of one index alone

filtered : {A X : Type 0} (test : X → Bool) (give : A → List X) (xs : List A) → filter test (flat_map give xs) ≡ flat_map (λ x. filter test (give x)) xs
filtered test give [] = refl
filtered test give (x ∷ xs) =
    ap (filter test) (flat_map-cons give x xs) ∙ filter-append test (give x) (flat_map give xs)
    ∙ ap (λ l. filter test (give x) ++ l) (filtered test give xs) ∙ sym (flat_map-cons (λ y. filter test (give y)) x xs)

none_there : {X : Type 0} (give : ℕ → List X) (count : ℕ) → ((k : ℕ) → k < count → give k ≡ []) → flat_map give (below count) ≡ []
unfolding below
none_there give zero none = refl
none_there give (suc count) none =
    flat_map-append give (below count) (count ∷ []) ∙ ap (λ l. l ++ (give count ++ [])) (none_there give count (λ k less. none k (omega (arith, less))))
    ∙ ap (λ l. l ++ []) (none count (omega arith))

one_there : {X : Type 0} (give : ℕ → List X) (index : ℕ) (found : List X) (count : ℕ) → index < count → give index ≡ found → ((k : ℕ) → k < count → k ≢ index → give k ≡ []) → flat_map give (below count) ≡ found
unfolding below
one_there give index found zero within is none = absurd (omega (arith, within))
one_there give index found (suc count) within is none =
    elim (cases_Bool (eqb count index)) [
      | inl t ↦
          let same : count ≡ index = eqb-true count index t in
          flat_map-append give (below count) (count ∷ []) ∙ ap (λ l. l ++ (give count ++ [])) (none_there give count (λ k less. none k (omega (arith, less)) (λ e. omega (arith, less, e, same))))
          ∙ append-nil (give count) ∙ ap give same ∙ is
      | inr f ↦
          let other : count ≢ index = eqb-false count index f in
          flat_map-append give (below count) (count ∷ [])
          ∙ ap (λ l. l ++ (give count ++ [])) (one_there give index found count (omega (arith, within, other)) is (λ k less apart. none k (omega (arith, less)) apart))
          ∙ ap (λ l. found ++ (l ++ [])) (none count (omega arith) other)
          ∙ append-nil found
    ]

first_kept : {X : Type 0} (test : X → Bool) (x y : X) → test x ≡ true → test y ≡ false → filter test (x ∷ y ∷ []) ≡ x ∷ []
first_kept test x y is other = rw (is, other) refl

-- ## The units of a file

-- the bench of a file's first two units, with the cases that its architecture calls, or with one case for the whole bench if it
-- calls none
abbrev made_with : (position : ℕ) (library text : List ℕ) → Scan → List TestCase → Bench
made_with position library text scan cases = record {
  library = library;
  name = (slice_index_or scan.units 0 no_design_unit).name;
  architecture = (slice_index_or scan.units 1 no_design_unit).name;
  file = position;
  cases = cases_or (whole_case position scan.tokens.list (slice_index_or scan.units 0 no_design_unit)) cases;
  whole = eqb (length cases) 0;
  same_sim = asks_same_sim text scan.tokens.comments;
}

abbrev made_of : (position : ℕ) (library text : List ℕ) → Scan → Bench
made_of position library text scan = made_with position library text scan (called_cases position text scan.tokens.list (slice_index_or scan.units 1 no_design_unit))

-- the units of a file that pass a test
abbrev units_with : ScannedFiles → (UnitId → Bool) → ℕ → List UnitId
units_with sources test k = filter test (file_units sources.scans k)

module _ (sources : ScannedFiles) (k : ℕ) (number : ℕ) (noted : Bool) (is : slice_index_or sources.scans k no_scan ≡ package_scan number noted) where
  no_bench_in : units_with sources (is_bench sources) k ≡ []
  unfolding below
  no_bench_in = rw is (rw is refl)

  no_architecture_in : (library entity : List ℕ) → units_with sources (is_architecture_of library entity sources) k ≡ []
  unfolding below
  no_architecture_in library entity = rw is (rw is refl)

module _ (sources : ScannedFiles) (position : ℕ) (scan_is : slice_index_or sources.scans position no_scan ≡ bench_scan) (text_is : slice_index_or sources.texts position [] ≡ bench_head ++ bench_body)
    (library_is : (slice_index_or sources.files position no_source).name.library ≡ used_library) where
  entity_is : is_bench sources (unit_number position 0) ≡ true
  entity_is =
      ap (λ (scan : Scan). is_bench_unit (slice_index_or sources.texts position []) scan.tokens.list (slice_index_or scan.units 0 no_design_unit)) scan_is
      ∙ ap (λ (text : List ℕ). is_bench_unit text bench_file_tokens bench_entity) text_is
      ∙ bench_is

  architecture_isnt : is_bench sources (unit_number position 1) ≡ false
  architecture_isnt = ap (λ (scan : Scan). is_bench_unit (slice_index_or sources.texts position []) scan.tokens.list (slice_index_or scan.units 1 no_design_unit)) scan_is

  bench_in : units_with sources (is_bench sources) position ≡ unit_number position 0 ∷ []
  unfolding below
  bench_in =
      ap (λ (scan : Scan). filter (is_bench sources) (map (unit_number position) (below (length scan.units)))) scan_is
      ∙ first_kept (is_bench sources) (unit_number position 0) (unit_number position 1) entity_is architecture_isnt

  architecture_in : units_with sources (is_architecture_of used_library bench_entity_name sources) position ≡ unit_number position 1 ∷ []
  unfolding below used_library bench_entity_name
  architecture_in = rw scan_is (rw (scan_is, library_is) refl)

  bench_made : bench_of sources (unit_number position 0) (unit_number position 1) ≡ generated_bench position
  bench_made =
      ap (λ (scan : Scan). made_of position (slice_index_or sources.files position no_source).name.library (slice_index_or sources.texts position []) scan) scan_is
      ∙ ap (λ (text : List ℕ). made_of position (slice_index_or sources.files position no_source).name.library text bench_scan) text_is
      ∙ ap (λ (library : List ℕ). made_of position library (bench_head ++ bench_body) bench_scan) library_is
      ∙ ap (λ (cases : List TestCase). made_with position used_library (bench_head ++ bench_body) bench_scan cases) (cases_are position)

-- ## All files

module _ (command : List (List ℕ)) (edited : ℕ) (numbers : List ℕ) (position : ℕ) (has : HasBenchAt numbers position) where
  abbrev sources : ScannedFiles
  sources = numbered_sources command edited numbers

  within : position < length numbers
  within = slice_get_within numbers position 0 has.there

  bench_there : get_or numbers position 1 ≡ 0
  bench_there = get_or_from_slice_get numbers position 0 1 has.there

  scan_of : (k : ℕ) → k < length numbers → slice_index_or sources.scans k no_scan ≡ numbered_scan edited (get_or numbers k 1)
  scan_of k less = get_or-map (numbered_scan edited) numbers k 1 no_scan less

  bench_scanned : slice_index_or sources.scans position no_scan ≡ bench_scan
  bench_scanned = scan_of position within ∙ ap (numbered_scan edited) bench_there

  bench_text : slice_index_or sources.texts position [] ≡ bench_head ++ bench_body
  bench_text = get_or-map (numbered_bytes edited) numbers position 1 [] within ∙ ap (numbered_bytes edited) bench_there

  bench_file : slice_index_or sources.files position no_source ≡ numbered_file command 0
  bench_file = get_or-map (numbered_file command) numbers position 1 no_source within ∙ ap (numbered_file command) bench_there

  bench_library : (slice_index_or sources.files position no_source).name.library ≡ used_library
  bench_library = ap (λ (file : ProjectFile). file.name.library) bench_file

  -- any other file is that of a package
  package_there : (k : ℕ) → k < length numbers → k ≢ position → (number : ℕ) × (noted : Bool) × (slice_index_or sources.scans k no_scan ≡ package_scan number noted)
  package_there k less apart = by (get_or numbers k 1) refl where
    by : (number : ℕ) → get_or numbers k 1 ≡ number → (number : ℕ) × (noted : Bool) × (slice_index_or sources.scans k no_scan ≡ package_scan number noted)
    by zero is = absurd (apart (one_rank numbers has.distinct k position 1 less within (is ∙ sym bench_there)))
    by (suc before) is = (suc before, eqb (suc before) edited, scan_of k less ∙ ap (numbered_scan edited) is)

  count_is : length sources.scans ≡ length numbers
  count_is = length-map numbers (numbered_scan edited)

  -- what passes a test in the bench's file alone
  only_in_bench : (test : UnitId → Bool) (found : List UnitId) → units_with sources test position ≡ found → ((k number : ℕ) (noted : Bool) → slice_index_or sources.scans k no_scan ≡ package_scan number noted → units_with sources test k ≡ []) →
      filter test (unit_numbers sources.scans) ≡ found
  only_in_bench test found here none =
      filtered test (file_units sources.scans) (below (length sources.scans))
      ∙ one_there (units_with sources test) position found (length sources.scans) (subst (λ (n : ℕ). position < n) (sym count_is) within) here
      (λ k less apart. let one = package_there k (subst (λ (n : ℕ). k < n) count_is less) apart in none k one.0 one.1 one.2)

  benches_are : bench_numbers sources ≡ unit_number position 0 ∷ []
  benches_are = only_in_bench (is_bench sources) (unit_number position 0 ∷ []) (bench_in sources position bench_scanned bench_text bench_library) (λ k number noted is. no_bench_in sources k number noted is)

  architectures_are : architectures_of sources used_library bench_entity_name ≡ unit_number position 1 ∷ []
  architectures_are =
      only_in_bench (is_architecture_of used_library bench_entity_name sources) (unit_number position 1 ∷ []) (architecture_in sources position bench_scanned bench_text bench_library)
      (λ k number noted is. no_architecture_in sources k number noted is used_library bench_entity_name)

  name_is : (design_unit sources (unit_number position 0)).name ≡ bench_entity_name
  name_is = rw bench_scanned refl

  bench_at_is : bench_at sources (unit_number position 0) ≡ Ok (generated_bench position)
  bench_at_is =
      ap (λ (library : List ℕ). bench_with sources (unit_number position 0) (architectures_of sources library (design_unit sources (unit_number position 0)).name)) bench_library
      ∙ ap (λ (name : List ℕ). bench_with sources (unit_number position 0) (architectures_of sources used_library name)) name_is
      ∙ ap (bench_with sources (unit_number position 0)) architectures_are
      ∙ ap (λ (bench : Bench). Ok bench) (bench_made sources position bench_scanned bench_text bench_library)

  pub tests_are : tests_of sources ≡ Ok (generated_bench position ∷ [])
  tests_are =
      ap (λ (ids : List UnitId). tests_found (map (bench_at sources) ids)) benches_are
      ∙ ap (λ (found : Result Bench TestFault). tests_found (found ∷ [])) bench_at_is
      ∙ names_right position

  path_is : path_at sources.files position ≡ bench_path
  path_is =
      ap (λ (file : Option ProjectFile). option_map_or (λ (f : ProjectFile). f.name.path) file []) (slice_get-map (numbered_file command) numbers position ∙ ap (option_map (numbered_file command)) has.there)

  pub all_are_both : runs_of_all sources.files (generated_bench position ∷ []) ≡ both_runs
  all_are_both = runs_are sources.files position path_is
