-- The benches of a project that was read have the sizes of benches.
use Rattle.std.proofs.Common.{◌≡◌, ℕ, zero, suc, ◌+◌, ◌≤◌, ◌<◌, Bool, true, false, not, List, [], ◌∷◌, ◌++◌, length, map, get_or, Option, Some, None, Result, Ok, Err, ◌⊎◌, inl, inr, refl, sym, ap, subst, ◌∙◌, arith}
use Rattle.std.specs.Prelude.{All, IfOk, slice_index_or, slice_get, nat_le, sum_by, filter, flat_map}
use Rattle.std.specs.Option.{option_map_or}
use Rattle.std.proofs.lemmas.Bool.{cases_Bool, cond-true, cond-false, leb-true}
use Rattle.std.proofs.lemmas.List.Elements.{All-nil, All-head, All-tail, All-cons}
use Rattle.std.proofs.lemmas.List.Filters.{length-filter_both}
use Rattle.std.proofs.lemmas.List.Sums.{sum_by-cons}
use Rattle.base_outcomes.specs.declared.bench.Bench.{Bench}
use Rattle.base_outcomes.specs.declared.bench.TestCase.{TestCase}
use Rattle.base_outcomes.specs.declared.bench.TestFault.{TestFault}
use Rattle.base.specs.declared.design.Scan.{Scan}
use Rattle.base.specs.declared.design.Unit.{Unit as DesignUnit}
use Rattle.base.specs.declared.limits.TheConstants.{CASE_LIMIT, TEXT_LIMIT, PATH_LIMIT, LIBRARY_LIMIT}
use Rattle.base.specs.declared.linking.Linked.{Linked}
use Rattle.base.specs.declared.linking.LinkFault.{LinkFault}
use Rattle.base_outcomes.specs.declared.outcome.Limit.TheVariants as limit
use Rattle.order.specs.BuildOrder.{FileOrder, Ordered, Cyclic, file_order}
use Rattle.vhdl_spec.specs.Dependencies.{link_units, link_of}
use Rattle.base.specs.declared.project.Project.{Project}
use Rattle.base.specs.declared.project.ProjectFile.{ProjectFile}
use Rattle.base.specs.declared.refs.UnitId.{UnitId}
use Rattle.base.specs.Projects.{IsProject, IsProjectFile}
use Rattle.order.specs.LinkedGraph.{FitTexts}
use Rattle.vhdl_spec.specs.Scans.{IsScanOf, AreScansOf}
use Rattle.vhdl_outline.specs.Calls.{called_cases, cases_or, whole_case}
use Rattle.testbench_select.specs.declared.pattern.PatternPart.{PatternPart}
use Rattle.testbench_select.specs.Selection.{count_of_tests, full_name, is_selected, selected_bench, selected_cases, selection, has_cases}
use Rattle.testbench_scan.specs.Benches.{ScannedFiles, sources_of, no_source, no_scan, no_design_unit, unit_library, unit_text, unit_scan, design_unit, unit_cases, bench_of, bench_with, bench_at, architectures_of, bench_numbers, first_bench_fault, found_bench, tests_found, tests_of}
use Rattle.testbench_runs.specs.Runs.{FitsBench, path_at}
use Rattle.project_reading.specs.declared.linking.ReadProject.{ReadProject}
use Rattle.project_reading.specs.Sources.{IsReadProject}
use Rattle.project_reading.specs.Queries.{wants_tests}
use Rattle.project_reading.specs.declared.query.Query.{Query}
use Rattle.project_reading.specs.Reading.{SourceReading, Stops, Over, Found, then_read, order_or, linked_or, links_of, tests_or, wanted_tests, ordered_reading, order_reading, linked_reading, found_reading, listed_reading, scanned_reading}
use Rattle.project_reading.proofs.Strings.{called_length, sum_passing}
use Rattle.project_reading.proofs.UnitNames.{units_short}

-- ## What a bench is made of

-- files, texts and scans of a project that was read
record AreRead (sources : ScannedFiles) : Type 0 where
  files : All IsProjectFile sources.files
  texts : All (λ text. length text ≤ TEXT_LIMIT) sources.texts
  scans : AreScansOf sources.texts sources.scans

-- an item of a list has what all of them have, and what the other has
item_has : {X : Type 0} (P : X → Type 0) (xs : List X) (k : ℕ) (other : X) → All P xs → P other → P (slice_index_or xs k other)
item_has P [] k other all is = is
item_has P (x ∷ xs) zero other all is = All-head P x xs all
item_has P (x ∷ xs) (suc k) other all is = item_has P xs k other (All-tail P x xs all) is

-- a number is in both lists, or in neither
both_from : (texts : List (List ℕ)) (scans : List Scan) (file : ℕ) → length scans ≡ length texts → ((k : ℕ) (text : List ℕ) (scan : Scan) → slice_get texts k ≡ Some text → slice_get scans k ≡ Some scan → IsScanOf text scan) →
    (IsScanOf (slice_index_or texts file []) (slice_index_or scans file no_scan)) ⊎ (slice_index_or scans file no_scan ≡ no_scan)
both_from [] [] file each are = inr refl
both_from [] (scan ∷ scans) file each are = absurd (omega (arith, each))
both_from (text ∷ texts) [] file each are = absurd (omega (arith, each))
both_from (text ∷ texts) (scan ∷ scans) zero each are = inl (are 0 text scan refl refl)
both_from (text ∷ texts) (scan ∷ scans) (suc file) each are = both_from texts scans file (omega (arith, each)) (λ k. are (suc k))

-- the path of a file, and none behind the last
path_fits : (files : List ProjectFile) (position : ℕ) → All IsProjectFile files → length (path_at files position) ≤ PATH_LIMIT
path_fits [] position all = omega arith
path_fits (file ∷ files) zero all = (All-head IsProjectFile file files all).name.path.at_most
path_fits (file ∷ files) (suc position) all = path_fits files position (All-tail IsProjectFile file files all)

module _ (sources : ScannedFiles) (is : AreRead sources) where
  library_fits : (id : UnitId) → length (unit_library sources id) ≤ TEXT_LIMIT
  library_fits id = item_has (λ file. length file.name.library ≤ TEXT_LIMIT) sources.files id.file no_source (λ k other within. let small = (is.files k other within).name.library.at_most in omega (arith, small)) (omega arith)

  text_fits : (id : UnitId) → length (unit_text sources id) ≤ TEXT_LIMIT
  text_fits id = item_has (λ text. length text ≤ TEXT_LIMIT) sources.texts id.file [] is.texts (omega arith)

  name_fits : (id : UnitId) → length (design_unit sources id).name ≤ TEXT_LIMIT
  name_fits id = elim (both_from sources.texts sources.scans id.file is.scans.each is.scans.are) [
    | inl scan ↦
        let text : List ℕ = unit_text sources id in
        let short = units_short text (unit_scan sources id).tokens.list scan.elements id.unit no_design_unit (omega arith) in
        let same : (design_unit sources id).name ≡ _ = ap (λ (units : List DesignUnit). (slice_index_or units id.unit no_design_unit).name) scan.units in
        let whole = text_fits id in
        omega (arith, ap length same, short, whole)
    | inr none ↦
        let same : (design_unit sources id).name ≡ [] = ap (λ (scan : Scan). (slice_index_or scan.units id.unit no_design_unit).name) none in
        omega (arith, ap length same)
  ]

  abbrev lengths : List TestCase → ℕ
  lengths cases = sum_by (λ test. length test.name) cases

  none_called : (id : UnitId) → unit_scan sources id ≡ no_scan → lengths (unit_cases sources id) ≤ TEXT_LIMIT
  none_called id none =
      let nothing : lengths (unit_cases sources id) ≡ 0 = ap (λ (scan : Scan). lengths (called_cases id.file (unit_text sources id) scan.tokens.list (slice_index_or scan.units id.unit no_design_unit))) none in
      omega (arith, nothing)

  calls_fit : (id : UnitId) → lengths (unit_cases sources id) ≤ TEXT_LIMIT
  calls_fit id = elim (both_from sources.texts sources.scans id.file is.scans.each is.scans.are) [
    | inl scan ↦ let short = called_length id.file (unit_text sources id) (unit_scan sources id).tokens (design_unit sources id) scan.tokens in let whole = text_fits id in omega (arith, short, whole)
    | inr none ↦ none_called id none
  ]

  cases_fit : (whole : TestCase) (called : List TestCase) → length whole.name ≤ TEXT_LIMIT → lengths called ≤ TEXT_LIMIT → lengths (cases_or whole called) ≤ TEXT_LIMIT
  cases_fit whole [] one some = let all = sum_by-cons (λ (test : TestCase). length test.name) whole [] in omega (arith, all, one)
  cases_fit whole (first ∷ others) one some = some

  bench_fits : (entity architecture : UnitId) → length (bench_of sources entity architecture).cases ≤ CASE_LIMIT → FitsBench sources.files (bench_of sources entity architecture)
  bench_fits entity architecture few = record {
    library = library_fits entity;
    name = name_fits entity;
    architecture = name_fits architecture;
    few = few;
    cases = cases_fit (whole_case entity.file (unit_scan sources entity).tokens.list (design_unit sources entity)) (unit_cases sources architecture) (omega arith) (calls_fit architecture);
    path = path_fits sources.files entity.file is.files;
  }

  -- each bench that is found is the bench of an entity with its one architecture
  found_fits : (entity : UnitId) (architectures : List UnitId) (bench : Bench) → bench_with sources entity architectures ≡ Ok bench → length bench.cases ≤ CASE_LIMIT → FitsBench sources.files bench
  found_fits entity [] bench found few = let no : ⊥ = cc in absurd no
  found_fits entity (architecture ∷ []) bench found few =
      let same : bench_of sources entity architecture ≡ bench = cc in
      subst (FitsBench sources.files) same (bench_fits entity architecture (subst (λ (b : Bench). length b.cases ≤ CASE_LIMIT) (sym same) few))
  found_fits entity (first ∷ second ∷ others) bench found few = let no : ⊥ = cc in absurd no

  one_found : (entity : UnitId) (found : Result Bench TestFault) (rest : List Bench) → bench_at sources entity ≡ found → All (λ bench. length bench.cases ≤ CASE_LIMIT) (found_bench found ++ rest) →
      (All (λ bench. length bench.cases ≤ CASE_LIMIT) rest → All (FitsBench sources.files) rest) → All (FitsBench sources.files) (found_bench found ++ rest)
  one_found entity (Ok bench) rest same few others =
      All-cons (FitsBench sources.files) bench rest
      (found_fits entity (architectures_of sources (unit_library sources entity) (design_unit sources entity).name) bench same (All-head (λ b. length b.cases ≤ CASE_LIMIT) bench rest few))
      (others (All-tail (λ b. length b.cases ≤ CASE_LIMIT) bench rest few))
  one_found entity (Err fault) rest same few others = others few

  all_found : (entities : List UnitId) → All (λ bench. length bench.cases ≤ CASE_LIMIT) (flat_map found_bench (map (bench_at sources) entities)) → All (FitsBench sources.files) (flat_map found_bench (map (bench_at sources) entities))
  all_found [] few = All-nil (FitsBench sources.files)
  all_found (entity ∷ entities) few = one_found entity (bench_at sources entity) (flat_map found_bench (map (bench_at sources) entities)) refl few (all_found entities)

-- each bench has no more cases than all together
few_each : (tests : List Bench) → count_of_tests tests ≤ CASE_LIMIT → All (λ bench. length bench.cases ≤ CASE_LIMIT) tests
few_each [] few = All-nil (λ bench. length bench.cases ≤ CASE_LIMIT)
few_each (bench ∷ tests) few =
    let whole = sum_by-cons (λ (b : Bench). length b.cases) bench tests in
    All-cons (λ b. length b.cases ≤ CASE_LIMIT) bench tests (omega (arith, few, whole)) (few_each tests (omega (arith, few, whole)))

-- ## What a reading that found a project says of its tests

-- answers of readings, with their type
abbrev okay : List Bench → Result (List Bench) SourceReading
okay tests = Ok tests

abbrev said_ok : List Bench → Result (List Bench) TestFault
said_ok tests = Ok tests

abbrev over : Result (List Bench) SourceReading
over = Err (Over limit.Tests CASE_LIMIT)

found_or : (fault : Option TestFault) (benches tests : List Bench) → option_map_or (λ fault. Err fault) fault (Ok benches) ≡ Ok tests → benches ≡ tests
found_or None benches tests is = cc
found_or (Some fault) benches tests is = let no : ⊥ = cc in absurd no

few_or : (said : Result (List Bench) TestFault) (tests : List Bench) → tests_or said ≡ Ok tests → (said ≡ Ok tests) × (count_of_tests tests ≤ CASE_LIMIT)
few_or (Err fault) tests is = let no : ⊥ = cc in absurd no
few_or (Ok benches) tests is = elim (cases_Bool (nat_le (count_of_tests benches) CASE_LIMIT)) [
  | inl few ↦
      let same : benches ≡ tests = ok_same benches tests (sym (cond-true (nat_le (count_of_tests benches) CASE_LIMIT) (okay benches) over few) ∙ is) in
      (ap said_ok same, subst (λ (l : List Bench). count_of_tests l ≤ CASE_LIMIT) same (leb-true (count_of_tests benches) CASE_LIMIT few))
  | inr many ↦ absurd (not_over (sym (cond-false (nat_le (count_of_tests benches) CASE_LIMIT) (okay benches) over many) ∙ is))
] where
  ok_same : (a b : List Bench) → okay a ≡ okay b → a ≡ b
  ok_same a b e = cc

  not_over : over ≡ okay tests → ⊥
  not_over e = cc

-- a step doesn't end with a project
abbrev NotFound : {T : Type 0} → Result T SourceReading → Type 0
NotFound (Ok value) = Unit {0}
NotFound (Err (Stops reason)) = Unit {0}
NotFound (Err (Over limit number)) = Unit {0}
NotFound (Err (Found read)) = ⊥

links_not : (said : Result Linked LinkFault) → NotFound (linked_or said)
links_not (Ok links) = tt
links_not (Err fault) = tt

order_not : (files : List ProjectFile) (order : FileOrder) → NotFound (order_or files order)
order_not files (Ordered order) = tt
order_not files (Cyclic cycle) = tt

tests_not : (said : Result (List Bench) TestFault) → NotFound (tests_or said)
tests_not (Err fault) = tt
tests_not (Ok tests) = elim (cases_Bool (nat_le (count_of_tests tests) CASE_LIMIT)) [
  | inl few ↦ subst (λ (said : Result (List Bench) SourceReading). NotFound said) (sym (cond-true (nat_le (count_of_tests tests) CASE_LIMIT) (okay tests) over few)) tt
  | inr many ↦ subst (λ (said : Result (List Bench) SourceReading). NotFound said) (sym (cond-false (nat_le (count_of_tests tests) CASE_LIMIT) (okay tests) over many)) tt
]

-- so a step of a reading that found a project gave a value, with which the next one found it
then_found : {T : Type 0} (said : Result T SourceReading) (next : T → SourceReading) (read : ReadProject) → NotFound said → then_read next said ≡ Found read → (value : T) × (said ≡ Ok value) × (next value ≡ Found read)
then_found (Ok value) next read not is = (value, refl, is)
then_found (Err (Stops reason)) next read not is = let no : ⊥ = cc in absurd no
then_found (Err (Over limit number)) next read not is = let no : ⊥ = cc in absurd no
then_found (Err (Found other)) next read not is = absurd not

found_tests : (one two : ReadProject) → Found one ≡ Found two → one.tests ≡ two.tests
found_tests one two is = let same : one ≡ two = cc in ap (λ (read : ReadProject). read.tests) same

wanted_not : (wanted : Bool) (project : Project) (texts : List (List ℕ)) (scans : List Scan) → NotFound (wanted_tests wanted project texts scans)
unfolding wanted_tests
wanted_not true project texts scans = tests_not (tests_of (sources_of project texts scans))
wanted_not false project texts scans = tt

-- the tests that were wanted are those of the project that was found
wanted_found : (query : Query) (project : Project) (texts : List (List ℕ)) (scans : List Scan) (read : ReadProject) → scanned_reading query project texts scans ≡ Found read → wanted_tests (wants_tests query.query_kind) project texts scans ≡ Ok read.tests
unfolding scanned_reading
wanted_found query project texts scans read is = elim (cases_Bool project.listed) [
  | inl listed ↦
      let tests = then_found (wanted_tests (wants_tests query.query_kind) project texts scans) (found_reading query project texts scans) read (wanted_not (wants_tests query.query_kind) project texts scans)
      (sym (cond-true project.listed (listed_reading query project texts scans) (then_read (linked_reading query project texts scans) (links_of project texts scans)) listed) ∙ is) in
      tests.1 ∙ ap okay (found_tests _ read tests.2)
  | inr linked ↦
      let links = then_found (links_of project texts scans) (linked_reading query project texts scans) read (links_not (link_of project (link_units 0 project.files texts scans)))
      (sym (cond-false project.listed (listed_reading query project texts scans) (then_read (linked_reading query project texts scans) (links_of project texts scans)) linked) ∙ is) in
      let order = then_found (order_or project.files (file_order links.0.edges)) (order_reading query project texts scans links.0) read (order_not project.files (file_order links.0.edges)) links.2 in
      let tests = then_found (wanted_tests (wants_tests query.query_kind) project texts scans) (ordered_reading query project texts scans links.0 order.0) read (wanted_not (wants_tests query.query_kind) project texts scans) order.2 in
      tests.1 ∙ ap okay (found_tests _ read tests.2)
]

-- either the tests of the project were found, or none
found_or_none : (wanted : Bool) (project : Project) (texts : List (List ℕ)) (scans : List Scan) (tests : List Bench) → wanted_tests wanted project texts scans ≡ Ok tests → (tests_or (tests_of (sources_of project texts scans)) ≡ Ok tests) ⊎ (tests ≡ [])
unfolding wanted_tests
found_or_none true project texts scans tests is = inl is
found_or_none false project texts scans tests is = let none : [] ≡ tests = cc in inr (sym none)

-- each bench of a project that was read has the sizes of one
pub read_fits : (query : Query) (read : ReadProject) → IsReadProject query read → All (FitsBench read.project.files) read.tests
read_fits query read is =
    let sources : ScannedFiles = sources_of read.project is.texts is.scans in
    elim (found_or_none (wants_tests query.query_kind) read.project is.texts is.scans read.tests (wanted_found query read.project is.texts is.scans read is.whole)) [
      | inl wanted ↦
          let found = few_or (tests_of sources) read.tests wanted in
          let numbers : List UnitId = bench_numbers sources in
          let benches : List Bench = flat_map found_bench (map (bench_at sources) numbers) in
          let same : benches ≡ read.tests = found_or (first_bench_fault [] (map (bench_at sources) numbers)) benches read.tests found.0 in
          subst (All (FitsBench read.project.files)) same
          (all_found sources (record { files = is.project.each; texts = is.fit.small.short; scans = is.scanned }) numbers (subst (All (λ bench. length bench.cases ≤ CASE_LIMIT)) (sym same) (few_each read.tests found.1)))
      | inr none ↦ subst (All (FitsBench read.project.files)) (sym none) (All-nil (FitsBench read.project.files))
    ]

-- ## Of selected cases

one_selected : (files : List ProjectFile) (patterns : List (List PatternPart)) (bench : Bench) → FitsBench files bench → FitsBench files (selected_bench patterns bench)
one_selected files patterns bench is =
    let test : TestCase → Bool = λ one. is_selected patterns (full_name bench one) in
    let few = length-filter_both test (λ one. not (test one)) (λ one. refl) bench.cases in
    let sum = sum_passing test (λ (one : TestCase). length one.name) bench.cases in
    record { library = is.library; name = is.name; architecture = is.architecture; few = omega (arith, few, is.few); cases = omega (arith, sum, is.cases); path = is.path }

all_selected : (files : List ProjectFile) (patterns : List (List PatternPart)) (benches : List Bench) → All (FitsBench files) benches → All (FitsBench files) (map (selected_bench patterns) benches)
all_selected files patterns [] all = All-nil (FitsBench files)
all_selected files patterns (bench ∷ benches) all =
    All-cons (FitsBench files) (selected_bench patterns bench) (map (selected_bench patterns) benches) (one_selected files patterns bench (All-head (FitsBench files) bench benches all))
    (all_selected files patterns benches (All-tail (FitsBench files) bench benches all))

all_kept : (files : List ProjectFile) (benches : List Bench) → All (FitsBench files) benches → All (FitsBench files) (filter has_cases benches)
all_kept files [] all = all
all_kept files (bench ∷ benches) all =
    let rest = all_kept files benches (All-tail (FitsBench files) bench benches all) in
    elim (cases_Bool (has_cases bench)) [
      | inl t ↦ subst (All (FitsBench files)) (sym (cond-true (has_cases bench) (bench ∷ filter has_cases benches) (filter has_cases benches) t)) (All-cons (FitsBench files) bench (filter has_cases benches) (All-head (FitsBench files) bench benches all) rest)
      | inr f ↦ subst (All (FitsBench files)) (sym (cond-false (has_cases bench) (bench ∷ filter has_cases benches) (filter has_cases benches) f)) rest
    ]

-- benches of which patterns select cases have the sizes of benches
pub selected_fit : (files : List ProjectFile) (patterns : List (List PatternPart)) (benches : List Bench) → All (FitsBench files) benches → All (FitsBench files) (selection patterns benches)
selected_fit files patterns benches all = all_kept files (map (selected_bench patterns) benches) (all_selected files patterns benches all)

-- all benches of a project that was read have no more cases together than there may be
pub read_few : (query : Query) (read : ReadProject) → IsReadProject query read → count_of_tests read.tests ≤ CASE_LIMIT
read_few query read is =
    elim (found_or_none (wants_tests query.query_kind) read.project is.texts is.scans read.tests (wanted_found query read.project is.texts is.scans read is.whole)) [
      | inl wanted ↦ (few_or (tests_of (sources_of read.project is.texts is.scans)) read.tests wanted).1
      | inr none ↦ subst (λ (tests : List Bench). count_of_tests tests ≤ CASE_LIMIT) (sym none) (omega arith)
    ]

selected_count : (patterns : List (List PatternPart)) (benches : List Bench) → count_of_tests (map (selected_bench patterns) benches) ≤ count_of_tests benches
selected_count patterns [] = omega arith
selected_count patterns (bench ∷ benches) =
    let test : TestCase → Bool = λ one_of. is_selected patterns (full_name bench one_of) in
    let one = length-filter_both test (λ one_of. not (test one_of)) (λ one_of. refl) bench.cases in
    let rest = selected_count patterns benches in
    let all = sum_by-cons (λ (b : Bench). length b.cases) bench benches in
    let kept = sum_by-cons (λ (b : Bench). length b.cases) (selected_bench patterns bench) (map (selected_bench patterns) benches) in
    omega (arith, one, rest, all, kept)

-- benches of which patterns select cases have no more of them than all, and each has one
pub selected_fewer : (patterns : List (List PatternPart)) (benches : List Bench) → count_of_tests (selection patterns benches) ≤ count_of_tests benches
selected_fewer patterns benches = let one = selected_count patterns benches in let two = sum_passing has_cases (λ (b : Bench). length b.cases) (map (selected_bench patterns) benches) in omega (arith, one, two)

some_kept : (benches : List Bench) → All (λ bench. has_cases bench ≡ true) (filter has_cases benches)
some_kept [] = All-nil (λ bench. has_cases bench ≡ true)
some_kept (bench ∷ benches) = elim (cases_Bool (has_cases bench)) [
  | inl t ↦ subst (All (λ b. has_cases b ≡ true)) (sym (cond-true (has_cases bench) (bench ∷ filter has_cases benches) (filter has_cases benches) t)) (All-cons (λ b. has_cases b ≡ true) bench (filter has_cases benches) t (some_kept benches))
  | inr f ↦ subst (All (λ b. has_cases b ≡ true)) (sym (cond-false (has_cases bench) (bench ∷ filter has_cases benches) (filter has_cases benches) f)) (some_kept benches)
]

pub selected_some : (patterns : List (List PatternPart)) (benches : List Bench) → All (λ bench. has_cases bench ≡ true) (selection patterns benches)
selected_some patterns benches = some_kept (map (selected_bench patterns) benches)
