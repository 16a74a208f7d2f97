-- The test benches of a project (IEEE Std 1076-2008, clauses 3.2, 3.3 and 13.1), and the faults of benches. VUnit's
-- documentation defines which entities are benches and how tests are named.
--
-- A unit of a project is named by the position of its file and its number in that file.
use Rattle.std.specs.Prelude.{◌≡◌, ℕ, Bool, not, ◌&&◌, ◌||◌, ◌==◌, nat_lt, if◌then◌else◌, Option, Some, None, Result, Ok, Err, List, [], ◌∷◌, ◌++◌, length, map, filter, flat_map, slice_index_or, codes, Contains}
use Rattle.std.specs.List.{list_any}
use Rattle.std.specs.Option.{option_map, option_map_or, option_or}
use Rattle.std.specs.Str.{bytes_eq, is_utf8}
use Rattle.base.specs.PresentGraph.{below}
use Rattle.base_outcomes.specs.declared.bench.Bench.{Bench}
use Rattle.base_outcomes.specs.declared.bench.TestCase.{TestCase}
use Rattle.base_outcomes.specs.declared.bench.TestFault.{TestFault}
use Rattle.base_outcomes.specs.declared.bench.TestFault.TheVariants.{TwoArchitectures, NoArchitecture, DuplicateTest, BadName}
use Rattle.base.specs.declared.child.MaybeText.TheVariants.{Nothing}
use Rattle.base.specs.declared.design.Scan.{Scan}
use Rattle.base.specs.declared.design.Unit.{Unit as DesignUnit}
use Rattle.base.specs.declared.design.UnitKind.TheVariants as kinds
use Rattle.base.specs.declared.lexical.Token.{Token}
use Rattle.base.specs.declared.memory.OrMemory.{OrMemory}
use Rattle.base.specs.declared.memory.OrMemory.TheVariants.{NoMemory, Fault}
use Rattle.base.specs.declared.project.Project.{Project}
use Rattle.base.specs.declared.project.ProjectFile.{ProjectFile}
use Rattle.base.specs.declared.refs.UnitId.{UnitId}
use Rattle.vhdl_spec.specs.References.{owner_name}
use Rattle.vhdl_spec.specs.Dependencies.{is_architecture_kind, is_one_of}
use Rattle.testbench_select.specs.Selection.{bench_names, full_name}
use Rattle.vhdl_outline.specs.Calls.{asks_same_sim, called_cases, cases_or, whole_case}
use Rattle.vhdl_outline.specs.Runs.{is_bench_unit}

-- ## The design units of a project

-- the files of a project, with the text and the scan of each
pub record ScannedFiles : Type 0 where
  pub files : List ProjectFile
  pub texts : List (List ℕ)
  pub scans : List Scan

-- the files of a project with these texts and scans, one of each for each file
abbrev pub sources_of : Project → List (List ℕ) → List Scan → ScannedFiles
sources_of project texts scans = record { files = project.files; texts = texts; scans = scans }

-- a file whose parts are all empty, for a position that no file has
abbrev pub no_source : ProjectFile
no_source = record { name = record { library = []; path = [] }; command = [] }

-- a scan of no tokens, comments and units, for a position that no file has
abbrev pub no_scan : Scan
no_scan = record { tokens = record { list = []; comments = [] }; units = [] }

-- an empty context declaration, for a number that no unit has
abbrev pub no_design_unit : DesignUnit
no_design_unit = record { kind = kinds.Context; name = []; owner = Nothing; lead = 0; first = 0; last = 0 }

-- the library of the file that a unit is in
abbrev pub unit_library : ScannedFiles → UnitId → List ℕ
unit_library sources id = (slice_index_or sources.files id.file no_source).name.library

-- the text of the file that a unit is in
abbrev pub unit_text : ScannedFiles → UnitId → List ℕ
unit_text sources id = slice_index_or sources.texts id.file []

-- the scan of the file that a unit is in
abbrev pub unit_scan : ScannedFiles → UnitId → Scan
unit_scan sources id = slice_index_or sources.scans id.file no_scan

-- the tokens of the file that a unit is in
abbrev pub unit_tokens : ScannedFiles → UnitId → List Token
unit_tokens sources id = (unit_scan sources id).tokens.list

-- the design unit of a number, by the scan of its file
abbrev pub design_unit : ScannedFiles → UnitId → DesignUnit
design_unit sources id = slice_index_or (unit_scan sources id).units id.unit no_design_unit

-- a unit by the position of its file and its index in that file, both from 0
abbrev pub unit_number : ℕ → ℕ → UnitId
unit_number file unit = record { file = file; unit = unit }

-- the numbers of the units of a file, in order
abbrev pub file_units : List Scan → ℕ → List UnitId
file_units scans file = map (unit_number file) (below (length (slice_index_or scans file no_scan).units))

-- the numbers of all units, in project and unit order
abbrev pub unit_numbers : List Scan → List UnitId
unit_numbers scans = flat_map (file_units scans) (below (length scans))

-- ## Benches

-- an entity whose first generic clause has `runner_cfg`
abbrev pub is_bench : ScannedFiles → UnitId → Bool
is_bench sources id = is_bench_unit (unit_text sources id) (unit_tokens sources id) (design_unit sources id)

-- the benches, in project and unit order
abbrev pub bench_numbers : ScannedFiles → List UnitId
bench_numbers sources = filter (is_bench sources) (unit_numbers sources.scans)

-- a unit is an architecture of an entity: in its library, with its name as owner (3.3.1)
abbrev pub is_architecture_of : List ℕ → List ℕ → ScannedFiles → UnitId → Bool
is_architecture_of library entity sources id = is_architecture_kind (design_unit sources id).kind && (bytes_eq (unit_library sources id) library && bytes_eq (owner_name (design_unit sources id).owner) entity)

-- the architectures of an entity of a library, in project and unit order
abbrev pub architectures_of : ScannedFiles → List ℕ → List ℕ → List UnitId
architectures_of sources library entity = filter (is_architecture_of library entity sources) (unit_numbers sources.scans)

-- the cases that an architecture calls
abbrev pub unit_cases : ScannedFiles → UnitId → List TestCase
unit_cases sources id = called_cases id.file (unit_text sources id) (unit_tokens sources id) (design_unit sources id)

-- the bench of an entity with its architecture
abbrev pub bench_of : ScannedFiles → UnitId → UnitId → Bench
bench_of sources entity architecture = record {
  library = unit_library sources entity;
  name = (design_unit sources entity).name;
  architecture = (design_unit sources architecture).name;
  file = entity.file;
  cases = cases_or (whole_case entity.file (unit_tokens sources entity) (design_unit sources entity)) (unit_cases sources architecture);
  whole = length (unit_cases sources architecture) == 0;
  same_sim = asks_same_sim (unit_text sources architecture) (unit_scan sources architecture).tokens.comments;
}

-- a bench as faults name it
abbrev pub bench_name : List ℕ → List ℕ → List ℕ
bench_name library name = library ++ (codes "." ++ name)

-- the bench of an entity, or that it has no architecture, or more than one
abbrev pub bench_with : ScannedFiles → UnitId → List UnitId → Result Bench TestFault
bench_with sources entity [] = Err (NoArchitecture (bench_name (unit_library sources entity) (design_unit sources entity).name))
bench_with sources entity (architecture ∷ []) = Ok (bench_of sources entity architecture)
bench_with sources entity (first ∷ second ∷ others) = Err (TwoArchitectures (bench_name (unit_library sources entity) (design_unit sources entity).name))

-- the bench of an entity with its one architecture in the project, or the fault that there isn't exactly one
abbrev pub bench_at : ScannedFiles → UnitId → Result Bench TestFault
bench_at sources entity = bench_with sources entity (architectures_of sources (unit_library sources entity) (design_unit sources entity).name)

-- ## Names of tests

-- a control character of ASCII
abbrev pub is_control : ℕ → Bool
is_control byte = nat_lt byte 32 || byte == 127

-- a full name is UTF-8 without control characters
abbrev pub is_good_name : List ℕ → Bool
is_good_name name = is_utf8 name && not (list_any is_control name)

-- a case without a name, or whose full name isn't UTF-8 or has a control character
abbrev pub is_bad_case : Bench → TestCase → Bool
is_bad_case bench test_case = length test_case.name == 0 || not (is_good_name (full_name bench test_case))

-- the first full name that came before
abbrev pub first_repeated : List (List ℕ) → List (List ℕ) → Option (List ℕ)
first_repeated before [] = None
first_repeated before (name ∷ names) = if is_one_of before name then Some name else first_repeated (before ++ name ∷ []) names

-- the fault in the names of a bench: a bad name, or else the first full name that is in `before` or came earlier in the
-- bench
abbrev pub case_fault : List (List ℕ) → Bench → Option TestFault
case_fault before bench =
    if list_any (is_bad_case bench) bench.cases then Some (BadName (bench_name bench.library bench.name))
    else option_map DuplicateTest (first_repeated before (bench_names bench))

-- ## The tests of a project

-- the fault of a bench: in its architectures, or in its names after the full names in `before`
abbrev pub bench_fault : List (List ℕ) → Result Bench TestFault → Option TestFault
bench_fault before (Ok bench) = case_fault before bench
bench_fault before (Err fault) = Some fault

-- the full names of a bench; none where it has a fault
abbrev pub names_of_found : Result Bench TestFault → List (List ℕ)
names_of_found (Ok bench) = bench_names bench
names_of_found (Err fault) = []

-- the first fault in the order of the benches, after these full names
abbrev pub first_bench_fault : List (List ℕ) → List (Result Bench TestFault) → Option TestFault
first_bench_fault before [] = None
first_bench_fault before (found ∷ rest) = option_or (bench_fault before found) (first_bench_fault (before ++ names_of_found found) rest)

-- the bench alone; none where it has a fault
abbrev pub found_bench : Result Bench TestFault → List Bench
found_bench (Ok bench) = bench ∷ []
found_bench (Err fault) = []

-- the benches, or the first fault
abbrev pub tests_found : List (Result Bench TestFault) → Result (List Bench) TestFault
tests_found found = option_map_or (λ fault. Err fault) (first_bench_fault [] found) (Ok (flat_map found_bench found))

-- the benches of a project in project and unit order, or the first fault of one
abbrev pub tests_of : ScannedFiles → Result (List Bench) TestFault
tests_of sources = tests_found (map (bench_at sources) (bench_numbers sources))

-- the answer is the one that is said, unless memory ran out
abbrev pub GivesTests : Result (List Bench) TestFault → Result (List Bench) (OrMemory TestFault) → Type 0
GivesTests said (Ok tests) = said ≡ Ok tests
GivesTests said (Err NoMemory) = Unit {0}
GivesTests said (Err (Fault fault)) = said ≡ Err fault

-- ## What a bench is made of

-- the bench of an entity of the project that has one architecture
pub record IsBenchOfOne (sources : ScannedFiles) (bench : Bench) : Type 0 where
  pub entity : UnitId
  pub architecture : UnitId
  pub named : Contains (bench_numbers sources) entity
  pub alone : architectures_of sources (unit_library sources entity) (design_unit sources entity).name ≡ architecture ∷ []
  pub made : bench ≡ bench_of sources entity architecture
