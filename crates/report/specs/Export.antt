-- What is exported of a project, as JSON: its files in compile order, and its tests. The members of each object are in
-- the order of their keys. There are texts, unsigned numbers, lists and objects, and nothing else.
use Rattle.std.specs.Prelude.{◌≡◌, ℕ, List, [], ◌∷◌, ◌++◌, map, slice_get, codes, Some}
use Rattle.std.specs.List.{flat_map}
use Rattle.std.specs.Option.{option_map_or}
use Rattle.std.specs.Str.Lossy.{utf8_lossy}
use Rattle.serde_json.specs.Data.{Data, number, unsigned, string, array, object, member, no_members}
use Rattle.serde_json.specs.Read.{read}
use Rattle.serde_json.specs.View.{items_of}
use Rattle.serde_json.specs.Written.{compact_text}
use Rattle.base_outcomes.specs.declared.bench.Bench.{Bench}
use Rattle.base_outcomes.specs.declared.bench.TestCase.{TestCase}
use Rattle.base.specs.declared.file.FileName.{FileName}
use Rattle.base.specs.declared.graph.Entry.{Entry}
use Rattle.base.specs.declared.project.ProjectFile.{ProjectFile}
use Rattle.testbench_select.specs.Selection.{full_name}

-- a text, with U+FFFD in place of what isn't UTF-8, since JSON has no other texts
abbrev pub text_data : List ℕ → Data
text_data bytes = string (utf8_lossy bytes)

-- a number from 0 on
abbrev pub number_data : ℕ → Data
number_data n = number (unsigned n)

-- the version of this form: 1.0.0
unfoldable pub version_data : Data
version_data = object (member (codes "major") (number_data 1) (member (codes "minor") (number_data 0) (member (codes "patch") (number_data 0) no_members)))

-- a file: its path and its library
unfoldable pub file_data : FileName → Data
file_data name = object (member (codes "file_name") (text_data name.path) (member (codes "library_name") (text_data name.library) no_members))

-- the path of a file of a project by its number; empty where the project has no such file
abbrev pub path_of : List ProjectFile → ℕ → List ℕ
path_of files file = option_map_or (λ one. one.name.path) (slice_get files file) []

-- where a case is: in which file, at which offset, and on how many bytes
unfoldable pub location_data : List ℕ → TestCase → Data
location_data path case = object (member (codes "file_name") (text_data path) (member (codes "length") (number_data case.length) (member (codes "offset") (number_data case.at) no_members)))

-- a test, which has no attributes
unfoldable pub test_data : List ProjectFile → Bench → TestCase → Data
test_data files bench case =
    object (member (codes "attributes") (object no_members) (member (codes "location") (location_data (path_of files case.file) case) (member (codes "name") (text_data (full_name bench case)) no_members)))

-- the cases of a bench, in order
abbrev pub bench_data : List ProjectFile → Bench → List Data
bench_data files bench = map (test_data files bench) bench.cases

-- the files of a graph
abbrev pub files_data : List Entry → List Data
files_data graph = map (λ entry. file_data entry.name) graph

-- the cases of all benches
abbrev pub tests_data : List ProjectFile → List Bench → List Data
tests_data files tests = flat_map (bench_data files) tests

-- the whole export
unfoldable pub export_data : List Entry → List ProjectFile → List Bench → Data
export_data graph files tests =
    object (member (codes "export_format_version") version_data (member (codes "files") (array (items_of (files_data graph))) (member (codes "tests") (array (items_of (tests_data files tests))) no_members)))

-- the text of an export: the JSON without a space, and a line feed
abbrev pub export_text : List Entry → List ProjectFile → List Bench → List ℕ
export_text graph files tests = compact_text (export_data graph files tests) ++ 10 ∷ []

-- the text of this data is JSON (RFC 8259) that is read as the same data
abbrev pub ReadsBack : Data → Type 0
ReadsBack value = read (compact_text value) ≡ Some value
