-- What the sources of a project say is to be done: a function of what a tree holds and lists.
use Rattle.std.specs.Prelude.{ℕ, ◌+◌, nat_le, Bool, if◌then◌else◌, List, [], ◌∷◌, length, codes, slice_get, Option, Some, None, option_map, Result, Ok, Err}
use Rattle.std.specs.List.{filter_map}
use Rattle.base.specs.declared.file.FileName.{FileName}
use Rattle.base.specs.declared.project.Project.{Project}
use Rattle.base.specs.declared.project.ProjectFile.{ProjectFile}
use Rattle.base.specs.declared.project.ProjectFault.{ProjectFault}
use Rattle.base_outcomes.specs.declared.bench.Bench.{Bench}
use Rattle.base_outcomes.specs.declared.bench.TestFault.{TestFault}
use Rattle.base.specs.declared.design.Scan.{Scan}
use Rattle.base.specs.declared.linking.Linked.{Linked}
use Rattle.base.specs.declared.linking.LinkFault.{LinkFault}
use Rattle.base.specs.declared.linking.LinkFault.TheVariants as link
use Rattle.base_outcomes.specs.declared.outcome.Refusal.{Refusal}
use Rattle.base_outcomes.specs.declared.outcome.Refusal.TheVariants as refusal
use Rattle.base_outcomes.specs.declared.outcome.Limit.{Limit}
use Rattle.base_outcomes.specs.declared.outcome.Limit.TheVariants as limit
use Rattle.base.specs.declared.limits.TheConstants.{CASE_LIMIT, FILE_LIMIT, GRAPH_TEXT_LIMIT, TEXT_LIMIT, NAME_LIMIT}
use Rattle.base.specs.PresentGraph.{below, listed}
use Rattle.outside.specs.declared.tree.ReadEnd.{ReadEnd}
use Rattle.outside.specs.declared.tree.ReadEnd.TheVariants as read
use Rattle.outside.specs.declared.tree.NamesEnd.{NamesEnd}
use Rattle.outside.specs.declared.tree.NamesEnd.TheVariants as names
use Rattle.outside.specs.Trees.{read_end, names_end}
use Rattle.project_file.specs.Csv.{csv_project}
use Rattle.project_file.specs.Toml.{toml_project}
use Rattle.vhdl_spec.specs.Scans.{Finding, Clean, Lexical, Grammatical}
use Rattle.vhdl_spec.specs.Dependencies.{link_units, link_of}
use Rattle.testbench_select.specs.Selection.{count_of_tests}
use Rattle.testbench_scan.specs.Benches.{sources_of, tests_of}
use Rattle.order.specs.BuildOrder.{FileOrder, Ordered, Cyclic, file_order}
use Rattle.order.specs.LinkedGraph.{linked}
use Rattle.project_minimal.specs.MinimalSet.{NeedSources, needed_ranks, said_of}
use Rattle.project_reading.specs.declared.linking.ReadProject.{ReadProject}
use Rattle.project_reading.specs.declared.query.Query.{Query}
use Rattle.project_reading.specs.Queries.{chosen, wants_tests, queried}

-- The sources are refused; a quantity is over its limit, which is this number; or this project is read.
pub data SourceReading : Type 0 where
  Stops : Refusal → SourceReading
  Over : Limit → ℕ → SourceReading
  Found : ReadProject → SourceReading

-- what a step gives, and what is then read with it
abbrev pub then_read : {T : Type 0} → (T → SourceReading) → Result T SourceReading → SourceReading
then_read next (Ok value) = next value
then_read next (Err reading) = reading

-- one, and then the others
abbrev pub before_others : {T : Type 0} → T → Result (List T) SourceReading → Result (List T) SourceReading
before_others one (Ok more) = Ok (one ∷ more)
before_others one (Err reading) = Err reading

-- one read thing before the others, or the first that stops the reading
abbrev pub and_others : {T : Type 0} → (T → Result (List T) SourceReading) → Result T SourceReading → Result (List T) SourceReading
and_others others (Ok one) = before_others one (others one)
and_others others (Err reading) = Err reading

-- ## The project

-- a project, or a refusal that names the fault of its project file
abbrev pub project_or : Result Project ProjectFault → Result Project SourceReading
project_or (Ok project) = Ok project
project_or (Err fault) = Err (Stops (refusal.Project fault))

-- the project of what is read of a project file of lines
abbrev pub csv_said : ReadEnd → Result Project SourceReading
csv_said read.Absent = Err (Stops refusal.NoProject)
csv_said read.TooLong = Err (Over limit.TextBytes TEXT_LIMIT)
csv_said (read.Got bytes) = project_or (csv_project bytes)

-- the project of a TOML file, over the names that are listed
abbrev pub toml_said : List ℕ → NamesEnd → Result Project SourceReading
toml_said bytes names.TooMany = Err (Over limit.Names NAME_LIMIT)
toml_said bytes (names.Got paths) = project_or (toml_project bytes paths)

-- the project by the answer to reading the TOML file; only if that is absent, the project of `vunit.csv`
abbrev pub project_said : (List ℕ → Option (List ℕ)) → List (List ℕ) → ReadEnd → Result Project SourceReading
project_said file listed read.Absent = csv_said (read_end (file (codes "vunit.csv")) TEXT_LIMIT)
project_said file listed read.TooLong = Err (Over limit.TextBytes TEXT_LIMIT)
project_said file listed (read.Got bytes) = toml_said bytes (names_end listed NAME_LIMIT)

-- the project of a tree of these files, which lists these names
unfoldable pub project_in : (List ℕ → Option (List ℕ)) → List (List ℕ) → Result Project SourceReading
project_in file listed = project_said file listed (read_end (file (codes "vunit.toml")) TEXT_LIMIT)

-- ## Its texts

-- a text, where it and those before it have no more bytes together than they may
abbrev pub text_after : ℕ → List ℕ → Result (List ℕ) SourceReading
text_after before text = if nat_le (before + length text) GRAPH_TEXT_LIMIT then Ok text else Err (Over limit.TotalBytes GRAPH_TEXT_LIMIT)

-- the text of a file after texts of `before` bytes, or why nothing is compiled
abbrev pub text_of : FileName → ℕ → ReadEnd → Result (List ℕ) SourceReading
text_of name before read.Absent = Err (Stops (refusal.AbsentFile name))
text_of name before read.TooLong = Err (Over limit.TextBytes TEXT_LIMIT)
text_of name before (read.Got text) = text_after before text

-- the texts of files after texts of `before` bytes, or the fault of the first file in project order that gives no text
unfoldable pub texts_of : (List ℕ → Option (List ℕ)) → ℕ → List ProjectFile → Result (List (List ℕ)) SourceReading
texts_of file before [] = Ok []
texts_of file before (first ∷ rest) = and_others (λ text. texts_of file (before + length text) rest) (text_of first.name before (read_end (file first.name.path) TEXT_LIMIT))

-- ## Their scans

-- the scan of a file by what is found in it, or its refusal
abbrev pub scan_of : FileName → Finding → Result Scan SourceReading
scan_of name (Clean scan) = Ok scan
scan_of name (Lexical fault) = Err (Stops (refusal.Lex name fault))
scan_of name (Grammatical fault) = Err (Stops (refusal.Units name fault))

-- the scans of files with their texts, or the refusal of the first in project order that has a fault
unfoldable pub scans_of : (List ℕ → Finding) → List ProjectFile → List (List ℕ) → Result (List Scan) SourceReading
scans_of scan [] texts = Ok []
scans_of scan (file ∷ files) [] = Ok []
scans_of scan (file ∷ files) (text ∷ texts) = and_others (λ one. scans_of scan files texts) (scan_of file.name (scan text))

-- ## The graph

-- the refusal for a fault in the names of units; the last row is never met, since these definitions never run out of
-- memory
abbrev pub link_refusal : LinkFault → Refusal
link_refusal (link.DuplicateUnit unit first second) = refusal.DuplicateUnit unit first second
link_refusal (link.MissingUnit file library unit) = refusal.MissingUnit file library unit
link_refusal (link.MissingArchitecture file library entity architecture) = refusal.MissingArchitecture file library entity architecture
link_refusal link.NoMemory = refusal.Cycle []

-- edges and warnings, or a refusal that names a duplicate or missing unit
abbrev pub linked_or : Result Linked LinkFault → Result Linked SourceReading
linked_or (Ok linked) = Ok linked
linked_or (Err fault) = Err (Stops (link_refusal fault))

-- what depends on what in a project of these texts and scans, and the warnings about it
abbrev pub links_of : Project → List (List ℕ) → List Scan → Result Linked SourceReading
links_of project texts scans = linked_or (link_of project (link_units 0 project.files texts scans))

-- the names of the files at positions
unfoldable pub names_at : List ProjectFile → List ℕ → List FileName
names_at files positions = filter_map (λ at. option_map (λ file. file.name) (slice_get files at)) positions

-- a compile order, or a refusal that names the files of a cycle
abbrev pub order_or : List ProjectFile → FileOrder → Result (List ℕ) SourceReading
order_or files (Ordered order) = Ok order
order_or files (Cyclic cycle) = Err (Stops (refusal.Cycle (names_at files cycle)))

-- ## The tests

-- the tests of benches, where they have no more cases together than they may
abbrev pub tests_or : Result (List Bench) TestFault → Result (List Bench) SourceReading
tests_or (Ok tests) = if nat_le (count_of_tests tests) CASE_LIMIT then Ok tests else Err (Over limit.Tests CASE_LIMIT)
tests_or (Err fault) = Err (Stops (refusal.Tests fault))

-- the tests of a project of these texts and scans, where they are wanted, and else none
unfoldable pub wanted_tests : (wanted : Bool) → Project → List (List ℕ) → List Scan → Result (List Bench) SourceReading
wanted_tests wanted project texts scans = if wanted then tests_or (tests_of (sources_of project texts scans)) else Ok []

-- ## All

-- a linked project as the sources of what tests need
abbrev pub linked_needs : Project → List (List ℕ) → List Scan → Linked → NeedSources
linked_needs project texts scans links = said_of project texts scans (Some links.edges)

-- a listed project as the sources of what tests need
abbrev pub listed_needs : Project → List (List ℕ) → List Scan → NeedSources
listed_needs project texts scans = said_of project texts scans None

-- a linked project with its graph in compile order: the whole graph, or the files needed by the tests that some pattern
-- matches
abbrev pub ordered_reading : Query → Project → List (List ℕ) → List Scan → Linked → List ℕ → List Bench → SourceReading
ordered_reading query project texts scans links order tests = Found (record {
  project = project;
  graph = queried query.query_kind (linked project.files texts links.edges order) (needed_ranks (linked_needs project texts scans links) (chosen query.patterns tests) order);
  warnings = links.warnings;
  tests = tests;
})

-- the graph of files in compile order and, where they are wanted, the tests
abbrev pub order_reading : Query → Project → List (List ℕ) → List Scan → Linked → List ℕ → SourceReading
order_reading query project texts scans links order = then_read (ordered_reading query project texts scans links order) (wanted_tests (wants_tests query.query_kind) project texts scans)

-- the reading of files with known edges, which are ordered first
abbrev pub linked_reading : Query → Project → List (List ℕ) → List Scan → Linked → SourceReading
linked_reading query project texts scans links = then_read (order_reading query project texts scans links) (order_or project.files (file_order links.edges))

-- a listed project, its graph in listed order
abbrev pub found_reading : Query → Project → List (List ℕ) → List Scan → List Bench → SourceReading
found_reading query project texts scans tests = Found (record {
  project = project;
  graph = queried query.query_kind (listed project.files texts) (needed_ranks (listed_needs project texts scans) (chosen query.patterns tests) (below (length project.files)));
  warnings = [];
  tests = tests;
})

-- the reading of a listed project with known texts and scans, whose order is that of its list
abbrev pub listed_reading : Query → Project → List (List ℕ) → List Scan → SourceReading
listed_reading query project texts scans = then_read (found_reading query project texts scans) (wanted_tests (wants_tests query.query_kind) project texts scans)

-- The reading of a project of these texts and scans, for a query. Unless the project is listed, a fault in the names of
-- its units or in their order comes before a fault in its tests.
unfoldable pub scanned_reading : Query → Project → List (List ℕ) → List Scan → SourceReading
scanned_reading query project texts scans = if project.listed then listed_reading query project texts scans else then_read (linked_reading query project texts scans) (links_of project texts scans)

-- the reading of files with known texts, which are scanned first
abbrev pub texts_reading : Query → (List ℕ → Finding) → Project → List (List ℕ) → SourceReading
texts_reading query scan project texts = then_read (scanned_reading query project texts) (scans_of scan project.files texts)

-- the reading of a known project, whose files are read first from a map of paths to bytes
abbrev pub files_reading : Query → (List ℕ → Finding) → (List ℕ → Option (List ℕ)) → Project → SourceReading
files_reading query scan file project = then_read (texts_reading query scan project) (texts_of file 0 project.files)

-- the reading of a project over these files
abbrev pub sources_reading : Query → (List ℕ → Finding) → (List ℕ → Option (List ℕ)) → Project → SourceReading
sources_reading query scan file project = if nat_le (length project.files) FILE_LIMIT then files_reading query scan file project else Over limit.Files FILE_LIMIT

-- What the sources say, a function of a scanner, a map from paths to bytes and the listed names. The steps are, in order:
-- the project, the texts of its files, their scans, the graph, the wanted tests, and the part of the graph that these
-- need. The first fault or passed limit ends the reading.
unfoldable pub project_reading : (List ℕ → Finding) → (List ℕ → Option (List ℕ)) → List (List ℕ) → (query : Query) → SourceReading
project_reading scan file listed query = then_read (sources_reading query scan file) (project_in file listed)
