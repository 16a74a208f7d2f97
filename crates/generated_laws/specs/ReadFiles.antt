-- What the program reads of the generated project with `count` packages, where the package with the number `edited` is edited.
use Rattle.std.specs.Prelude.{ℕ, List, [], map}
use Rattle.base.specs.declared.design.Scan.{Scan}
use Rattle.base.specs.declared.graph.Entry.{Entry}
use Rattle.base.specs.declared.linking.Linked.{Linked}
use Rattle.base.specs.declared.project.Project.{Project}
use Rattle.project_file.specs.Csv.{listed_command, listed_simulator}
use Rattle.generated_sources.specs.NumberedFiles.{numbered_bytes, numbered_edges, numbered_graph, numbered_project, numbered_scan}
use Rattle.generated_sources.specs.ListedNumbers.{listed_numbers}

-- its project
abbrev pub read_project : (count : ℕ) → Project
read_project count = numbered_project listed_command listed_simulator [] (listed_numbers count)

-- the bytes of each file of the generated project, in project order
abbrev pub read_texts : (count edited : ℕ) → List (List ℕ)
read_texts count edited = map (numbered_bytes edited) (listed_numbers count)

-- what a scanner finds in each file of the generated project, in project order
abbrev pub read_scans : (count edited : ℕ) → List Scan
read_scans count edited = map (numbered_scan edited) (listed_numbers count)

-- what its files depend on, and no warning
abbrev pub found_links : (count : ℕ) → Linked
found_links count = record { edges = numbered_edges (listed_numbers count); warnings = [] }

-- its graph in an order
abbrev pub read_graph : (count edited : ℕ) → (order : List ℕ) → List Entry
read_graph count edited order = numbered_graph listed_command edited (listed_numbers count) order
