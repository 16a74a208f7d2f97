-- What is wanted of the sources of a project.
use Rattle.std.specs.Prelude.{ℕ, Bool, true, false, List, map}
use Rattle.base.specs.declared.graph.Entry.{Entry}
use Rattle.base.specs.View.{part}
use Rattle.base_outcomes.specs.declared.bench.Bench.{Bench}
use Rattle.testbench_select.specs.Patterns.{pattern_parts_of}
use Rattle.testbench_select.specs.Selection.{selection}
use Rattle.project_reading.specs.declared.query.QueryKind.{QueryKind}
use Rattle.project_reading.specs.declared.query.QueryKind.TheVariants.{Graph, Tests, Needed}

-- whether tests are wanted
abbrev pub wants_tests : QueryKind → Bool
wants_tests Graph = false
wants_tests Tests = true
wants_tests Needed = true

-- the tests that some of these patterns match
abbrev pub chosen : List (List ℕ) → List Bench → List Bench
chosen patterns tests = selection (map pattern_parts_of patterns) tests

-- the graph that a query wants: the whole graph, or only the files at the needed positions
abbrev pub queried : QueryKind → (whole : List Entry) → (needed : List ℕ) → List Entry
queried Graph whole needed = whole
queried Tests whole needed = whole
queried Needed whole needed = part whole needed
