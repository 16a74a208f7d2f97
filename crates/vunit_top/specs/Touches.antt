-- Which objects a run may touch, by its reading and by its task.
use Rattle.std.specs.Prelude.{Bool, true, false, Result, Ok, Err}
use Rattle.run_spec.specs.JournalParts.{is_given}
use Rattle.vunit_top.specs.declared.words.Task.{Task}
use Rattle.vunit_top.specs.Acts.{Object, Input, Tree, Disk, Children, Out, Reports}
use Rattle.vunit_top.specs.Reading.{Reading, Bad, Child, Compiler, Simulator, Stops, Over, Lists, ListsTests, Exports, Builds, Runs, Generates, is_build, may_write, generates}

-- one of six values, by the object
abbrev pub row : (input files disk children out reports : Bool) → Object → Bool
row input files disk children out reports Input = input
row input files disk children out reports Tree = files
row input files disk children out reports Disk = disk
row input files disk children out reports Children = children
row input files disk children out reports Out = out
row input files disk children out reports Reports = reports

-- Whether a run may touch an object, by its reading. The columns are the input, the tree, the disk, the children, the output and
-- the reports. A quantity in the words or in the sources may be over its limit.
abbrev pub touches : Reading → Object → Bool
touches Bad object = row false false false false true false object
touches (Child Compiler) object = row true false false false true false object
touches (Child Simulator) object = row true false false false true true object
touches (Stops reason) object = row false true false false true false object
touches (Over limit number) object = row false true false false true false object
touches (Lists graph) object = row false true false false true false object
touches (ListsTests tests) object = row false true false false true false object
touches (Exports path text) object = row false true false false false true object
touches (Builds order warnings) object = row false true true true true false object
touches (Runs asked) object = row false true true true true (is_given asked.report) object
touches (Generates options) object = row false false false true true false object

-- the program is a child, and which one
abbrev pub is_child : Reading → Bool
is_child (Child tool) = true
is_child reading = false

-- the program is the simulator that is part of it
abbrev pub is_simulator : Reading → Bool
is_simulator (Child Simulator) = true
is_simulator reading = false

-- Whether a run may touch an object, by the task that its words give, or by the reading that they give without sources.
abbrev pub may_touch : Result Task Reading → Object → Bool
may_touch (Ok task) object = row false true (is_build task) (is_build task) true (may_write task) object
may_touch (Err reading) object = row (is_child reading) false false (generates (Err reading)) true (is_simulator reading) object
