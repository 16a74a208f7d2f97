-- Which files the runs of a history start no compiler for, and how long a record counts.
use Rattle.std.specs.Prelude.{◌≡◌, ◌⊎◌, ℕ, true, false, List, slice_get, Option, Some, None, Contains}
use Rattle.std.specs.List.{list_any}
use Rattle.base.specs.declared.file.FileName.{FileName}
use Rattle.base.specs.declared.graph.Entry.{Entry}
use Rattle.outside.specs.Disks.{DiskState, EachImage}
use Rattle.outside.specs.Records.{Asked, Record, asked_of, deps_at, is_of, latest}
use Rattle.run_spec.specs.ChildJournal.{progress_of, built_at, has_all}
use Rattle.run_spec.specs.Settled.{artefact_settled}
use Rattle.run_spec.specs.Commits.{commits}
use Rattle.run_spec.specs.Histories.{Order, World, ProgramRun, work_over}

-- a record is acknowledged: whatever a stop can leave has it as the latest of its name
abbrev pub IsAcknowledged : World → FileName → Record → DiskState → Type 0
IsAcknowledged world name kept disk = EachImage (λ image. latest name (world.records_of image) ≡ Some kept) disk

-- the graph of an order has a file of this name
pub record HasFile (order : Order) (name : FileName) : Type 0 where
  pub position : ℕ
  pub entry : Entry
  pub is_entry : slice_get order.graph position ≡ Some entry
  pub is_name : entry.name ≡ name

-- the artefact of each file of an order in the settled build, over the records of the disk that its run finds
abbrev pub settled_over : World → Order → DiskState → ℕ → Option (List ℕ)
settled_over world order first = artefact_settled world.compiler order.graph (work_over world.records_of order first).current

-- The graph of an order has a file of this name, and the settled build makes all files that it depends on. Over their
-- artefacts, the compiler's inputs for the file are these.
pub record HasFileAsked (world : World) (order : Order) (first : DiskState) (name : FileName) (asked : Asked) : Type 0 where
  pub file : HasFile order name
  pub all_made : has_all (settled_over world order first) (deps_at order.graph file.position) ≡ true
  pub is_asked : asked_of file.entry (built_at order.graph (settled_over world order first) (deps_at order.graph file.position)) ≡ asked

-- unless all is built anew, no file of this name is started of which this is asked
abbrev pub SparesFile : World → Option Order → FileName → Asked → ProgramRun → DiskState → Type 0
SparesFile world None name asked run first = Unit {0}
SparesFile world (Some order) name asked run first =
    order.clean ≡ false → (file : HasFileAsked world order first name asked) → Contains (progress_of (work_over world.records_of order first) run.events).taken file.file.position → ⊥

-- A run after which the record still counts: the store isn't emptied, and what the record has is asked of the file, or the run
-- commits no record of its name.
abbrev pub LeavesRecord : World → Option Order → FileName → Record → ProgramRun → DiskState → Type 0
LeavesRecord world None name kept run first = Unit {0}
LeavesRecord world (Some order) name kept run first =
    (order.clean ≡ false) × (HasFileAsked world order first name kept.asked ⊎ (list_any (is_of name) (commits (work_over world.records_of order first) run.events) ≡ false))
