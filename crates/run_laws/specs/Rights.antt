-- What holds of a run from a disk of true records.
use Rattle.std.specs.Prelude.{◌≡◌, ℕ, List, ◌∷◌, ◌++◌, Option, Some, None}
use Rattle.std.specs.List.{AllByRecursion}
use Rattle.base.specs.declared.child.Request.{Request}
use Rattle.base.specs.declared.child.Event.{Event}
use Rattle.base.specs.declared.child.Event.TheVariants.{Started}
use Rattle.outside.specs.Disks.{DiskState}
use Rattle.run_spec.specs.ChildJournal.{Lawful, next_position, progress_of}
use Rattle.run_spec.specs.CleanBuild.{clean_request}
use Rattle.run_spec.specs.Faithful.{IsFaithfulDisk}
use Rattle.run_spec.specs.Histories.{Order, World, ProgramRun, IsIdleRun, work_over}

-- Whatever a stop can leave of the disk at any moment of the run has true records alone. Whatever prefix of its events a
-- stop leaves is lawful, and each start of it asks for its file what a clean build of these sources asks for it.
pub record IsRightRun (world : World) (order : Order) (run : ProgramRun) (first : DiskState) : Type 0 where
  pub faithful : AllByRecursion (IsFaithfulDisk world.compiler world.records_of) (first ∷ run.later)
  pub lawful : (before rest : List Event) → run.events ≡ before ++ rest → Lawful (work_over world.records_of order first) before
  pub asked : (before rest : List Event) (ticket : ℕ) (request : Request) → run.events ≡ before ++ Started ticket request ∷ rest →
      (position : ℕ) × (next_position (work_over world.records_of order first) (progress_of (work_over world.records_of order first) before) ≡ Some position) × (clean_request world.compiler order.graph position ≡ Some request)

-- A run is right where words and sources give it an order. Where they give none it does nothing, and the disk has true records
-- alone.
abbrev pub IsRightStep : World → Option Order → ProgramRun → DiskState → Type 0
IsRightStep world None run first = IsIdleRun run × IsFaithfulDisk world.compiler world.records_of first
IsRightStep world (Some order) run first = IsRightRun world order run first
