-- The statuses of files before any child has ended.
use Rattle.std.specs.Prelude.{ℕ, Bool, if◌then◌else◌, List, length, map}
use Rattle.run_spec.specs.declared.statuses.FileStatus.{FileStatus}
use Rattle.run_spec.specs.declared.statuses.FileStatus.TheVariants as status
use Rattle.run_spec.specs.ChildJournal.{Work, End}
use Rattle.run_spec.specs.Statuses.{status_at}
use Rattle.base.specs.PresentGraph.{below}
use Rattle.run_scheduler.specs.declared.plans.Need.{Need}
use Rattle.run_scheduler.specs.declared.plans.Need.TheVariants.{Fresh, Stale, Later}
use Rattle.run_scheduler.specs.declared.build_scheduler.BuildScheduler.{BuildScheduler}
use Rattle.run_scheduler.specs.Machines.{is_checked}

-- the status of a file that waits
abbrev pub waiting_status : Bool → FileStatus
waiting_status keep_going = if keep_going then status.Skipped else status.Left

-- a fresh file is fresh, and another one waits
abbrev pub first_status : Bool → Need → FileStatus
first_status keep_going Fresh = status.Fresh
first_status keep_going Stale = waiting_status keep_going
first_status keep_going Later = waiting_status keep_going

-- the status of a file as a build knows it: by the ended children if the file was checked, and else that of a waiting
-- file
abbrev pub known_status : Work → List End → BuildScheduler → ℕ → FileStatus
known_status work ends machine position = if is_checked machine position then status_at work ends position else waiting_status work.keep_going

-- what a build knows of each file, in compile order
abbrev pub known_statuses : Work → List End → BuildScheduler → List FileStatus
known_statuses work ends machine = map (known_status work ends machine) (below (length work.graph))
