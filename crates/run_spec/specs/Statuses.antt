-- The status of each file of a build, by its journal.
use Rattle.std.specs.Prelude.{◌≡◌, ◌⊎◌, ℕ, Bool, false, true, if◌then◌else◌, List, [], ◌∷◌, length, map, Option, Some, None}
use Rattle.std.specs.List.{list_any}
use Rattle.base.specs.declared.graph.Entry.{Entry}
use Rattle.base.specs.declared.graph.BuiltFile.{BuiltFile}
use Rattle.base.specs.declared.file.FileName.{FileName}
use Rattle.base.specs.declared.child.Event.{Event}
use Rattle.base.specs.declared.child.Exit.{Exit}
use Rattle.run_spec.specs.declared.statuses.FileStatus.{FileStatus}
use Rattle.run_spec.specs.declared.statuses.FileStatus.TheVariants.{Fresh, Compiled, Refused, Skipped, Left}
use Rattle.base.specs.declared.child.Request.{Request}
use Rattle.base.specs.PresentGraph.{below}
use Rattle.run_spec.specs.Settled.{Settled, Blocked, settle}
use Rattle.run_spec.specs.Settled as settled
use Rattle.run_spec.specs.ChildJournal.{Work, End, exit_at, artefact_so_far, progress_of}

-- The status of a file. A file with an ended child is compiled if it has an artefact, and refused if not. A file without an
-- ended child is fresh if it has an artefact. Otherwise it is skipped in a build that goes on after refusals, and left in one
-- that stops.
abbrev pub status_of : Bool → Option Exit → Option (List ℕ) → FileStatus
status_of keep_going (Some exit) (Some artefact) = Compiled
status_of keep_going (Some exit) None = Refused exit.code exit.output
status_of keep_going None (Some artefact) = Fresh
status_of keep_going None None = if keep_going then Skipped else Left

-- the status of the file at a position after these ends
abbrev pub status_at : Work → List End → ℕ → FileStatus
status_at setting ends position = status_of setting.keep_going (exit_at ends position) (artefact_so_far setting ends position)

-- the statuses of all files, by what happened
abbrev pub statuses_of : Work → List Event → List FileStatus
statuses_of setting events = map (status_at setting (progress_of setting events).ends) (below (length setting.graph))

-- what the settled build says of a file
abbrev pub steady_status : Settled → FileStatus
steady_status Blocked = Skipped
steady_status (settled.Fresh artefact) = Fresh
steady_status (settled.Compiled artefact) = Compiled
steady_status (settled.Refused code output) = Refused code output

-- the statuses that the settled build says, whatever the order of ends
abbrev pub steady_statuses : (Request → Exit) → List Entry → (ℕ → List BuiltFile → Option (List ℕ)) → List FileStatus
steady_statuses answer graph current = map (λ position. steady_status (settle answer graph current position)) (below (length graph))

-- the compiler ended with another code than 0
abbrev pub is_refused : FileStatus → Bool
is_refused Fresh = false
is_refused Compiled = false
is_refused (Refused code output) = true
is_refused Skipped = false
is_refused Left = false

-- no refusal halts the build: it goes on after one, or no file is refused
abbrev pub NoRefusalHalts : Work → List Event → Type 0
NoRefusalHalts setting events = (setting.keep_going ≡ true) ⊎ (list_any is_refused (statuses_of setting events) ≡ false)

-- the compiler made the file in this build
abbrev pub is_compiled : FileStatus → Bool
is_compiled Fresh = false
is_compiled Compiled = true
is_compiled (Refused code output) = false
is_compiled Skipped = false
is_compiled Left = false

-- the names of the refused files, in compile order
unfoldable pub refused_files : List Entry → List FileStatus → List FileName
refused_files [] statuses = []
refused_files (entry ∷ entries) [] = []
refused_files (entry ∷ entries) (status ∷ statuses) = if is_refused status then entry.name ∷ refused_files entries statuses else refused_files entries statuses
