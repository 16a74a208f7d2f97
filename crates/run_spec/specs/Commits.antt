-- The records that a build commits, in order of the ends of its children, and when its starts come.
use Rattle.std.specs.Prelude.{ℕ, ◌≤◌, Bool, ◌==◌, if◌then◌else◌, List, [], ◌∷◌, length, slice_get, Option}
use Rattle.std.specs.List.{flat_map}
use Rattle.std.specs.Option.{option_map_or}
use Rattle.base.specs.declared.file.FileName.{FileName}
use Rattle.base.specs.declared.graph.BuiltFile.{BuiltFile}
use Rattle.base.specs.declared.graph.Entry.{Entry}
use Rattle.base.specs.declared.child.Event.{Event}
use Rattle.base.specs.declared.child.Event.TheVariants.{Started, Ended, Gone}
use Rattle.outside.specs.Records.{Asked, Record, asked_of}
use Rattle.run_spec.specs.ChildJournal.{Work, End, EachAfter, progress_of}
use Rattle.run_spec.specs.Recorded.{current_by_request}

-- what a build over a store works on, by the latest record of each name
abbrev pub work_of : (FileName → Option Record) → List Entry → ℕ → Bool → Work
work_of latest_of graph slots keep_going = record { graph = graph; current = current_by_request latest_of graph; slots = slots; keep_going = keep_going }

-- the compiler's inputs for the file at a position, over these files: its command, name, text and the files below it
abbrev pub asked_over : List Entry → ℕ → List BuiltFile → Asked
asked_over graph position built = option_map_or (λ entry. asked_of entry built) (slice_get graph position) (record { command = []; name = record { library = []; path = [] }; text = []; below = built })

-- the record of a file that was made over these
abbrev pub record_at : List Entry → ℕ → List BuiltFile → List ℕ → Record
record_at graph position below artefact = record { asked = asked_over graph position below; artefact = artefact }

-- what is committed of a child that ended: its output where its code is 0, and nothing else
abbrev pub commit_of : List Entry → End → List Record
commit_of graph end = if end.exit.code == 0 then record_at graph end.position end.below end.exit.output ∷ [] else []

-- what is committed of all children that ended, in the order of their ends
abbrev pub commits_of : List Entry → List End → List Record
commits_of graph ends = flat_map (commit_of graph) ends

-- the records that a build with these events commits, in order
abbrev pub commits : Work → List Event → List Record
commits setting events = commits_of setting.graph (progress_of setting events).ends

-- a start comes where the events before it commit at most the acknowledged number of records
abbrev pub ComesAfterCommits : Work → ℕ → List Event → Event → Type 0
ComesAfterCommits setting acknowledged before (Started ticket request) = length (commits setting before) ≤ acknowledged
ComesAfterCommits setting acknowledged before (Ended ticket exit) = Unit {0}
ComesAfterCommits setting acknowledged before (Gone ticket) = Unit {0}

-- with this number of acknowledged commits, each start comes where all commits before it are acknowledged
abbrev pub Waits : Work → (acknowledged : ℕ) → List Event → Type 0
Waits setting acknowledged events = EachAfter (ComesAfterCommits setting acknowledged) [] events
