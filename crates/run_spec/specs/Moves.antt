-- The moves of a build, apart from what its children are started with: whose child starts, ends or is lost.
use Rattle.std.specs.Prelude.{◌≡◌, ℕ, zero, suc, ◌<◌, nat_lt, Bool, true, false, not, ◌&&◌, ◌||◌, ◌==◌, if◌then◌else◌, IsTrue, All, List, [], ◌∷◌, ◌++◌, length, Option, Some, None, is_none}
use Rattle.std.specs.List.{list_any, list_all}

-- a running child: its ticket, and the position of its file
pub record RunningChild : Type 0 where
  pub ticket : ℕ
  pub position : ℕ

-- a child that has ended: the position of its file, whether it ended well, and what it printed
pub record EndedChild : Type 0 where
  pub position : ℕ
  pub ok : Bool
  pub output : List ℕ

-- What decides the order of a build: the number of files, the dependencies of each file, and which files are made once given
-- children have ended. Also how many children run at once, and whether the build goes on after a refusal.
pub record Workload : Type 0 where
  pub count : ℕ
  pub deps : ℕ → List ℕ
  pub is_made : List EndedChild → ℕ → Bool
  pub slots : ℕ
  pub keep_going : Bool

-- what has happened in a build so far: the positions of the files that were started, the running children, the ended
-- ones, and whether nothing more is started
pub record SchedulerState : Type 0 where
  pub taken : List ℕ
  pub running : List RunningChild
  pub ended : List EndedChild
  pub halted : Bool

-- before the first move
abbrev pub empty_schedule : SchedulerState
empty_schedule = record { taken = []; running = []; ended = []; halted = false }

-- The file at a position is started with this ticket; the child of a ticket ends; its end is lost; or nothing more is
-- started from now on.
pub data Move : Type 0 where
  Starts : (position ticket : ℕ) → Move
  Ends : (ticket : ℕ) (ok : Bool) (output : List ℕ) → Move
  Loses : (ticket : ℕ) → Move
  Halts : Move

-- the file at a position was started
abbrev pub is_taken : SchedulerState → ℕ → Bool
is_taken schedule position = list_any (λ other. other == position) schedule.taken

-- a child of the file at a position has ended well
unfoldable pub has_ended_well : List EndedChild → ℕ → Bool
has_ended_well ended position = list_any (λ end. end.position == position && end.ok) ended

-- the file at a position is made
abbrev pub is_made_so_far : Workload → SchedulerState → ℕ → Bool
is_made_so_far workload schedule position = workload.is_made schedule.ended position

-- Files are made step by step. A file depends on files before it only, and is made only where all of these are made. Once they
-- are made, one more end makes the file exactly if it is the good end of the file's own child. A file that is made stays made.
pub record IsStepwise (workload : Workload) : Type 0 where
  pub before : (position : ℕ) → position < workload.count → All (λ dep. dep < position) (workload.deps position)
  pub after_deps : (ended : List EndedChild) (position : ℕ) → position < workload.count → workload.is_made ended position ≡ true → list_all (workload.is_made ended) (workload.deps position) ≡ true
  pub by_end : (ended : List EndedChild) (end : EndedChild) (position : ℕ) → position < workload.count → list_all (workload.is_made ended) (workload.deps position) ≡ true →
      workload.is_made (ended ++ end ∷ []) position ≡ (workload.is_made ended position || (end.position == position && end.ok))

-- the file at a position wasn't started, isn't made, and all that it depends on is made
unfoldable pub is_startable : Workload → SchedulerState → ℕ → Bool
is_startable workload schedule position =
    not (is_taken schedule position) && not (is_made_so_far workload schedule position) && list_all (is_made_so_far workload schedule) (workload.deps position)

-- from a position on, the first of the given number of positions that passes the test
unfoldable pub first_from : (ℕ → Bool) → ℕ → ℕ → Option ℕ
first_from test position zero = None
first_from test position (suc n) = if test position then Some position else first_from test (suc position) n

-- the least position of a file that may be started
unfoldable pub next_start : Workload → SchedulerState → Option ℕ
next_start workload schedule = first_from (is_startable workload schedule) 0 workload.count

-- the position that is to be started now: there is a free slot, and the build isn't halted
abbrev pub start_now : Workload → SchedulerState → Option ℕ
start_now workload schedule = if nat_lt (length schedule.running) workload.slots && not schedule.halted then next_start workload schedule else None

-- a child of this ticket runs
abbrev pub is_running : SchedulerState → ℕ → Bool
is_running schedule ticket = list_any (λ child. child.ticket == ticket) schedule.running

-- the position of the file whose running child has this ticket
abbrev pub position_of : ℕ → List RunningChild → Option ℕ
position_of ticket [] = None
position_of ticket (child ∷ running) = if child.ticket == ticket then Some child.position else position_of ticket running

-- the running children without that of a ticket
abbrev pub without_child : ℕ → List RunningChild → List RunningChild
without_child ticket [] = []
without_child ticket (child ∷ running) = if child.ticket == ticket then running else child ∷ without_child ticket running

-- the end of the child at a position
abbrev pub ended_child : Option ℕ → Bool → List ℕ → List EndedChild
ended_child None ok output = []
ended_child (Some position) ok output = record { position = position; ok = ok; output = output } ∷ []

-- what has happened after one more move
unfoldable pub after_move : Workload → SchedulerState → Move → SchedulerState
after_move workload schedule (Starts position ticket) =
    record { taken = schedule.taken ++ position ∷ []; running = schedule.running ++ (record { ticket = ticket; position = position }) ∷ []; ended = schedule.ended; halted = schedule.halted }
after_move workload schedule (Ends ticket ok output) =
    record { taken = schedule.taken; running = without_child ticket schedule.running; ended = schedule.ended ++ ended_child (position_of ticket schedule.running) ok output; halted = schedule.halted || (not workload.keep_going && not ok) }
after_move workload schedule (Loses ticket) = record { taken = schedule.taken; running = without_child ticket schedule.running; ended = schedule.ended; halted = true }
after_move workload schedule Halts = record { taken = schedule.taken; running = schedule.running; ended = schedule.ended; halted = true }

-- what has happened after moves
unfoldable pub after_moves : Workload → SchedulerState → List Move → SchedulerState
after_moves workload schedule [] = schedule
after_moves workload schedule (move ∷ moves) = after_moves workload (after_move workload schedule move) moves

-- A start takes the position that is to be started now. An end and a loss are of a ticket that runs.
abbrev pub IsLawfulMove : Workload → SchedulerState → Move → Type 0
IsLawfulMove workload schedule (Starts position ticket) = start_now workload schedule ≡ Some position
IsLawfulMove workload schedule (Ends ticket ok output) = IsTrue (is_running schedule ticket)
IsLawfulMove workload schedule (Loses ticket) = IsTrue (is_running schedule ticket)
IsLawfulMove workload schedule Halts = Unit {0}

-- each move is lawful where it comes
unfoldable pub LawfulMoves : Workload → SchedulerState → List Move → Type 0
LawfulMoves workload schedule [] = Unit {0}
LawfulMoves workload schedule (move ∷ moves) = IsLawfulMove workload schedule move × LawfulMoves workload (after_move workload schedule move) moves

-- an end is waited for only where nothing is to be started now
abbrev pub IsGreedyMove : Workload → SchedulerState → Move → Type 0
IsGreedyMove workload schedule (Starts position ticket) = Unit {0}
IsGreedyMove workload schedule (Ends ticket ok output) = start_now workload schedule ≡ None
IsGreedyMove workload schedule (Loses ticket) = start_now workload schedule ≡ None
IsGreedyMove workload schedule Halts = Unit {0}

-- each end and each loss comes only where nothing is to be started at that moment
unfoldable pub GreedyMoves : Workload → SchedulerState → List Move → Type 0
GreedyMoves workload schedule [] = Unit {0}
GreedyMoves workload schedule (move ∷ moves) = IsGreedyMove workload schedule move × GreedyMoves workload (after_move workload schedule move) moves

-- no child runs, and no file may be started or the build is halted
pub record IsFinished (workload : Workload) (schedule : SchedulerState) : Type 0 where
  pub idle : schedule.running ≡ []
  pub over : IsTrue (is_none (next_start workload schedule) || schedule.halted)
