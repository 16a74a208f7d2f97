-- The examples of "What is started".
use Rattle.std.specs.Prelude.{◌≡◌, ◌∷◌, Bool, true, false, List, [], Some, None, is_some, take, codes}
use Rattle.base.specs.declared.child.Event.{Event}
use Rattle.base.specs.declared.child.Event.TheVariants.{Ended, Gone, Started}
use Rattle.base.specs.declared.child.MaybeText.TheVariants.{Given}
use Rattle.outside.specs.Records.{latest}
use Rattle.run_spec.specs.ChildJournal.{Answered, IsWhole, Lawful, artefact_after, progress_of, workload_of, next_position, output_at, since, starts_of}
use Rattle.run_spec.specs.Commits.{work_of}
use Rattle.run_spec.specs.JournalParts.{compile_part}
use Rattle.run_spec.specs.Moves.{SchedulerState, Ends, GreedyMoves, Halts, IsFinished, IsGreedyMove, IsLawfulMove, Workload, LawfulMoves, Move, Starts, after_moves, empty_schedule, is_running, position_of, start_now}
use Rattle.tests_examples.specs.Example.{Ra, a_built, a_request, accepting, b_request, command, events, exit, files, one_slot, work_with}

-- the order of two files of which b depends on a, both due, with one slot
abbrev two : Bool → Workload
two keep_going = workload_of (work_with 1 keep_going)

-- of three files without dependencies and three slots
abbrev three : Workload
three = record { count = 3; deps = λ position. []; is_made = λ ended position. is_some (output_at ended position); slots = 3; keep_going = false }

-- the file at position 0 starts as child 7, and hasn't ended
abbrev runs_a : List Move
runs_a = Starts 0 7 ∷ []

-- the file at position 0 starts as child 7, which accepts it with the artefact 1
abbrev made_a : List Move
made_a = Starts 0 7 ∷ Ends 7 true (codes "1") ∷ []

-- the files at positions 0 and 1 start one after the other, and are accepted with the artefacts 1 and 2
abbrev both : List Move
both = Starts 0 7 ∷ Ends 7 true (codes "1") ∷ Starts 1 8 ∷ Ends 8 true (codes "2") ∷ []

-- the file at position 0 starts as child 7, which refuses it with the output no
abbrev a_refused : List Move
a_refused = Starts 0 7 ∷ Ends 7 false (codes "no") ∷ []

-- what is started and ended after these moves, the first of which finds nothing started
abbrev so_far : Workload → List Move → SchedulerState
so_far task moves = after_moves task empty_schedule moves

-- what a journal has since
pub record Journals : Type 0 where
  pub last_two : since (take 1 events) (take 3 events) ≡ Ended 7 (exit 0 (codes "1")) ∷ Started 8 b_request ∷ []
  pub starts : starts_of events ≡ a_request ∷ b_request ∷ []
  pub recorded : (work_of (λ name. latest name (Ra ∷ [])) files 1 false).current 0 [] ≡ Some (codes "1")
  pub nothing_recorded : (work_of (λ name. latest name (Ra ∷ [])) files 1 false).current 1 (a_built ∷ []) ≡ None

-- which file is to be started now
pub record NextStarts : Type 0 where
  pub at_first : start_now (two false) empty_schedule ≡ Some 0
  pub while_a_runs : start_now (two false) (so_far (two false) runs_a) ≡ None
  pub after_a : start_now (two false) (so_far (two false) made_a) ≡ Some 1
  pub at_last : start_now (two false) (so_far (two false) both) ≡ None
  pub halted : start_now (two false) (so_far (two false) a_refused) ≡ None
  -- going on after the refusal nothing is startable: a isn't made
  pub goes_on : start_now (two true) (so_far (two true) a_refused) ≡ None
  pub is_halted : (so_far (two false) a_refused).halted ≡ true
  pub not_halted : (so_far (two true) a_refused).halted ≡ false

-- lawful, greedy and finished moves
pub record LawfulStarts : Type 0 where
  pub lawful : LawfulMoves (two false) empty_schedule both
  pub greedy : GreedyMoves (two false) empty_schedule both
  pub finished : IsFinished (two false) (so_far (two false) both)
  pub refused_finished : IsFinished (two false) (so_far (two false) a_refused)
  pub goes_on_finished : IsFinished (two true) (so_far (two true) a_refused)
  -- starts 0, 1 and 2, and then ends in another order
  pub any_order : LawfulMoves three empty_schedule (Starts 0 1 ∷ Starts 1 2 ∷ Starts 2 3 ∷ Ends 3 true [] ∷ Ends 1 true [] ∷ Ends 2 true [] ∷ [])
  pub early_end : LawfulMoves three empty_schedule (Starts 0 1 ∷ Ends 1 true [] ∷ Starts 1 2 ∷ [])
  pub early_start : start_now three (so_far three (Starts 0 1 ∷ [])) ≡ Some 1
  pub never_started : is_running (so_far (two false) runs_a) 5 ≡ false
  pub ended_twice : is_running (so_far (two false) made_a) 7 ≡ false

-- what has happened after one move
pub record SoFar : Type 0 where
  pub is_lawful : IsLawfulMove (two false) empty_schedule (Starts 0 7)
  pub taken : (so_far (two false) runs_a).taken ≡ 0 ∷ []
  pub position : position_of 7 (so_far (two false) runs_a).running ≡ Some 0
  pub no_position : position_of 8 (so_far (two false) runs_a).running ≡ None
  pub lawful_end : IsLawfulMove (two false) (so_far (two false) runs_a) (Ends 7 true (codes "1"))
  pub greedy_end : IsGreedyMove (two false) (so_far (two false) runs_a) (Ends 7 true (codes "1"))
  pub after_halt : IsLawfulMove (two false) (so_far (two false) (Starts 0 7 ∷ Halts ∷ [])) (Ends 7 true (codes "1"))
  pub finished : IsFinished (two false) (so_far (two false) (Starts 0 7 ∷ Halts ∷ Ends 7 true (codes "1") ∷ []))

-- the events of a build
pub record BuildEvents : Type 0 where
  pub taken : (progress_of one_slot (take 1 events)).taken ≡ 0 ∷ []
  pub none_next : next_position one_slot (progress_of one_slot (take 1 events)) ≡ None
  pub next : next_position one_slot (progress_of one_slot (take 2 events)) ≡ Some 1
  pub no_artefact : artefact_after one_slot (take 1 events) 0 ≡ None
  pub artefact : artefact_after one_slot (take 2 events) 0 ≡ Some (codes "1")
  pub lawful : Lawful one_slot events
  pub whole : IsWhole one_slot events
  pub whole_refused : IsWhole one_slot (Started 7 a_request ∷ Ended 7 (exit 1 []) ∷ [])
  pub answered : Answered accepting events

-- events of compilers and of tests
abbrev with_test : List Event
with_test = Started 1 a_request ∷ Started 2 (record { command = command; input = []; results = Given (codes "r") }) ∷ Ended 2 (exit 0 []) ∷
    Gone 1 ∷ []

-- the events of compilers are left where those of simulators are taken out
pub record CompileParts : Type 0 where
  pub compilers : compile_part with_test ≡ Started 1 a_request ∷ Gone 1 ∷ []
