-- What a run answers and puts, and what each of its answers comes of.
use Rattle.std.specs.Prelude.{◌≡◌, ℕ, nat_le, false, if◌then◌else◌, List, [], ◌++◌, length, Option, Some, None, unwrap_or}
use Rattle.base.specs.declared.graph.Entry.{Entry}
use Rattle.run_spec.specs.declared.statuses.FileStatus.{FileStatus}
use Rattle.base_outcomes.specs.declared.outcome.OutsideObject.TheVariants as which
use Rattle.base_outcomes.specs.declared.outcome.Outcome.{Outcome}
use Rattle.base_outcomes.specs.declared.outcome.Outcome.TheVariants as outcome
use Rattle.outside.specs.Counts.{Rose}
use Rattle.outside.specs.FaultCounts.{RunFaultCounts, NoRunCountFell}
use Rattle.run_spec.specs.declared.fault.RunFault.{RunFault}
use Rattle.run_spec.specs.declared.fault.RunFault.TheVariants as fault
use Rattle.outside.specs.Streams.{AddsPrefix}
use Rattle.run_spec.specs.Histories.{Order}
use Rattle.report.specs.Outcomes.{build_outcome}
use Rattle.report.specs.Texts.{shown_bytes, build_text, refusal_text, limit_text, usage_text, bad_request, files_list}
use Rattle.report.specs.Listing.{tests_list}
use Rattle.base.specs.declared.child.MaybeText.{MaybeText}
use Rattle.base.specs.declared.child.MaybeText.TheVariants.{Given, Nothing}
use Rattle.base.specs.declared.child.Exit.{Exit}
use Rattle.testbench_runs.specs.declared.jobs.BenchJob.{BenchJob}
use Rattle.run_spec.specs.TestJournal.{TestPlan}
use Rattle.child_test_request.specs.Reading.{bench_at}
use Rattle.child_tools.specs.Benches.{simulation}
use Rattle.report.specs.declared.said.RunSaid.{RunSaid}
use Rattle.vunit_top.specs.Reading.{Reading, Bad, Stops, Over, Lists, ListsTests, Exports, Builds, Runs}

-- an answer, and the text that is put with it
pub record Said : Type 0 where
  pub outcome : Outcome
  pub text : List ℕ

-- a text that is left in the file of a path
pub record Results : Type 0 where
  pub path : List ℕ
  pub text : List ℕ

-- an order of nothing
abbrev pub no_order : Order
no_order = record { graph = []; slots = 1; keep_going = false; clean = false }

-- the order of a reading, if it gives one
abbrev pub order_of : Reading → Option Order
order_of (Builds order warnings) = Some order
order_of (Runs asked) = Some asked.order
order_of _ = None

-- the file that a reading may have a report written to, if any
abbrev pub report_path_of : Reading → MaybeText
report_path_of (Exports path text) = Given path
report_path_of (Runs asked) = asked.report
report_path_of _ = Nothing

-- the tests of a reading, if it gives any
abbrev pub plan_in : Reading → Option TestPlan
plan_in (Runs asked) = Some asked.plan
plan_in _ = None

-- the order that a reading gives, or else the empty order
abbrev pub order_in : Reading → Order
order_in reading = unwrap_or (order_of reading) no_order

-- what a build of these statuses answers, and its text after that of warnings
abbrev pub build_said : List ℕ → List Entry → List FileStatus → Said
build_said warnings graph statuses = record { outcome = build_outcome graph statuses; text = warnings ++ build_text shown_bytes graph statuses }

-- the most bytes that a child takes
abbrev pub input_bytes : ℕ
input_bytes = 2147483648

-- what a child of the program answers and puts, by its end
abbrev pub exit_said : Exit → Said
exit_said exit = record { outcome = outcome.Child exit.code; text = exit.output }

-- what a child of the program says to its input: that of its end, or that the input is too long
abbrev pub child_said : (List ℕ → Exit) → List ℕ → Said
child_said answer input = if nat_le (length input) input_bytes then exit_said (answer input) else record { outcome = outcome.Child 2; text = bad_request }

-- the results that a simulator child leaves, if any: the path of its request, and its text
abbrev pub left_results : Option BenchJob → MaybeText → Option Results
left_results None results = None
left_results (Some task) Nothing = None
left_results (Some task) (Given text) = Some (record { path = task.results; text = text })

-- the results that the simulator child leaves for its input, if any
abbrev pub child_results : List ℕ → Option Results
child_results input = if nat_le (length input) input_bytes then left_results (bench_at input) (simulation input).results else None

-- outcome and text of a reading that starts no build and is neither a child nor a generated project
abbrev pub plain_said : Reading → Option Said
plain_said Bad = Some (record { outcome = outcome.BadWords; text = usage_text })
plain_said (Stops reason) = Some (record { outcome = outcome.Refused reason; text = refusal_text reason })
plain_said (Over limit number) = Some (record { outcome = outcome.OverLimit limit; text = limit_text limit number })
plain_said (Lists graph) = Some (record { outcome = outcome.Done; text = files_list graph })
plain_said (ListsTests tests) = Some (record { outcome = outcome.Done; text = tests_list tests })
plain_said (Exports path text) = Some (record { outcome = outcome.Done; text = [] })
plain_said _ = None

-- At each answer but a fault and out of memory that is the answer, and its text was put. After out of memory
-- nothing was put. After a fault nothing was put, but for a prefix of the text where the output failed.
abbrev pub Says : Outcome → Said → List ℕ → List ℕ → Type 0
Says outcome.NoMemory s old new = new ≡ old
Says (outcome.OutsideFault which.Out) s old new = AddsPrefix s.text old new
Says (outcome.OutsideFault other) s old new = new ≡ old
Says answer s old new = (answer ≡ s.outcome) × (new ≡ old ++ s.text)

-- What a run with tests puts, as in `Says`. But if its report couldn't be written, its text was still put.
abbrev pub SaysRun : Outcome → Said → List ℕ → List ℕ → Type 0
SaysRun (outcome.OutsideFault which.Report) s old new = new ≡ old ++ s.text
SaysRun answer s old new = Says answer s old new

-- what a run with tests answers, and its text
abbrev pub plain_run : RunSaid → Said
plain_run said = record { outcome = said.outcome; text = said.text }

-- no fault and no out of memory
abbrev pub IsSaid : Outcome → Type 0
IsSaid outcome.NoMemory = ⊥
IsSaid (outcome.OutsideFault which) = ⊥
IsSaid answer = Unit {0}

-- the run did what it was to do, and answers that, or that what it then put or wrote failed
abbrev pub HasEnded : Outcome → Type 0
HasEnded outcome.NoMemory = ⊥
HasEnded (outcome.OutsideFault which.Out) = Unit {0}
HasEnded (outcome.OutsideFault which.Report) = Unit {0}
HasEnded (outcome.OutsideFault which) = ⊥
HasEnded answer = Unit {0}

-- the run did what it was to do, and all of its files are made
abbrev pub HasBuilt : Outcome → Type 0
HasBuilt outcome.Done = Unit {0}
HasBuilt outcome.TestsFailed = Unit {0}
HasBuilt answer = ⊥

-- what a fault of a build or of its tests is answered by
abbrev pub fault_outcome : RunFault → Outcome
fault_outcome fault.NoMemory = outcome.NoMemory
fault_outcome fault.StartFailed = outcome.OutsideFault which.Start
fault_outcome fault.ChildLost = outcome.OutsideFault which.Child
fault_outcome fault.DiskFailed = outcome.OutsideFault which.Disk

-- A fault of an object is answered only where its count rose. After any answer but a fault and out of memory
-- all counts are unchanged.
abbrev pub Causes : Outcome → RunFaultCounts → RunFaultCounts → Type 0
Causes outcome.NoMemory old new = Unit {0}
Causes (outcome.OutsideFault which.Tree) old new = Rose old.tree new.tree
Causes (outcome.OutsideFault which.Disk) old new = Rose old.build.disks new.build.disks
Causes (outcome.OutsideFault which.Start) old new = Rose old.build.children.starts new.build.children.starts
Causes (outcome.OutsideFault which.Child) old new = Rose old.build.children.losses new.build.children.losses
Causes (outcome.OutsideFault which.Out) old new = Rose old.out new.out
Causes (outcome.OutsideFault which.Report) old new = Rose old.report new.report
Causes (outcome.OutsideFault which.Input) old new = Rose old.input new.input
Causes answer old new = new ≡ old

-- Each answer has its cause in a count, and no count has fallen.
pub record IsAccounted (result : Outcome) (old new : RunFaultCounts) : Type 0 where
  pub cause : Causes result old new
  pub stand : NoRunCountFell old new
