-- What a run did and said, by what its words and sources say: one record, over all six objects.
use Rattle.std.specs.Prelude.{◌≡◌, ◌⊎◌, ℕ, true, false, List, [], ◌++◌, Option, Some, None, Result, Ok, Err, IfSome}
use Rattle.base.specs.declared.child.Request.{Request}
use Rattle.base.specs.declared.child.Exit.{Exit}
use Rattle.base.specs.declared.child.Event.{Event}
use Rattle.base_outcomes.specs.declared.outcome.Outcome.{Outcome}
use Rattle.base_outcomes.specs.declared.outcome.Outcome.TheVariants as outcome
use Rattle.base_outcomes.specs.declared.outcome.OutsideObject.TheVariants as which
use Rattle.outside.specs.declared.tree.Tree as tree
use Rattle.outside.specs.declared.disk.Disk as disk
use Rattle.outside.specs.declared.procs.Procs as procs
use Rattle.outside.specs.declared.streams.Source as source
use Rattle.outside.specs.declared.streams.Sink as sink
use Rattle.outside.specs.declared.reports.Reports as reports
use Rattle.outside.specs.Disks.{Moments}
use Rattle.outside.specs.FaultCounts.{RunFaultCounts, run_counts}
use Rattle.run_spec.specs.ChildJournal.{since}
use Rattle.run_spec.specs.Histories.{Sources}
use Rattle.vhdl_spec.specs.Scans.{Finding}
use Rattle.child_tools.specs.Answers.{analysis}
use Rattle.child_tools.specs.Benches.{simulation}
use Rattle.project_reading.specs.Asked.{AsksFirst, project_paths}
use Rattle.generated_runs.specs.declared.options.GenerateOptions.{GenerateOptions}
use Rattle.vunit_top.specs.declared.words.Task.{Task}
use Rattle.vunit_top.specs.Acts.{Object, Input, Tree, Disk, Children, Out, Reports, Seen, seen, run_between, statuses_between, said_between, tests_since, RunsTests}
use Rattle.vunit_top.specs.Ends.{Writes, WritesReport, WritesResults}
use Rattle.vunit_top.specs.Generated.{GeneratesAs}
use Rattle.vunit_top.specs.Reading.{Reading, Testing, Tool, Compiler, Simulator, Child, Exports, Builds, Runs, Generates, generates, may_test, reading, words_task}
use Rattle.vunit_top.specs.Runs.{RunsBy}
use Rattle.vunit_top.specs.Said.{Said, Says, SaysRun, IsSaid, plan_in, plain_said, plain_run, build_said, child_said, child_results}
use Rattle.vunit_top.specs.Touches.{touches, may_touch}

-- what holds of an object, by which one it is
abbrev pub of_objects : (input tree disk children out reports : Type 0) → Object → Type 0
of_objects input tree disk children out reports Input = input
of_objects input tree disk children out reports Tree = tree
of_objects input tree disk children out reports Disk = disk
of_objects input tree disk children out reports Children = children
of_objects input tree disk children out reports Out = out
of_objects input tree disk children out reports Reports = reports

-- What six objects tell at a moment, and how often each of them has failed. The input tells what remains of it. The tree tells its
-- files and the paths that it was asked for. The children tell their answers and their journal, and the disk tells its moments. The
-- output tells what was put, and the reports tell their files.
pub record Snapshot : Type 0 where
  pub left : List ℕ
  pub sources : Sources
  pub paths : List (List ℕ)
  pub answer : Request → Exit
  pub journal : List Event
  pub moments : Moments
  pub put : List ℕ
  pub report : List ℕ → Option (List ℕ)
  pub counts : RunFaultCounts

-- what the objects tell that a task may change
abbrev pub part : Snapshot → Seen
part moment = seen moment.journal moment.moments moment.counts.build.disks moment.put moment.report

-- what six objects tell
abbrev pub snapshot_of : {I T D P O R : Type 0} → source.Ghosts I → tree.Ghosts T → disk.Ghosts D → procs.Ghosts P → sink.Ghosts O → reports.Ghosts R
    → I → T → D → P → O → R → Snapshot
snapshot_of source tree disk procs sink reports input files store children out report = record {
  left = source.left input;
  sources = record { file = tree.file files; listed = tree.listed files };
  paths = tree.asked files;
  answer = procs.answer children;
  journal = procs.journal children;
  moments = disk.moments store;
  put = sink.contents out;
  report = reports.report report;
  counts = run_counts source tree disk procs sink reports input files store children out report;
}

-- A call over six objects: which of them tell, which are the same after it, whether the tree keeps what no call changes, and
-- what they tell before it and after it.
pub record Call : Type 1 where
  pub tells : Object → Type 0
  pub same : Object → Type 0
  pub kept : Type 0
  pub before : Snapshot
  pub after : Snapshot

-- the call over these objects, before and after it
abbrev pub call_of : {I T D P O R : Type 0} → source.Ghosts I → tree.Ghosts T → disk.Ghosts D → procs.Ghosts P → sink.Ghosts O → reports.Ghosts R
    → I → T → D → P → O → R → I → T → D → P → O → R → Call
call_of source tree disk procs sink reports input files store children out report input_after files_after store_after children_after out_after report_after = record {
  tells = of_objects source.tells tree.tells disk.tells procs.tells sink.tells reports.tells;
  same = of_objects (input_after ≡ input) (files_after ≡ files) (store_after ≡ store) (children_after ≡ children) (out_after ≡ out) (report_after ≡ report);
  kept = tree.kept files_after ≡ tree.kept files;
  before = snapshot_of source tree disk procs sink reports input files store children out report;
  after = snapshot_of source tree disk procs sink reports input_after files_after store_after children_after out_after report_after;
}

-- the tree tells, if the task reads sources
abbrev pub AreSourcesTold : (tells : Type 0) → Result Task Reading → Type 0
AreSourcesTold tells (Ok task) = tells
AreSourcesTold tells (Err reading) = Unit {0}

-- which objects must tell for outcome and text to be known: the input for a child of the program, and disk and children for a build
abbrev pub IsTold : (Object → Type 0) → Reading → Type 0
IsTold tells (Child tool) = tells Input
IsTold tells (Builds order warnings) = tells Disk × tells Children
IsTold tells (Runs asked) = tells Disk × tells Children
IsTold tells reading = Unit {0}

-- what the program says as a child
abbrev pub tool_said : (List ℕ → Finding) → Tool → List ℕ → Said
tool_said scan Compiler left = child_said (analysis scan) left
tool_said scan Simulator left = child_said simulation left

-- outcome and text by the reading; for a generated project `GeneratesAs` has them
abbrev pub said_of : (List ℕ → Finding) → Reading → (before after : Snapshot) → Option Said
said_of scan (Child tool) before after = Some (tool_said scan tool before.left)
said_of scan (Builds order warnings) before after = Some (build_said warnings order.graph (statuses_between order (part before) (part after)))
said_of scan (Runs asked) before after = Some (plain_run (said_between asked (part before) (part after)))
said_of scan reading before after = plain_said reading

-- what is put; if a report is written after the text, the text stays put after a fault of the report
abbrev pub Puts : Reading → Outcome → Said → (old new : List ℕ) → Type 0
Puts (Runs asked) result said old new = SaysRun result said old new
Puts reading result said old new = Says result said old new

-- the files of reports after a call, by each reading that may write one
abbrev pub Leaves : Reading → Outcome → (before after : Snapshot) → Type 0
Leaves (Child Simulator) result before after = WritesResults (child_results before.left) result before.report after.report
Leaves (Exports path text) result before after = Writes result path text before.report after.report
Leaves (Runs asked) result before after = WritesReport asked.report (said_between asked (part before) (part after)).report result before.report after.report
Leaves reading result before after = Unit {0}

-- the output is the same if the program is a child that says nothing
abbrev pub LeavesOut : (List ℕ → Finding) → Reading → (left : List ℕ) → (same : Type 0) → Type 0
LeavesOut scan (Child tool) left same = (tool_said scan tool left).text ≡ [] → same
LeavesOut scan reading left same = Unit {0}

-- What a call did and said, by its reading. What it did to the disk is a step of a history, and right from a disk of true records.
-- A run with tests ran them over exactly what was built; without a plan no test was started. Text, outcome and reports are those of
-- the reading. A call touches only the objects that its reading names; a child that says nothing leaves the output unchanged. Each
-- source is asked for once, in project order: either all of them, or the first ones, and then neither disk nor children are
-- touched. A run that generates a project works over a disk of its own, and `GeneratesAs` says what it did.
pub record DidAs (call : Call) (scan : List ℕ → Finding) (task : Result Task Reading) (words : List (List ℕ)) (r : Reading) (result : Outcome) : Type 0 where
  pub ran : call.tells Disk → call.tells Children → generates task ≡ false →
      RunsBy scan call.before.answer r (run_between words result (part call.before) (part call.after)) call.before.moments call.after.moments
  pub runs : (asked : Testing) → r ≡ Runs asked → RunsTests call.tells call.before.answer asked result (part call.before) (part call.after)
  pub untested : call.tells Children → generates task ≡ false → plan_in r ≡ None → tests_since (part call.before) (part call.after) ≡ []
  pub says : call.tells Out → IsTold call.tells r → IfSome (said_of scan r call.before call.after) (λ said. Puts r result said call.before.put call.after.put)
  pub answers : IsTold call.tells r → IfSome (said_of scan r call.before call.after) (λ said. IsSaid result → result ≡ said.outcome)
  pub leaves : call.tells Reports → IsTold call.tells r → Leaves r result call.before call.after
  pub frame : (object : Object) → touches r object ≡ false → call.same object
  pub silent : call.tells Input → LeavesOut scan r call.before.left (call.same Out)
  pub asked : generates task ≡ false →
      let paths = project_paths call.before.sources.file call.before.sources.listed in
      (call.after.paths ≡ call.before.paths ++ paths) ⊎ (AsksFirst paths call.before.paths call.after.paths × call.same Disk × call.same Children)
  pub generated : call.tells Children → (options : GenerateOptions) → r ≡ Generates options →
      GeneratesAs scan call.before.answer options result (call.tells Out) (since call.before.journal call.after.journal) call.before.put call.after.put

-- what a call did and said with these words, if the sources are told that they ask for
abbrev pub Did : Call → (List ℕ → Finding) → List (List ℕ) → Outcome → Type 0
Did call scan words result = AreSourcesTold (call.tells Tree) (words_task words) → DidAs call scan (words_task words) words (reading scan words call.before.sources) result

-- What a call leaves, whatever it answers. The tree has the same files, and the children give the same answers. If the children
-- tell, their journal grew only at its end, and only by compilers if the words start no test. The call touches only objects that
-- its words allow. After a fault of the tree or the input, disk, children and reports are unchanged.
pub record Keeps (call : Call) (words : List (List ℕ)) (result : Outcome) : Type 0 where
  pub answer : call.after.answer ≡ call.before.answer
  pub file : call.after.sources.file ≡ call.before.sources.file
  pub listed : call.after.sources.listed ≡ call.before.sources.listed
  pub kept : call.kept
  pub journal : call.tells Children → call.after.journal ≡ call.before.journal ++ since call.before.journal call.after.journal
  pub untested : call.tells Children → may_test (words_task words) ≡ false → tests_since (part call.before) (part call.after) ≡ []
  pub frame : (object : Object) → may_touch (words_task words) object ≡ false → call.same object
  pub placed : (result ≡ outcome.OutsideFault which.Tree) ⊎ (result ≡ outcome.OutsideFault which.Input) → call.same Disk × call.same Children × call.same Reports
