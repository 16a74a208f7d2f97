-- What a run did with its objects and said, by what words and sources say is to be done: one record, which each call hands on.
use Rattle.std.specs.Prelude.{◌≡◌, ℕ, ◌<◌, true, false, if◌then◌else◌, List, [], ◌++◌, length, Option, Some, None}
use Rattle.std.specs.List.{list_all}
use Rattle.base.specs.declared.child.Request.{Request}
use Rattle.base.specs.declared.child.Exit.{Exit}
use Rattle.base.specs.declared.child.Event.{Event}
use Rattle.base.specs.declared.child.MaybeText.TheVariants.{Nothing}
use Rattle.run_spec.specs.declared.statuses.FileStatus.{FileStatus}
use Rattle.base_outcomes.specs.declared.outcome.Outcome.{Outcome}
use Rattle.outside.specs.Disks.{Moments, added_since}
use Rattle.run_spec.specs.ChildJournal.{Answered, since}
use Rattle.run_spec.specs.Histories.{Order, ProgramRun, work_over}
use Rattle.run_spec.specs.JournalParts.{IsCompilerOf, compile_part, test_part}
use Rattle.run_spec.specs.Faithful.{IsFaithfulDisk}
use Rattle.run_spec.specs.Statuses.{statuses_of}
use Rattle.report.specs.Outcomes.{build_outcome}
use Rattle.run_build.specs.Orders.{IsDurablyRecorded}
use Rattle.run_build.specs.Ran.{is_made}
use Rattle.testbench_runs.specs.declared.ends.TestEnd.{TestEnd}
use Rattle.run_spec.specs.TestJournal.{TestSetting, IsWholeTests}
use Rattle.run_tests.specs.Results.{test_ends, steady_ends}
use Rattle.run_tests.specs.Tested.{setting_after}
use Rattle.run_tests.specs.Histories.{HasTested}
use Rattle.run_tests.specs.Rights.{AreRightTests}
use Rattle.report.specs.declared.said.RunSaid.{RunSaid}
use Rattle.report.specs.Said.{run_said}
use Rattle.vhdl_spec.specs.Scans.{Finding}
use Rattle.vunit_top.specs.Store.{records_in_image}
use Rattle.vunit_top.specs.Ends.{Writes, WritesReport}
use Rattle.vunit_top.specs.Reading.{Reading, Testing, Exports, Builds, Runs}
use Rattle.run_build.specs.Building.{has_risen}
use Rattle.vunit_top.specs.Runs.{RunsBy, run_of}
use Rattle.vunit_top.specs.Said.{Said, Says, SaysRun, IsSaid, HasEnded, order_of, report_path_of, plan_in, plain_said, plain_run, build_said}

-- the objects that a run may change
pub data Object : Type 0 where
  Input : Object
  Tree : Object
  Disk : Object
  Children : Object
  Out : Object
  Reports : Object

-- what holds of an object, by which one it is; the input and the tree are not of interest here
abbrev pub of_each : (disk children out reports : Type 0) → Object → Type 0
of_each disk children out reports Input = Unit {0}
of_each disk children out reports Tree = Unit {0}
of_each disk children out reports Disk = disk
of_each disk children out reports Children = children
of_each disk children out reports Out = out
of_each disk children out reports Reports = reports

-- what these objects tell at a moment: the journal of children, the moments of the disk and how often it failed, what was
-- put, and the files of reports
pub record Seen : Type 0 where
  pub journal : List Event
  pub moments : Moments
  pub disk_failures : ℕ
  pub put : List ℕ
  pub report : List ℕ → Option (List ℕ)

-- what objects tell at a moment, from its parts
abbrev pub seen : List Event → Moments → (disk_failures : ℕ) → (put : List ℕ) → (report : List ℕ → Option (List ℕ)) → Seen
seen journal moments disk_failures put report = record { journal = journal; moments = moments; disk_failures = disk_failures; put = put; report = report }

-- the run of these words and this answer between two moments
abbrev pub run_between : List (List ℕ) → Outcome → Seen → Seen → ProgramRun
run_between words result before after =
    run_of words result (has_risen before.disk_failures after.disk_failures) (since before.journal after.journal) (added_since before.moments after.moments)

-- the statuses of a build of an order between two moments
abbrev pub statuses_between : Order → Seen → Seen → List FileStatus
statuses_between order before after = statuses_of (work_over records_in_image order before.moments.now) (compile_part (since before.journal after.journal))

-- the events of tests between two moments
abbrev pub tests_since : Seen → Seen → List Event
tests_since before after = test_part (since before.journal after.journal)

-- what the tests of a run work on, where its compilers made all files between two moments
abbrev pub setting_between : Testing → Seen → Seen → TestSetting
setting_between asked before after = setting_after asked.order asked.plan (work_over records_in_image asked.order before.moments.now) (compile_part (since before.journal after.journal))

-- the ends of the tests of a run between two moments; nothing if a file isn't made
abbrev pub tests_between : Testing → Seen → Seen → Option TestEnd
tests_between asked before after =
    if list_all is_made (statuses_between asked.order before after) then Some (record { runs = test_ends (setting_between asked before after) (tests_since before after) }) else None

-- outcome, text and report of a build and its tests between two moments
abbrev pub said_between : Testing → Seen → Seen → RunSaid
said_between asked before after = run_said asked.warnings asked.order.graph (statuses_between asked.order before after) asked.plan.runs asked.words (tests_between asked before after)

-- What a run with tests did and said between two moments, besides its build. All events of compilers come before those of tests.
-- The tests are lawful runs of the plan over exactly what was built, and no test is started unless all files are made. Each end is
-- what the children of this run answer to its start. If the run has ended and all files are made, the tests are whole. On every
-- answer, if a test was started, each file has a record of its present view in whatever a stop can leave at the end. If the tests
-- are whole and `--fail-fast` isn't given, their ends follow from the answers to their requests, in whatever order these came. From
-- a disk of true records each test is started over the libraries of a clean build. Text, outcome and report follow from statuses,
-- verdicts and outputs. The report is written last.
pub record RunsTests (tells : Object → Type 0) (answer : Request → Exit) (asked : Testing) (result : Outcome) (before after : Seen) : Type 0 where
  pub parted : tells Disk → tells Children → since before.journal after.journal ≡ compile_part (since before.journal after.journal) ++ tests_since before after
  pub tested : tells Disk → tells Children → HasTested asked.order asked.plan (work_over records_in_image asked.order before.moments.now) (compile_part (since before.journal after.journal)) (tests_since before after)
  pub answered : tells Disk → tells Children → Answered answer (tests_since before after)
  pub recorded : tells Disk → tells Children → (tests_since before after ≡ [] → ⊥) → (position : ℕ) → position < length asked.order.graph → IsDurablyRecorded records_in_image after.moments.now asked.order.graph position
  pub right : tells Disk → tells Children → (compiler : Request → Exit) → IsCompilerOf compiler answer → IsFaithfulDisk compiler records_in_image before.moments.now →
      AreRightTests compiler asked.order asked.plan (tests_since before after)
  pub whole : tells Disk → tells Children → HasEnded result → list_all is_made (statuses_between asked.order before after) ≡ true → IsWholeTests (setting_between asked before after) (tests_since before after)
  pub steady : tells Disk → tells Children → HasEnded result → asked.plan.fail_fast ≡ false → list_all is_made (statuses_between asked.order before after) ≡ true →
      test_ends (setting_between asked before after) (tests_since before after) ≡ steady_ends answer asked.plan (setting_between asked before after).built
  pub says : tells Disk → tells Children → tells Out → SaysRun result (plain_run (said_between asked before after)) before.put after.put
  pub answers : tells Disk → tells Children → IsSaid result → result ≡ (said_between asked before after).outcome
  pub writes : tells Disk → tells Children → tells Reports → WritesReport asked.report (said_between asked before after).report result before.report after.report

-- What a run did and said between two moments, by its reading. The premises of a clause name the objects that must tell for it.
pub record Acts (tells same : Object → Type 0) (scan : List ℕ → Finding) (answer : Request → Exit) (r : Reading) (words : List (List ℕ)) (result : Outcome) (before after : Seen) : Type 0 where
  -- what it did is a step of a history, with what follows of it
  pub ran : tells Disk → tells Children → RunsBy scan answer r (run_between words result before after) before.moments after.moments
  -- without an order, disk and children are unchanged; without the path of a report, the reports; and after an export, the output
  pub untouched : order_of r ≡ None → same Disk × same Children
  pub unreported : report_path_of r ≡ Nothing → same Reports
  pub silent : (path text : List ℕ) → r ≡ Exports path text → same Out
  -- the answer and the text that is put: of what isn't a build; and of a build, by its statuses
  pub says_plain : tells Out → (what : Said) → plain_said r ≡ Some what → Says result what before.put after.put
  pub answers_plain : (what : Said) → plain_said r ≡ Some what → IsSaid result → result ≡ what.outcome
  pub says_build : tells Disk → tells Children → tells Out → (order : Order) (warnings : List ℕ) → r ≡ Builds order warnings →
      Says result (build_said warnings order.graph (statuses_between order before after)) before.put after.put
  pub answers : tells Disk → tells Children → (order : Order) (warnings : List ℕ) → r ≡ Builds order warnings → IsSaid result →
      result ≡ build_outcome order.graph (statuses_between order before after)
  -- of a run with tests, what the tests did, with outcome, text and report; without a plan no test is started
  pub runs : (asked : Testing) → r ≡ Runs asked → RunsTests tells answer asked result before after
  pub untested : tells Children → plan_in r ≡ None → tests_since before after ≡ []
  -- the report that is written
  pub writes : tells Reports → (path text : List ℕ) → r ≡ Exports path text → Writes result path text before.report after.report
