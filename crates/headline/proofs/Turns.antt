-- One call, and what comes after it.
use Rattle.std.proofs.Common.{◌≡◌, ℕ, Bool, List, [], Some, None, Result, Ok, Err, true, false, refl, sym, ap, subst, ◌++◌, ◌∙◌}
use Rattle.std.specs.Prelude.{IfSome, if◌then◌else◌}
use Rattle.std.specs.List.{list_all}
use Rattle.std.proofs.lemmas.Bool.{false≢true}
use Rattle.std.proofs.lemmas.List.{append-nil}
use Rattle.base.specs.declared.child.Request.{Request}
use Rattle.base.specs.declared.child.Exit.{Exit}
use Rattle.base.specs.declared.child.Event.{Event}
use Rattle.base_outcomes.specs.declared.outcome.Outcome.{Outcome}
use Rattle.outside.specs.Disks.{DiskState, Moments, AreSound, Follows, added_since, all_of}
use Rattle.outside.proofs.PhaseLaws.{nothing_added}
use Rattle.run_spec.specs.Histories.{Sources, Order, ProgramRun, IsIdleRun, IsReadable, work_over}
use Rattle.run_spec.specs.ChildJournal.{since}
use Rattle.run_spec.specs.JournalParts.{IsCompilerOf, compile_part, test_part}
use Rattle.run_spec.specs.Statuses.{statuses_of}
use Rattle.report.specs.Outcomes.{build_outcome}
use Rattle.report.specs.Said.{run_said}
use Rattle.testbench_runs.specs.declared.ends.TestEnd.{TestEnd}
use Rattle.vhdl_spec.specs.Scans.{Finding}
use Rattle.project_reading.specs.Reading.{project_reading}
use Rattle.run_build.specs.Building.{has_risen}
use Rattle.run_build.specs.Ran.{is_made}
use Rattle.run_tests.specs.Results.{test_ends}
use Rattle.run_tests.specs.Histories.{TestsStep}
use Rattle.vunit_top.specs.Store.{records_in_image}
use Rattle.vunit_top.specs.Acts.{Seen, Disk, Children, setting_between, tests_since}
use Rattle.vunit_top.specs.Did.{Call, DidAs, IsTold, part, said_of}
use Rattle.vunit_top.specs.Reading.{Reading, Testing, Bad, Child, Stops, Over, Lists, ListsTests, Exports, Builds, Runs, Generates, full_reading, generates, reading, words_task}
use Rattle.vunit_top.specs.declared.words.Task.{Task}
use Rattle.vunit_top.specs.Runs.{RunsAs, RunsBy, run_of}
use Rattle.vunit_top.specs.Said.{IsSaid, order_of, plan_in}
use Rattle.vunit_top.proofs.RunTruths.{readable_now}
use Rattle.generated_runs.specs.declared.options.GenerateOptions.{GenerateOptions}
use Rattle.headline.specs.Promise.{LeavesDisk, RanAll}
use Rattle.headline.proofs.ChainTruths.{TestsOf, tests_step}
use Rattle.headline.proofs.Promises.{idle_is_run, idle_keeps, keeps, named_by, ran_and_left}

-- children have the compiler that their own answers are
pub own_compiler : (answer : Request → Exit) → IsCompilerOf answer answer
own_compiler answer request plain = refl

-- and the compiler of children that they follow
pub compiler_then : (first middle last : Request → Exit) → IsCompilerOf first middle → IsCompilerOf middle last → IsCompilerOf first last
compiler_then first middle last one two request plain = two request plain ∙ one request plain

-- moments that stay follow themselves
pub follows_itself : (moments : Moments) → Follows moments moments
follows_itself moments = sym (append-nil (all_of moments)) ∙ ap (λ (states : List DiskState). all_of moments ++ states) (sym (nothing_added moments))

-- words that generate a project name how
pub generating : (j : Result Task Reading) → generates j ≡ true → (options : GenerateOptions) × (j ≡ Err (Generates options))
generating (Ok task) is = absurd (false≢true is)
generating (Err (Generates options)) is = (options, refl)
generating (Err Bad) is = absurd (false≢true is)
generating (Err (Child tool)) is = absurd (false≢true is)
generating (Err (Stops reason)) is = absurd (false≢true is)
generating (Err (Over limit number)) is = absurd (false≢true is)
generating (Err (Lists graph)) is = absurd (false≢true is)
generating (Err (ListsTests tests)) is = absurd (false≢true is)
generating (Err (Exports path text)) is = absurd (false≢true is)
generating (Err (Builds order warnings)) is = absurd (false≢true is)
generating (Err (Runs asked)) is = absurd (false≢true is)

module _ (scan : List ℕ → Finding) (compiler : Request → Exit) (sources new : Sources) (words : List (List ℕ)) (result : Outcome) (old : Moments) (sound : AreSound old) where
  abbrev r : Reading
  r = reading scan words sources

  readable : IsReadable old.now
  readable = readable_now old sound

  -- a call that builds, tests or says something
  pub run_and_left : (answer : Request → Exit) → IsCompilerOf compiler answer → (failed : Bool) (events : List Event) (middle : Moments) → RunsBy scan answer r (run_of words result failed events (added_since old middle)) old middle → TestsOf r events old.now →
      ((order : Order) (warnings : List ℕ) → r ≡ Builds order warnings → IsSaid result → result ≡ build_outcome order.graph (statuses_of (work_over records_in_image order old.now) (compile_part events))) →
      ((asked : Testing) → r ≡ Runs asked → IsSaid result →
      (end : TestEnd) × (result ≡ (run_said asked.warnings asked.order.graph (statuses_of (work_over records_in_image asked.order old.now) (compile_part events)) asked.plan.runs asked.words (if list_all is_made (statuses_of (work_over records_in_image asked.order old.now) (compile_part events)) then Some end else None)).outcome)) →
      (left : DiskState) → LeavesDisk old middle left → RanAll scan compiler 1 (record { sources = sources; disk = old.now }) (record { sources = new; disk = left })
  run_and_left answer is failed events middle did tested builds runs left leaves =
      let run : ProgramRun = run_of words result failed events (added_since old middle) in
      let mine : RunsAs scan compiler r run old.now middle.now = did.by compiler is in
      let tests : TestsStep records_in_image (order_of r) (plan_in r) run.events run.tests old.now = tests_step (compile_part events) (test_part events) old.now r tested.untested tested.tested in
      ran_and_left scan compiler sources run old.now readable (mine.step, tests)
      (keeps scan compiler sources run old.now readable middle.now mine tests (named_by result (compile_part events) old.now r builds runs)) old middle refl refl mine.ends left leaves new

  -- a call that generates a project, over a disk of its own
  pub generated_and_left : (options : GenerateOptions) → words_task words ≡ Err (Generates options) → (left : DiskState) → LeavesDisk old old left → RanAll scan compiler 1 (record { sources = sources; disk = old.now }) (record { sources = new; disk = left })
  generated_and_left options is left leaves =
      let run : ProgramRun = record { words = words; outcome = result; disk_failed = false; events = []; tests = []; later = [] } in
      let none : order_of r ≡ None = ap (λ (j : Result Task Reading). order_of (full_reading j (project_reading scan sources.file sources.listed))) is in
      let idle : IsIdleRun run = record { events = refl; later = refl } in
      ran_and_left scan compiler sources run old.now readable (idle_is_run scan compiler sources run old.now readable none idle refl) (idle_keeps scan compiler sources run old.now readable none idle refl)
      old old refl (sym (nothing_added old)) refl left leaves new

-- ## By what a call says that it did

module _ (call : Call) (scan : List ℕ → Finding) (words : List (List ℕ)) (result : Outcome) (did : DidAs call scan (words_task words) words (reading scan words call.before.sources) result) (d : call.tells Disk) (p : call.tells Children) (plain : generates (words_task words) ≡ false) where
  abbrev read : Reading
  read = reading scan words call.before.sources

  abbrev b : Seen
  b = part call.before

  abbrev a : Seen
  a = part call.after

  -- the outcome follows from the reading, if the reading is this one
  answers_by : (r : Reading) → read ≡ r → IsTold call.tells r → IfSome (said_of scan r call.before call.after) (λ said. IsSaid result → result ≡ said.outcome)
  answers_by r reads = subst (λ (x : Reading). IsTold call.tells x → IfSome (said_of scan x call.before call.after) (λ said. IsSaid result → result ≡ said.outcome)) reads did.answers

  tests_of : TestsOf read (since call.before.journal call.after.journal) call.before.moments.now
  tests_of = record { untested = λ none. did.untested p plain none; tested = λ asked reads. (did.runs asked reads).tested d p }

  pub follows_of : Follows call.before.moments call.after.moments
  follows_of = (did.ran d p plain).follows

  pub did_and_left : (compiler : Request → Exit) → IsCompilerOf compiler call.before.answer → AreSound call.before.moments → (left : DiskState) → LeavesDisk call.before.moments call.after.moments left → (new : Sources) →
      RanAll scan compiler 1 (record { sources = call.before.sources; disk = call.before.moments.now }) (record { sources = new; disk = left })
  did_and_left compiler is sound left leaves new =
      run_and_left scan compiler call.before.sources new words result call.before.moments sound call.before.answer is (has_risen call.before.counts.build.disks call.after.counts.build.disks) (since call.before.journal call.after.journal) call.after.moments
      (did.ran d p plain) tests_of
      (λ order warnings reads said. answers_by (Builds order warnings) reads (d, p) said)
      (λ asked reads said. (record { runs = test_ends (setting_between asked b a) (tests_since b a) }, answers_by (Runs asked) reads (d, p) said))
      left leaves
