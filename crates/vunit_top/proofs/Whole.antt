-- What a call did and said, from its parts.
use Rattle.std.proofs.Common.{◌≡◌, ℕ, Bool, true, false, List, [], ◌++◌, Option, Some, None, Result, Ok, Err, refl, sym, ap, subst, ◌∙◌, inr}
use Rattle.std.specs.Prelude.{◌⊎◌, IfSome}
use Rattle.std.proofs.lemmas.Bool.{false≢true}
use Rattle.std.proofs.lemmas.List.{append-nil}
use Rattle.std.proofs.lemmas.Option.{none-some}
use Rattle.base.specs.declared.child.Request.{Request}
use Rattle.base.specs.declared.child.Exit.{Exit}
use Rattle.base.specs.declared.child.Event.{Event}
use Rattle.base_outcomes.specs.declared.outcome.Outcome.{Outcome}
use Rattle.base_outcomes.specs.declared.outcome.Outcome.TheVariants as outcome
use Rattle.base_outcomes.specs.declared.outcome.OutsideObject.TheVariants as which
use Rattle.outside.specs.Disks.{Moments, AreSound}
use Rattle.run_spec.specs.ChildJournal.{since}
use Rattle.run_spec.specs.JournalParts.{test_part}
use Rattle.run_spec.specs.declared.fault.RunFault.TheVariants as fault
use Rattle.run_build.specs.Building.{has_risen}
use Rattle.run_build.proofs.OverStore.{no_test_since, since_itself}
use Rattle.vhdl_spec.specs.Scans.{Finding}
use Rattle.project_reading.specs.Asked.{AsksFirst, project_paths}
use Rattle.project_reading.specs.Reading.{SourceReading, project_reading}
use Rattle.project_reading.specs.declared.query.Query.{Query}
use Rattle.generated_runs.specs.declared.options.GenerateOptions.{GenerateOptions}
use Rattle.vunit_top.specs.declared.words.Task.{Task}
use Rattle.vunit_top.specs.Acts.{Object, Input, Tree, Disk, Children, Out, Reports, Seen, seen, run_between, said_between, tests_since, of_each, Acts, RunsTests}
use Rattle.vunit_top.specs.Did.{Call, Snapshot, AreSourcesTold, IsTold, Did, DidAs, Keeps, Leaves, LeavesOut, Puts, part, said_of}
use Rattle.vunit_top.specs.Ends.{WritesResults}
use Rattle.vunit_top.specs.Generated.{GeneratesAs}
use Rattle.vunit_top.specs.Reading.{Reading, Testing, Bad, Child, Compiler, Simulator, Stops, Over, Lists, ListsTests, Exports, Builds, Runs, Generates, generates, may_test, full_reading, query_of, task_reading, words_task}
use Rattle.vunit_top.specs.Said.{Results, Said, Says, IsSaid, HasEnded, order_of, plan_in, plain_said, child_results}
use Rattle.vunit_top.specs.Touches.{is_child, touches, may_touch}
use Rattle.vunit_top.proofs.ActTruths.{none_run}
use Rattle.vunit_top.proofs.Frames.{IsOfTask, each_row, not_so, no_order_if, no_order_by, no_report_if, of_task}
use Rattle.vunit_top.proofs.GenerateTruths.{generates_none}
use Rattle.vunit_top.specs.Runs.{RunsBy}
use Rattle.vunit_top.proofs.RunTruths.{runs_idle}
use Rattle.vunit_top.proofs.TestTruths.{nothing_written}

-- an unchanged journal grew by nothing
pub grown_none : (journal : List Event) → journal ≡ journal ++ since journal journal
grown_none journal = sym (ap (λ (l : List Event). journal ++ l) (since_itself journal) ∙ append-nil journal)

-- of no path, the first ones were asked for
pub asks_none : (paths before after : List (List ℕ)) → after ≡ before → AsksFirst paths before after
asks_none paths before after is = record { first = []; rest = paths; split = refl; asked = is ∙ sym (append-nil before) }

-- what a run without a build did
pub ran_idle : (scan : List ℕ → Finding) (answer : Request → Exit) (r : Reading) (words : List (List ℕ)) (result : Outcome) (journal : List Event) (moments : Moments) → AreSound moments → (failures : ℕ) (put now : List ℕ) (report after : List ℕ → Option (List ℕ)) →
    (HasEnded result → order_of r ≡ None) → RunsBy scan answer r (run_between words result (seen journal moments failures put report) (seen journal moments failures now after)) moments moments
ran_idle scan answer r words result journal moments sound failures put now report after unordered = runs_idle scan answer r words result (has_risen failures failures) journal moments sound unordered

-- sources that are told are told whatever words ask for
pub sources_told : (tells : Type 0) → tells → (job : Result Task Reading) → AreSourcesTold tells job
sources_told tells told (Ok todo) = told
sources_told tells told (Err r) = tt

-- by what the words are known to say
pub did_by : (call : Call) (scan : List ℕ → Finding) (words : List (List ℕ)) (result : Outcome) (job : Result Task Reading) → words_task words ≡ job →
    (AreSourcesTold (call.tells Tree) job → DidAs call scan job words (full_reading job (project_reading scan call.before.sources.file call.before.sources.listed)) result) → Did call scan words result
did_by call scan words result job is did =
    subst (λ (i : Result Task Reading). AreSourcesTold (call.tells Tree) i → DidAs call scan i words (full_reading i (project_reading scan call.before.sources.file call.before.sources.listed)) result) (sym is) did

plain_if : (said : Option Said) (P : Said → Type 0) → ((what : Said) → said ≡ Some what → P what) → IfSome said P
plain_if None P all = tt
plain_if (Some what) P all = all what refl

-- an output that is the same in any case, or of no child
pub leaves_out : (scan : List ℕ → Finding) (r : Reading) (left : List ℕ) (same : Type 0) → is_child r ≡ false → LeavesOut scan r left same
leaves_out scan Bad left same e = tt
leaves_out scan (Child Compiler) left same e = not_so e
leaves_out scan (Child Simulator) left same e = not_so e
leaves_out scan (Stops reason) left same e = tt
leaves_out scan (Over limit number) left same e = tt
leaves_out scan (Lists graph) left same e = tt
leaves_out scan (ListsTests tests) left same e = tt
leaves_out scan (Exports path text) left same e = tt
leaves_out scan (Builds order warnings) left same e = tt
leaves_out scan (Runs asked) left same e = tt
leaves_out scan (Generates options) left same e = tt

leaves_same : (scan : List ℕ → Finding) (r : Reading) (left : List ℕ) (same : Type 0) → same → LeavesOut scan r left same
leaves_same scan Bad left same is = tt
leaves_same scan (Child Compiler) left same is = λ none. is
leaves_same scan (Child Simulator) left same is = λ none. is
leaves_same scan (Stops reason) left same is = tt
leaves_same scan (Over limit number) left same is = tt
leaves_same scan (Lists graph) left same is = tt
leaves_same scan (ListsTests tests) left same is = tt
leaves_same scan (Exports path text) left same is = tt
leaves_same scan (Builds order warnings) left same is = tt
leaves_same scan (Runs asked) left same is = tt
leaves_same scan (Generates options) left same is = tt

same_generated : (options other : GenerateOptions) → Generates options ≡ Generates other → options ≡ other
same_generated options other is = cc

module _ (call : Call) (scan : List ℕ → Finding) (words : List (List ℕ)) (result : Outcome) where
  abbrev tells : Object → Type 0
  tells = call.tells

  abbrev same : Object → Type 0
  same = call.same

  abbrev before : Snapshot
  before = call.before

  abbrev after : Snapshot
  after = call.after

  -- what the calls below say that settle a task
  abbrev pub ActsAs : Reading → Type 0
  ActsAs r = Acts (of_each (tells Disk) (tells Children) (tells Out) (tells Reports)) (of_each (same Disk) (same Children) (same Out) (same Reports)) scan before.answer r words result (part before) (part after)

  -- which sources were asked for
  abbrev pub AsksAs : Type 0
  AsksAs =
      let paths = project_paths before.sources.file before.sources.listed in
      (after.paths ≡ before.paths ++ paths) ⊎ (AsksFirst paths before.paths after.paths × same Disk × same Children)

  retold : (asked : Testing) → RunsTests (of_each (tells Disk) (tells Children) (tells Out) (tells Reports)) before.answer asked result (part before) (part after) → RunsTests tells before.answer asked result (part before) (part after)
  retold asked ran = record { parted = ran.parted; tested = ran.tested; answered = ran.answered; recorded = ran.recorded; right = ran.right; whole = ran.whole; steady = ran.steady; says = ran.says; answers = ran.answers; writes = ran.writes }

  says_acts : (r : Reading) → ActsAs r → is_child r ≡ false → tells Out → IsTold tells r → IfSome (said_of scan r before after) (λ said. Puts r result said before.put after.put)
  says_acts Bad acts e out told = plain_if (plain_said Bad) (λ what. Says result what before.put after.put) (acts.says_plain out)
  says_acts (Child Compiler) acts e out told = not_so e
  says_acts (Child Simulator) acts e out told = not_so e
  says_acts (Stops reason) acts e out told = plain_if (plain_said (Stops reason)) (λ what. Says result what before.put after.put) (acts.says_plain out)
  says_acts (Over limit number) acts e out told = plain_if (plain_said (Over limit number)) (λ what. Says result what before.put after.put) (acts.says_plain out)
  says_acts (Lists graph) acts e out told = plain_if (plain_said (Lists graph)) (λ what. Says result what before.put after.put) (acts.says_plain out)
  says_acts (ListsTests tests) acts e out told = plain_if (plain_said (ListsTests tests)) (λ what. Says result what before.put after.put) (acts.says_plain out)
  says_acts (Exports path text) acts e out told = plain_if (plain_said (Exports path text)) (λ what. Says result what before.put after.put) (acts.says_plain out)
  says_acts (Builds order warnings) acts e out told = acts.says_build told.0 told.1 out order warnings refl
  says_acts (Runs asked) acts e out told = (acts.runs asked refl).says told.0 told.1 out
  says_acts (Generates options) acts e out told = tt

  answers_acts : (r : Reading) → ActsAs r → is_child r ≡ false → IsTold tells r → IfSome (said_of scan r before after) (λ said. IsSaid result → result ≡ said.outcome)
  answers_acts Bad acts e told = plain_if (plain_said Bad) (λ what. IsSaid result → result ≡ what.outcome) acts.answers_plain
  answers_acts (Child Compiler) acts e told = not_so e
  answers_acts (Child Simulator) acts e told = not_so e
  answers_acts (Stops reason) acts e told = plain_if (plain_said (Stops reason)) (λ what. IsSaid result → result ≡ what.outcome) acts.answers_plain
  answers_acts (Over limit number) acts e told = plain_if (plain_said (Over limit number)) (λ what. IsSaid result → result ≡ what.outcome) acts.answers_plain
  answers_acts (Lists graph) acts e told = plain_if (plain_said (Lists graph)) (λ what. IsSaid result → result ≡ what.outcome) acts.answers_plain
  answers_acts (ListsTests tests) acts e told = plain_if (plain_said (ListsTests tests)) (λ what. IsSaid result → result ≡ what.outcome) acts.answers_plain
  answers_acts (Exports path text) acts e told = plain_if (plain_said (Exports path text)) (λ what. IsSaid result → result ≡ what.outcome) acts.answers_plain
  answers_acts (Builds order warnings) acts e told = acts.answers told.0 told.1 order warnings refl
  answers_acts (Runs asked) acts e told = (acts.runs asked refl).answers told.0 told.1
  answers_acts (Generates options) acts e told = tt

  leaves_acts : (r : Reading) → ActsAs r → is_child r ≡ false → tells Reports → IsTold tells r → Leaves r result before after
  leaves_acts Bad acts e reports told = tt
  leaves_acts (Child Compiler) acts e reports told = tt
  leaves_acts (Child Simulator) acts e reports told = not_so e
  leaves_acts (Stops reason) acts e reports told = tt
  leaves_acts (Over limit number) acts e reports told = tt
  leaves_acts (Lists graph) acts e reports told = tt
  leaves_acts (ListsTests tests) acts e reports told = tt
  leaves_acts (Exports path text) acts e reports told = acts.writes reports path text refl
  leaves_acts (Builds order warnings) acts e reports told = tt
  leaves_acts (Runs asked) acts e reports told = (acts.runs asked refl).writes told.0 told.1 reports
  leaves_acts (Generates options) acts e reports told = tt

  out_acts : (r : Reading) → ActsAs r → touches r Out ≡ false → same Out
  out_acts Bad acts e = not_so e
  out_acts (Child Compiler) acts e = not_so e
  out_acts (Child Simulator) acts e = not_so e
  out_acts (Stops reason) acts e = not_so e
  out_acts (Over limit number) acts e = not_so e
  out_acts (Lists graph) acts e = not_so e
  out_acts (ListsTests tests) acts e = not_so e
  out_acts (Exports path text) acts e = acts.silent path text refl
  out_acts (Builds order warnings) acts e = not_so e
  out_acts (Runs asked) acts e = not_so e
  out_acts (Generates options) acts e = not_so e

  -- by what is done with a task
  did_acts : (r : Reading) (job : Result Task Reading) → ActsAs r → is_child r ≡ false → generates (Err r) ≡ false → same Input → (touches r Tree ≡ false → same Tree) → AsksAs → DidAs call scan job words r result
  did_acts r job acts no_child plain input tree asks = record {
    ran = λ disk children generated. acts.ran disk children;
    runs = λ asked is. retold asked (acts.runs asked is);
    untested = λ children generated none. acts.untested children none;
    says = says_acts r acts no_child;
    answers = answers_acts r acts no_child;
    leaves = leaves_acts r acts no_child;
    frame = each_row same (touches r) (λ e. input) tree (λ e. (acts.untouched (no_order_if r e)).0) (λ e. (acts.untouched (no_order_by r e)).1) (out_acts r acts) (λ e. acts.unreported (no_report_if r e));
    silent = λ told. leaves_out scan r before.left (same Out) no_child;
    asked = λ generated. asks;
    generated = λ children options is. absurd (false≢true (sym plain ∙ ap (λ (other : Reading). generates (Err other)) is));
  }

  abbrev sources : Query → SourceReading
  sources = project_reading scan before.sources.file before.sources.listed

  -- by what a setting says that generates no project
  pub did_settled : (job : Result Task Reading) → may_touch job Input ≡ false → generates job ≡ false → (AreSourcesTold (tells Tree) job → ActsAs (full_reading job sources)) → same Input → (tells Tree → AsksAs) →
      ((r : Reading) → job ≡ Err r → same Tree × same Disk × same Children × same Reports) → (same Tree → after.paths ≡ before.paths) → AreSourcesTold (tells Tree) job → DidAs call scan job words (full_reading job sources) result
  did_settled (Ok todo) no_child plain acts input asks alone paths told =
      let form : IsOfTask (task_reading todo (sources (query_of todo))) = of_task todo (sources (query_of todo)) in
      did_acts (task_reading todo (sources (query_of todo))) (Ok todo) (acts told) form.no_child form.plain input (λ e. absurd (false≢true (sym e ∙ form.reads))) (asks told)
  did_settled (Err r) no_child plain acts input asks alone paths told =
      did_acts r (Err r) (acts tt) no_child plain input (λ e. (alone r refl).0)
      (inr (asks_none (project_paths before.sources.file before.sources.listed) before.paths after.paths (paths (alone r refl).0), (alone r refl).1, (alone r refl).2))

  -- what a call did if words alone give its reading, and it builds nothing
  pub did_alone : (r : Reading) → order_of r ≡ None → generates (Err r) ≡ false → RunsBy scan before.answer r (run_between words result (part before) (part after)) before.moments after.moments → tests_since (part before) (part after) ≡ [] →
      (tells Out → IsTold tells r → IfSome (said_of scan r before after) (λ said. Puts r result said before.put after.put)) → (IsTold tells r → IfSome (said_of scan r before after) (λ said. IsSaid result → result ≡ said.outcome)) →
      (tells Reports → IsTold tells r → Leaves r result before after) → ((object : Object) → touches r object ≡ false → same object) → (tells Input → LeavesOut scan r before.left (same Out)) → after.paths ≡ before.paths → same Disk → same Children → DidAs call scan (Err r) words r result
  did_alone r unordered plain ran tests says answers leaves frame silent paths disk children = record {
    ran = λ d c generated. ran;
    runs = λ asked is. absurd (none-some asked.order (sym unordered ∙ ap order_of is));
    untested = λ c generated none. tests;
    says = says;
    answers = answers;
    leaves = leaves;
    frame = frame;
    silent = silent;
    asked = λ generated. inr (asks_none (project_paths before.sources.file before.sources.listed) before.paths after.paths paths, disk, children);
    generated = λ c options is. absurd (false≢true (sym plain ∙ ap (λ (other : Reading). generates (Err other)) is));
  }

  -- of words that generate a project
  pub did_generated : (options : GenerateOptions) → ((object : Object) → touches (Generates options) object ≡ false → same object) →
      (tells Children → GeneratesAs scan before.answer options result (tells Out) (since before.journal after.journal) before.put after.put) → DidAs call scan (Err (Generates options)) words (Generates options) result
  did_generated options frame given = record {
    ran = λ d c plain. not_so plain;
    runs = λ asked is. let nothing : ⊥ = cc in absurd nothing;
    untested = λ c plain none. not_so plain;
    says = λ o told. tt;
    answers = λ told. tt;
    leaves = λ w told. tt;
    frame = frame;
    silent = λ told. tt;
    asked = λ plain. not_so plain;
    generated = λ c other is. subst (λ (o : GenerateOptions). GeneratesAs scan before.answer o result (tells Out) (since before.journal after.journal) before.put after.put) (same_generated options other is) (given c);
  }

-- what a call keeps if it leaves tree and children unchanged
pub keeps_still : (call : Call) (words : List (List ℕ)) (result : Outcome) (job : Result Task Reading) → words_task words ≡ job →
    call.after.answer ≡ call.before.answer → call.after.sources.file ≡ call.before.sources.file → call.after.sources.listed ≡ call.before.sources.listed → call.kept → call.after.journal ≡ call.before.journal →
    ((object : Object) → may_touch job object ≡ false → call.same object) →
    ((result ≡ outcome.OutsideFault which.Tree) ⊎ (result ≡ outcome.OutsideFault which.Input) → call.same Disk × call.same Children × call.same Reports) → Keeps call words result
keeps_still call words result job is answer file listed kept journal frame placed = record {
  answer = answer;
  file = file;
  listed = listed;
  kept = kept;
  journal = λ c. subst (λ (l : List Event). l ≡ call.before.journal ++ since call.before.journal l) (sym journal) (grown_none call.before.journal);
  untested = λ c none. subst (λ (l : List Event). test_part (since call.before.journal l) ≡ []) (sym journal) (no_test_since call.before.journal);
  frame = λ object e. frame object (ap (λ (i : Result Task Reading). may_touch i object) (sym is) ∙ e);
  placed = placed;
}

-- ## Out of memory before anything was done

module _ (scan : List ℕ → Finding) (at : Snapshot) where
  none_says : (r : Reading) → IfSome (said_of scan r at at) (λ said. Puts r outcome.NoMemory said at.put at.put)
  none_says Bad = refl
  none_says (Child Compiler) = refl
  none_says (Child Simulator) = refl
  none_says (Stops reason) = refl
  none_says (Over limit number) = refl
  none_says (Lists graph) = refl
  none_says (ListsTests tests) = refl
  none_says (Exports path text) = refl
  none_says (Builds order warnings) = refl
  none_says (Runs asked) = refl
  none_says (Generates options) = tt

  none_answers : (r : Reading) → IfSome (said_of scan r at at) (λ said. IsSaid outcome.NoMemory → outcome.NoMemory ≡ said.outcome)
  none_answers Bad = λ is. absurd is
  none_answers (Child Compiler) = λ is. absurd is
  none_answers (Child Simulator) = λ is. absurd is
  none_answers (Stops reason) = λ is. absurd is
  none_answers (Over limit number) = λ is. absurd is
  none_answers (Lists graph) = λ is. absurd is
  none_answers (ListsTests tests) = λ is. absurd is
  none_answers (Exports path text) = λ is. absurd is
  none_answers (Builds order warnings) = λ is. absurd is
  none_answers (Runs asked) = λ is. absurd is
  none_answers (Generates options) = tt

  none_results : (results : Option Results) → WritesResults results outcome.NoMemory at.report at.report
  none_results None = refl
  none_results (Some results) = refl

  none_leaves : (r : Reading) → Leaves r outcome.NoMemory at at
  none_leaves Bad = tt
  none_leaves (Child Compiler) = tt
  none_leaves (Child Simulator) = none_results (child_results at.left)
  none_leaves (Stops reason) = tt
  none_leaves (Over limit number) = tt
  none_leaves (Lists graph) = tt
  none_leaves (ListsTests tests) = tt
  none_leaves (Exports path text) = refl
  none_leaves (Builds order warnings) = tt
  none_leaves (Runs asked) = nothing_written fault.NoMemory asked.report (said_between asked (part at) (part at)).report at.report
  none_leaves (Generates options) = tt

  pub did_none : (tells same : Object → Type 0) (kept : Type 0) (words : List (List ℕ)) (job : Result Task Reading) (r : Reading) → AreSound at.moments → ((object : Object) → same object) →
      DidAs (record { tells = tells; same = same; kept = kept; before = at; after = at }) scan job words r outcome.NoMemory
  did_none tells same kept words job r sound all = record {
    ran = λ d c plain. ran_idle scan at.answer r words outcome.NoMemory at.journal at.moments sound at.counts.build.disks at.put at.put at.report at.report (λ ended. absurd ended);
    runs = λ asked is. none_run tells at.answer asked at.journal at.moments at.counts.build.disks at.put at.report;
    untested = λ c plain none. no_test_since at.journal;
    says = λ o told. none_says r;
    answers = λ told. none_answers r;
    leaves = λ w told. none_leaves r;
    frame = λ object e. all object;
    silent = λ told. leaves_same scan r at.left (same Out) (all Out);
    asked = λ plain. inr (asks_none (project_paths at.sources.file at.sources.listed) at.paths at.paths refl, all Disk, all Children);
    generated = λ c options is. generates_none scan at.answer options (tells Out) at.journal at.put;
  }
