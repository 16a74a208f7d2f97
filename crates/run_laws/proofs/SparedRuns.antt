-- A run doesn't start a file whose acknowledged record is current, and keeps that record acknowledged.
use Rattle.std.proofs.Common.{◌<◌, ℕ, ◌≡◌, ◌⊎◌, Bool, true, false, eqb, cond, List, [], ◌∷◌, get_or, zero, suc, refl, is_some, Option, Some, None, sym, ap, subst, ◌∙◌, inl, inr, arith, length}
use Rattle.std.specs.Prelude.{All, Contains, slice_get}
use Rattle.std.specs.Option.{option_map}
use Rattle.std.specs.List.{AllByRecursion, list_any}
use Rattle.std.proofs.lemmas.Bool.{cases_Bool, cases_lt, cond-false, false≢true, both_ways}
use Rattle.std.proofs.lemmas.List.Elements.{All-contains}
use Rattle.std.proofs.lemmas.Option.{none-some, slice_get_cases}
use Rattle.base.specs.declared.file.FileName.{FileName}
use Rattle.base.specs.declared.graph.Entry.{Entry}
use Rattle.base.specs.declared.graph.BuiltFile.{BuiltFile}
use Rattle.base.specs.declared.child.Request.{Request}
use Rattle.base.specs.declared.child.Exit.{Exit}
use Rattle.base.specs.declared.child.Event.{Event}
use Rattle.base.specs.Graphs.{IsGraph}
use Rattle.outside.specs.Disks.{DiskState, Image, IsImage, reads_of}
use Rattle.outside.specs.Records.{Asked, Record, asked_of, deps_at, latest, is_of, IsAllOrLatest}
use Rattle.outside.specs.Commits.{last_state}
use Rattle.outside.specs.Phases.{HasBaseAndPrefix}
use Rattle.outside.proofs.MomentLaws.{all_last, all_weaker}
use Rattle.outside.proofs.PhaseLaws.{phases_give}
use Rattle.run_spec.specs.ChildJournal.{Work, BuildProgress, after_all, progress_of, has_all, built_at, or_else, output_at, artefact_so_far}
use Rattle.run_spec.specs.Commits.{record_at, commits}
use Rattle.run_spec.specs.Histories.{Order, World, ProgramRun, IsReadable, IsBuildRun, RunStep, work_over, latest_over}
use Rattle.run_spec.proofs.LatestRecords.{latest_before_none, none_of_prefix}
use Rattle.run_spec.specs.Settled.{Settled, Blocked, settled_artefact, settled_by, request_over, next_settled, settle, artefact_settled, is_asked, request_unless}
use Rattle.run_spec.proofs.Artefacts.{deps_before, artefact_free}
use Rattle.run_spec.proofs.SettledBuild.{settled_past, settle_at}
use Rattle.run_spec.proofs.RecordedArtefacts.{current_of_record}
use Rattle.run_spec.proofs.RecordNames.{asked_is}
use Rattle.run_spec.proofs.BuiltLists.{built_same}
use Rattle.run_laws.proofs.EndsOnce.{no_end}
use Rattle.run_laws.proofs.JournalKeeps.{was_taken, orderly_progress, list_all-from_All}
use Rattle.run_laws.proofs.JournalStarted.{held, nothing_due}
use Rattle.run_laws.proofs.JournalSettled.{started_stale}
use Rattle.run_laws.proofs.TrueRecords.{latest-latest_alone}
use Rattle.run_laws.specs.Spares.{IsAcknowledged, HasFile, HasFileAsked, settled_over, SparesFile, LeavesRecord}
use Rattle.run_laws.proofs.CommittedNames.{none_committed}
use Rattle.run_laws.proofs.Moments.{at_moment, on_left}
use Rattle.run_laws.proofs.RightRuns.{idle_moments, run_readable}

pub same_latest : (name : FileName) (before now : List Record) → IsAllOrLatest before now → latest name now ≡ latest name before
same_latest name before now (inl same) = ap (latest name) same
same_latest name before now (inr alone) = ap (latest name) alone ∙ latest-latest_alone name before

-- what is in no list isn't found in it
pub unheld : (taken : List ℕ) (k : ℕ) → (Contains taken k → ⊥) → list_any (λ other. eqb other k) taken ≡ false
unheld taken k none =
    elim (cases_Bool (list_any (λ other. eqb other k) taken)) [
      | inl found ↦ absurd (none (held taken k found))
      | inr other ↦ other
    ]

-- nothing is taken before the first event
pub nothing_taken : (setting : Work) (k : ℕ) → Contains (progress_of setting []).taken k → ⊥
unfolding after_all
nothing_taken setting k contains = absurd (omega (arith, contains.1))

-- if a compiler is asked for a file, no record of the file is current
uncurrent : (all : Bool) (kept : Option (List ℕ)) (exit : Option Exit) → is_asked (cond all (settled_by kept exit) Blocked) ≡ true → kept ≡ None
uncurrent true None exit h = refl
uncurrent true (Some artefact) exit h = absurd (false≢true h)
uncurrent false kept exit h = absurd (false≢true h)

-- no record is current of a file that the settled build asks its compiler for
pub unrecorded : (answer : Request → Exit) (work : Work) → IsGraph work.graph → (at : ℕ) (request : Request) → request_unless answer work.graph work.current at ≡ Some request
    → work.current at (built_at work.graph (artefact_settled answer work.graph work.current) (deps_at work.graph at)) ≡ None
unrecorded answer work graph at request h =
    let so_far : ℕ → Settled = settle answer work.graph work.current in
    let built : List BuiltFile = built_at work.graph (artefact_settled answer work.graph work.current) (deps_at work.graph at) in
    let over : Option Request = request_over work.graph at built in
    elim (cases_Bool (is_asked (so_far at))) [
      | inl asked ↦
          elim (cases_lt at (length work.graph)) [
            | inl lt ↦
                let is : so_far at ≡ next_settled answer work.graph work.current so_far at = settle_at answer work.graph work.current (deps_before work.graph graph) at lt in
                uncurrent (has_all (λ dep. settled_artefact (so_far dep)) (deps_at work.graph at)) (work.current at built) (option_map answer (request_over work.graph at built)) (ap is_asked (sym is) ∙ asked)
            | inr past ↦ absurd (false≢true (ap is_asked (sym (settled_past answer work.graph work.current at past)) ∙ asked))
          ]
      | inr none ↦ absurd (none-some request (sym (cond-false (is_asked (so_far at)) over None none) ∙ h))
    ]

-- where a record of each file is current over artefacts of all, each file has its own from the start
module _ (work : Work) (graph : IsGraph work.graph) (artefact_of : ℕ → List ℕ)
    (current : (at : ℕ) → at < length work.graph → work.current at (built_at work.graph (λ p. Some (artefact_of p)) (deps_at work.graph at)) ≡ Some (artefact_of at)) where
  all_to : (end : ℕ) (at : ℕ) → at < end → at < length work.graph → artefact_so_far work [] at ≡ Some (artefact_of at)
  unfolding has_all output_at
  all_to zero at less lt = absurd (omega (arith, less))
  all_to (suc end) at less lt =
      let deps : List ℕ = deps_at work.graph at in
      let before : All (λ dep. dep < at) deps = deps_before work.graph graph at in
      let same : All (λ dep. artefact_so_far work [] dep ≡ Some (artefact_of dep)) deps = λ k d l. all_to end (get_or deps k d) (omega (arith, before k d l, less)) (omega (arith, before k d l, lt)) in
      let all : has_all (artefact_so_far work []) deps ≡ true = list_all-from_All (λ dep. is_some (artefact_so_far work [] dep)) deps (λ k d l. ap is_some (same k d l)) in
      artefact_free work (deps_before work.graph graph) [] at lt all
      ∙ ap (λ (built : List BuiltFile). or_else (work.current at built) None) (built_same work.graph (artefact_so_far work []) (λ p. Some (artefact_of p)) deps same)
      ∙ ap (λ (o : Option (List ℕ)). or_else o None) (current at lt)

  pub all_there : (at : ℕ) → at < length work.graph → artefact_so_far work [] at ≡ None → ⊥
  all_there at lt none = none-some (artefact_of at) (sym none ∙ all_to (suc at) at (omega arith) lt)

module _ (world : World) (name : FileName) (kept : Record) where
  -- what a run goes by has the acknowledged record, unless all is built anew
  pub known : (order : Order) (first : DiskState) → IsReadable first → order.clean ≡ false → IsAcknowledged world name kept first → latest_over world.records_of order.clean first name ≡ Some kept
  known order first readable over here = ap (λ (clean : Bool). cond clean None (latest name (world.records_of (reads_of first)))) over ∙ here (reads_of first) readable

  module _ (order : Order) (run : ProgramRun) (first : DiskState) (build : IsBuildRun world order run first) (over : order.clean ≡ false) where
    abbrev setting : Work
    setting = work_over world.records_of order first

    -- a file of which is asked what its record has isn't started
    pub unstarted : latest_over world.records_of order.clean first name ≡ Some kept → (asked : HasFileAsked world order first name kept.asked) → Contains (progress_of setting run.events).taken asked.file.position → ⊥
    unstarted knows asked contains =
        let file : HasFile order name = asked.file in
        let built : List BuiltFile = built_at order.graph (settled_over world order first) (deps_at order.graph file.position) in
        let latest_is : latest_over world.records_of order.clean first file.entry.name ≡ Some (record { asked = asked_of file.entry built; artefact = kept.artefact }) =
        ap (latest_over world.records_of order.clean first) file.is_name ∙ knows ∙ ap (λ (a : Asked). Some (record { asked = a; artefact = kept.artefact })) (sym asked.is_asked) in
        let current = current_of_record (latest_over world.records_of order.clean first) order.graph file.position file.entry built file.is_entry kept.artefact latest_is in
        let stale = started_stale world.compiler setting build.graph run.events build.lawful build.answered file.position contains in
        none-some kept.artefact (sym (unrecorded world.compiler setting build.graph file.position stale.0 stale.1) ∙ current)

    -- of such a file nothing is committed
    pub uncommitted : latest_over world.records_of order.clean first name ≡ Some kept → HasFileAsked world order first name kept.asked → list_any (is_of name) (commits setting run.events) ≡ false
    uncommitted knows asked =
        let file : HasFile order name = asked.file in
        let progress : BuildProgress = progress_of setting run.events in
        let fresh : was_taken progress file.position ≡ false = unheld progress.taken file.position (unstarted knows asked) in
        subst (λ (n : FileName). list_any (is_of n) (commits setting run.events) ≡ false) file.is_name
        (none_committed order.graph build.graph file.position file.entry file.is_entry progress.ends (no_end progress file.position fresh progress.ends (orderly_progress world.compiler setting run.events build.lawful build.answered).ends))

    -- where nothing is committed of its name, an acknowledged record stays so
    image_keeps : (more : List Record) → list_any (is_of name) more ≡ false → IsAcknowledged world name kept first → (image : Image) → HasBaseAndPrefix world.records_of order.clean more first image → latest name (world.records_of image) ≡ Some kept
    image_keeps more none here image has = ap (latest name) has.are ∙ latest_before_none name has.base has.prefix (none_of_prefix name has.prefix has.left (ap (list_any (is_of name)) (sym has.all) ∙ none)) ∙ base_keeps has.from where
      base_keeps : ((before : Image) × IsImage first before × IsAllOrLatest (world.records_of before) has.base) ⊎ ((order.clean ≡ true) × (has.base ≡ [])) → latest name has.base ≡ Some kept
      base_keeps (inl from) = same_latest name (world.records_of from.0) has.base from.2 ∙ here from.0 from.1
      base_keeps (inr emptied) = absurd (both_ways order.clean over emptied.0)

    pub stays_acknowledged : IsReadable first → IsAcknowledged world name kept first → list_any (is_of name) (commits setting run.events) ≡ false → AllByRecursion (IsAcknowledged world name kept) (first ∷ run.later)
    stays_acknowledged readable here none =
        all_weaker (HasBaseAndPrefix world.records_of order.clean (commits setting run.events) first) (λ image. latest name (world.records_of image) ≡ Some kept) (first ∷ run.later)
        (image_keeps (commits setting run.events) none here) (phases_give world.records_of order.clean (commits setting run.events) first readable build.acknowledged run.later build.phases)

  left_none : (order : Order) (run : ProgramRun) (first : DiskState) (build : IsBuildRun world order run first) (over : order.clean ≡ false) → IsReadable first → IsAcknowledged world name kept first →
      HasFileAsked world order first name kept.asked ⊎ (list_any (is_of name) (commits (work_over world.records_of order first) run.events) ≡ false) → list_any (is_of name) (commits (work_over world.records_of order first) run.events) ≡ false
  left_none order run first build over readable here (inl file) = uncommitted order run first build over (known order first readable over here) file
  left_none order run first build over readable here (inr none) = none

  pub run_spares : (order : Option Order) (run : ProgramRun) (first : DiskState) → IsReadable first → IsAcknowledged world name kept first → RunStep world order run first → SparesFile world order name kept.asked run first
  run_spares None run first readable here step = tt
  run_spares (Some order) run first readable here (inl idle) = λ over file contains.
      nothing_taken (work_over world.records_of order first) file.file.position (subst (λ (events : List Event). Contains (progress_of (work_over world.records_of order first) events).taken file.file.position) idle.events contains)
  run_spares (Some order) run first readable here (inr build) = λ over file. unstarted order run first build over (known order first readable over here) file

  pub run_leaves : (order : Option Order) (run : ProgramRun) (first : DiskState) → IsReadable first → IsAcknowledged world name kept first → RunStep world order run first → LeavesRecord world order name kept run first →
      AllByRecursion (IsAcknowledged world name kept) (first ∷ run.later)
  run_leaves None run first readable here idle leaves = idle_moments world (IsAcknowledged world name kept) run first idle here
  run_leaves (Some order) run first readable here (inl idle) leaves = idle_moments world (IsAcknowledged world name kept) run first idle here
  run_leaves (Some order) run first readable here (inr build) leaves =
      stays_acknowledged order run first build leaves.0 readable here (left_none order run first build leaves.0 readable here leaves.1)

-- if each file has an acknowledged record that is current over the artefacts of all files, a run starts nothing
pub nothing_started : (world : World) (order : Order) (run : ProgramRun) (first : DiskState) (artefact_of : ℕ → List ℕ) → IsReadable first → RunStep world (Some order) run first → order.clean ≡ false →
    ((position : ℕ) (entry : Entry) → slice_get order.graph position ≡ Some entry → IsAcknowledged world entry.name (record_at order.graph position (built_at order.graph (λ p. Some (artefact_of p)) (deps_at order.graph position)) (artefact_of position)) first) → run.events ≡ []
nothing_started world order run first artefact_of readable (inl idle) over each = idle.events
nothing_started world order run first artefact_of readable (inr build) over each =
    nothing_due (work_over world.records_of order first) (all_there (work_over world.records_of order first) build.graph artefact_of current) run.events build.lawful where
      files : ℕ → List BuiltFile
      files position = built_at order.graph (λ p. Some (artefact_of p)) (deps_at order.graph position)

      current : (position : ℕ) → position < length order.graph → (work_over world.records_of order first).current position (files position) ≡ Some (artefact_of position)
      current position lt =
          elim (slice_get_cases order.graph position).1 [
            | inl here ↦
                let knows = known world here.0.name (record_at order.graph position (files position) (artefact_of position)) order first readable over (each position here.0 here.2) in
                current_of_record (latest_over world.records_of order.clean first) order.graph position here.0 (files position) here.2 (artefact_of position)
                (knows ∙ ap (λ (a : Asked). Some (record { asked = a; artefact = artefact_of position })) (asked_is order.graph position here.0 here.2 (files position)))
            | inr past ↦ absurd (omega (arith, past.0, lt))
          ]
