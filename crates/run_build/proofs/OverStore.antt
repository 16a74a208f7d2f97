-- A build over a store that was opened from a disk, in terms of what the disk held before.
use Rattle.std.proofs.Common.{◌≡◌, ℕ, ◌+◌, ◌-◌, ◌^◌, ◌<◌, ◌≤◌, min, le-leb, Bool, true, false, not, ◌&&◌, List, [], ◌++◌, length, Option, Some, None, Result, Ok, Err, OnOk, refl, sym, ap, subst, ◌∙◌, inl, inr, arith}
use Rattle.std.specs.Prelude.{slice_get, take, is_some, IfOk}
use Rattle.std.specs.Bool.{OnTrue, OnFalse}
use Rattle.std.specs.Result.{is_ok}
use Rattle.std.specs.List.{filter_map, list_all}
use Rattle.std.specs.Option.{option_map}
use Rattle.std.proofs.Math.Path.{fun_ext}
use Rattle.std.proofs.lemmas.Bool.{false≢true, OnTrue_at}
use Rattle.std.proofs.lemmas.List.{drop_all, take_all}
use Rattle.std.proofs.lemmas.Option.{slice_get-map, slice_get-get_or}
use Rattle.base.specs.declared.file.FileName.{FileName}
use Rattle.base.specs.declared.graph.Entry.{Entry}
use Rattle.base.specs.declared.child.Request.{Request}
use Rattle.base.specs.declared.child.Exit.{Exit}
use Rattle.base.specs.declared.child.Event.{Event}
use Rattle.run_spec.specs.declared.statuses.FileStatus.{FileStatus}
use Rattle.base.specs.Graphs.{IsGraph}
use Rattle.base.specs.PresentGraph.{below}
use Rattle.base.proofs.Below.{get_or-below, length-below}
use Rattle.outside.specs.Counts.{Rose}
use Rattle.outside.specs.Disks.{DiskState, Image, EachImage, Moments, AreSound, IsDurable, Follows, Goes, IsEither, OpensWith, Rests, added_since, reads_of}
use Rattle.outside.specs.Commits.{HasFirst, most_committed}
use Rattle.outside.specs.Records.{Record, latest, IsAllOrLatest, IsRecorded}
use Rattle.outside.specs.declared.records.StoreFault.{StoreFault}
use Rattle.outside.specs.Phases.{IsOpening, IsBase, HasPhases, opened, committed}
use Rattle.outside.proofs.MomentLaws.{follows_by, goes_follows, joined_follows}
use Rattle.outside.proofs.PhaseLaws.{open_failed, open_done, empty_failed, empty_done, then_committed}
use Rattle.run_spec.specs.ChildJournal.{Work, Lawful, progress_of, artefact_after, exit_at, since, EachAfter}
use Rattle.run_spec.specs.Commits.{work_of, commits}
use Rattle.run_spec.specs.Histories.{Order, work_over, latest_over}
use Rattle.run_spec.specs.JournalParts.{test_part}
use Rattle.run_spec.specs.Statuses.{status_of, status_at, statuses_of}
use Rattle.run_spec.proofs.Journal.{since-added}
use Rattle.run_spec.proofs.Parts.{build_parts}
use Rattle.run_spec.proofs.Prefixes.{lawful_none}
use Rattle.run_spec.proofs.RunSteps.{readable_since, no_commits}
use Rattle.run_spec.proofs.Waiting.{waits_none}
use Rattle.run_laws.proofs.SparedRuns.{same_latest}
use Rattle.run_spec.specs.declared.fault.RunFault.{RunFault}
use Rattle.run_spec.specs.declared.fault.RunFault.TheVariants as fault
use Rattle.run_spec.specs.Faults.{fault_of, is_no_memory}
use Rattle.run_build.specs.Faults.{is_all_committed}
use Rattle.run_build.specs.Ran.{BuildRan, is_made, built_by}
use Rattle.run_build.specs.Requests.{borrowed_at}
use Rattle.run_build.specs.Orders.{IsDurablyRecorded}
use Rattle.run_build.proofs.BorrowedFiles.{borrowed_are}
use Rattle.run_build.specs.Building.{OpensStore, BuildsOver, has_risen}

module _ (K : Type 0) (records_of : Image → List Record) (old new : Moments) where
  abbrev HasRead : Image → Type 0
  HasRead image = IsAllOrLatest (records_of (reads_of old.now)) (records_of image)

  abbrev HasReadOrNone : Image → Type 0
  HasReadOrNone image = IsEither (records_of image) (records_of (reads_of old.now)) []

  -- a store that was opened, or couldn't be
  pub opens_store : (result : Result K StoreFault) → Follows old new → OpensWith old new HasRead → OnOk result (HasRead (reads_of new.now)) → IfOk result (λ store. IsDurable new.now) → OpensStore records_of false result old new
  opens_store (Ok store) follows opens kept durable =
      let opening : IsOpening records_of false old.now (added_since old new) = open_done records_of false old new opens kept durable in
      record { follows = follows; phases = λ more. opened refl opening; opening = opening; base = kept }
  opens_store (Err why) follows opens kept durable = record { follows = follows; phases = λ more. open_failed records_of false more old new opens; opening = tt; base = tt }

  opens_follows : OpensWith old new HasReadOrNone → Follows old new
  opens_follows (inl goes) = goes_follows old.now old new goes
  opens_follows (inr opens) =
      let middle = opens.0 in
      follows_by old new (added_since old middle ++ added_since middle new) (joined_follows old middle new (goes_follows old.now old middle opens.1) opens.2.follows)

  -- one that was opened empty, or couldn't be
  pub empties_store : (result : Result K StoreFault) → OpensWith old new HasReadOrNone → OnOk result (records_of (reads_of new.now) ≡ []) → IfOk result (λ store. IsDurable new.now) → OpensStore records_of true result old new
  empties_store (Ok store) opens none durable =
      let opening : IsOpening records_of true old.now (added_since old new) = empty_done records_of old new opens none durable in
      record { follows = opens_follows opens; phases = λ more. opened refl opening; opening = opening; base = none }
  empties_store (Err why) opens none durable = record { follows = opens_follows opens; phases = λ more. empty_failed records_of more old new opens; opening = tt; base = tt }

-- what holds whatever is given holds of what is
pub on_ok_any : {A B P : Type 0} (result : Result A B) → P → OnOk result P
on_ok_any (Ok given) holds = holds
on_ok_any (Err why) holds = tt

-- where opening wrote nothing and nothing is done after it, nothing is written
pub rests_still : {K T E F : Type 0} (store : K) (result : Result T F) (old middle new : Moments) → Rests {T = K} {E = E} (Ok store) old middle → new ≡ middle → Rests result old new
rests_still store result old middle new rests same = record {
  goes = subst (Goes old.now old) (sym same) rests.goes;
  same = on_ok_any result (ap (λ (moments : Moments). moments.now) same ∙ rests.same);
}

-- and so where it answered a fault
pub rests_failed : {K T E F : Type 0} (why : E) (fault : F) (old new : Moments) → Rests {T = K} (Err why) old new → Rests {T = T} (Err fault) old new
rests_failed why fault old new rests = record { goes = rests.goes; same = tt }

-- a build whose store could not be opened starts nothing
pub not_opened : (records_of : Image → List Record) (answer : Request → Exit) (order : Order) (why : RunFault) (failed : Bool) (old new : Moments) (events : List Event) → events ≡ [] → IsGraph order.graph → AreSound new → Follows old new
    → ((more : List Record) → HasPhases records_of order.clean 0 more old.now (added_since old new)) → BuildsOver records_of answer order (Err why) failed old new events
unfolding EachAfter
not_opened records_of answer order why failed old new events none is sound follows phases =
    let s : Work = work_over records_of order old.now in
    let nothing : commits s [] ≡ [] = no_commits s in
    subst (BuildsOver records_of answer order (Err why) failed old new) (sym none) (record {
      graph_form = is;
      lawful = lawful_none s;
      answered = tt;
      whole = tt;
      statuses = tt;
      recorded = tt;
      emptied = tt;
      follows = follows;
      readable = (readable_since old new follows sound).1;
      acknowledged = 0;
      phases = phases (commits s []);
      waits = waits_none s 0;
      all = λ disk memory. ap length (sym nothing);
    })

-- a file with an artefact is marked as made
made_status : (keep_going : Bool) (exit : Option Exit) (artefact : Option (List ℕ)) → is_some artefact ≡ true → is_made (status_of keep_going exit artefact) ≡ true
made_status keep_going None (Some artefact) is = refl
made_status keep_going (Some exit) (Some artefact) is = refl
made_status keep_going exit None is = absurd (false≢true is)

status_there : (setting : Work) (events : List Event) (position : ℕ) → position < length setting.graph → slice_get (statuses_of setting events) position ≡ Some (status_at setting (progress_of setting events).ends position)
status_there setting events position inside =
    let status : ℕ → FileStatus = status_at setting (progress_of setting events).ends in
    let here : slice_get (below (length setting.graph)) position ≡ Some position =
    slice_get-get_or (below (length setting.graph)) position 0 (subst (λ (n : ℕ). position < n) (sym (length-below (length setting.graph))) inside) ∙ ap (λ (p : ℕ). Some p) (get_or-below (length setting.graph) position 0 inside) in
    slice_get-map status (below (length setting.graph)) position ∙ ap (option_map status) here

-- a store knows what whatever a stop can leave holds
pub record KnowsDisk (records_of : Image → List Record) (latest_of : FileName → Option Record) (disk : DiskState) : Type 0 where
  pub durable : IsDurable disk
  pub held : (name : FileName) → latest_of name ≡ latest name (records_of (reads_of disk))

durable_if_known : (records_of : Image → List Record) (graph : List Entry) (latest_of : FileName → Option Record) (disk : DiskState) → KnowsDisk records_of latest_of disk → (position : ℕ) → IsRecorded latest_of graph position → IsDurablyRecorded records_of disk graph position
durable_if_known records_of graph latest_of disk knows position recorded image is =
    subst (λ (i : Image). IsRecorded (λ name. latest name (records_of i)) graph position) (sym (knows.durable image is))
    (subst (λ (l : FileName → Option Record). IsRecorded l graph position) (fun_ext knows.held) recorded)

-- the latest records of a store that was opened are the ones that a build works from
base_latest : (records_of : Image → List Record) (clean : Bool) (disk : DiskState) (records : List Record) (name : FileName) → IsBase records_of clean disk records → latest name records ≡ latest_over records_of clean disk name
unfolding latest
base_latest records_of true disk records name none = ap (latest name) none
base_latest records_of false disk records name kept = same_latest name (records_of (reads_of disk)) records kept

on_ok_if : (A : Type 0) (result : Result (List FileStatus) RunFault) → OnTrue (is_ok result) A → OnOk result A
on_ok_if A (Ok statuses) a = a
on_ok_if A (Err why) a = tt

if_ok_if : (P : List FileStatus → Type 0) (result : Result (List FileStatus) RunFault) → OnTrue (is_ok result) (IfOk result P) → IfOk result P
if_ok_if P (Ok statuses) a = a
if_ok_if P (Err why) a = tt

not_no_memory : (result : Result (List FileStatus) RunFault) → (result ≡ Err fault.NoMemory → ⊥) → is_no_memory (fault_of result) ≡ false
not_no_memory (Ok statuses) other = refl
not_no_memory (Err fault.NoMemory) other = absurd (other refl)
not_no_memory (Err fault.StartFailed) other = refl
not_no_memory (Err fault.ChildLost) other = refl
not_no_memory (Err fault.DiskFailed) other = refl

recorded_in_end : (records_of : Image → List Record) (setting : Work) (now : FileName → Option Record) (result : Result (List FileStatus) RunFault) (events : List Event) (disk : DiskState) → IfOk result (λ statuses. statuses ≡ statuses_of setting events)
    → IfOk result (λ statuses. (position : ℕ) (status : FileStatus) → slice_get statuses position ≡ Some status → is_made status ≡ true → IsRecorded now setting.graph position) → OnOk result (KnowsDisk records_of now disk)
    → OnOk result ((position : ℕ) → position < length setting.graph → is_some (artefact_after setting events position) ≡ true → IsDurablyRecorded records_of disk setting.graph position)
recorded_in_end records_of setting now (Ok statuses) events disk has_status recorded knows = λ position inside is.
    let status : FileStatus = status_at setting (progress_of setting events).ends position in
    durable_if_known records_of setting.graph now disk knows position
    (recorded position status (ap (λ (all : List FileStatus). slice_get all position) has_status ∙ status_there setting events position inside) (made_status setting.keep_going (exit_at (progress_of setting events).ends position) (artefact_after setting events position) is))
recorded_in_end records_of setting now (Err why) events disk has_status recorded knows = tt

-- nothing was added
pub since_itself : (journal : List Event) → since journal journal ≡ []
since_itself journal = drop_all (length journal) journal (omega arith)

-- nor was a test's event
pub no_test_since : (journal : List Event) → test_part (since journal journal) ≡ []
no_test_since journal = ap test_part (since_itself journal)

-- what a build adds to a journal has no test's event
pub none_tested : {s : Work} (old new events : List Event) → new ≡ old ++ events → Lawful s events → test_part (since old new) ≡ []
none_tested {s} old new events journal lawful = ap test_part (ap (since old) journal ∙ since-added old events) ∙ (build_parts s events lawful).1

-- an emptied store holds exactly the records that were committed since, if all commits are acknowledged
emptied_in_end : (records_of : Image → List Record) (clean : Bool) (first last : DiskState) (base more : List Record) (result : Result (List FileStatus) RunFault) (broken : Bool) (acknowledged : ℕ) → IsBase records_of clean first base → OnOk result (broken ≡ false)
    → OnTrue (is_all_committed (fault_of result) broken) (acknowledged ≡ length more) → EachImage (λ image. HasFirst acknowledged (most_committed broken acknowledged) base more (records_of image)) last
    → OnOk result (clean ≡ true → EachImage (λ image. records_of image ≡ more) last)
emptied_in_end records_of clean first last base more (Err why) broken acknowledged from usable whole each = tt
emptied_in_end records_of clean first last base more (Ok statuses) broken acknowledged from usable whole each = λ is image here.
    let has : HasFirst acknowledged (most_committed broken acknowledged) base more (records_of image) = each image here in
    let none : base ≡ [] = subst (λ (c : Bool). IsBase records_of c first base) is from in
    let all : acknowledged ≡ length more = OnTrue_at (ap not usable) whole in
    let count : length more ≤ has.count = subst (λ (n : ℕ). n ≤ has.count) all has.at_least in
    has.are ∙ ap (λ (l : List Record). l ++ take has.count more) none ∙ take_all has.count more count

module _ (records_of : Image → List Record) (answer : Request → Exit) (order : Order) (is : IsGraph order.graph) (old mid new : Moments) (sound : AreSound new) (first : Follows old mid) (opening : IsOpening records_of order.clean old.now (added_since old mid))
    (base : IsBase records_of order.clean old.now (records_of (reads_of mid.now))) (before now : FileName → Option Record) (knows : KnowsDisk records_of before mid.now) (tells told : Type 0) (t : tells) (d : told) (result : Result (List FileStatus) RunFault)
    (old_journal journal : List Event) (broken failed : Bool) where
  latest_is : before ≡ latest_over records_of order.clean old.now
  latest_is = fun_ext (λ name. knows.held name ∙ base_latest records_of order.clean old.now (records_of (reads_of mid.now)) name base)

  abbrev by : (FileName → Option Record) → Work
  by latest_of = work_of latest_of order.graph order.slots order.keep_going

  abbrev Ran : (FileName → Option Record) → Type 0
  Ran latest_of =
      BuildRan tells told answer records_of (by latest_of) (record { latest_of = latest_of; journal = old_journal; moments = mid }) (record { latest_of = now; journal = journal; moments = new })
      (record { ended = is_ok result; fault = fault_of result; broken = broken })
      (λ events. IfOk result (λ statuses. statuses ≡ statuses_of (by latest_of) events))

  over : Ran (latest_over records_of order.clean old.now) → IfOk result (λ statuses. (position : ℕ) (status : FileStatus) → slice_get statuses position ≡ Some status → is_made status ≡ true → IsRecorded now order.graph position) → OnOk result (KnowsDisk records_of now new.now) →
      OnOk result (broken ≡ false) → (failed ≡ false → broken ≡ false) → BuildsOver records_of answer order result failed old new (since old_journal journal)
  over ran recorded knows_now works usable =
      let s : Work = work_over records_of order old.now in
      let second : Follows mid new = (ran.images d).images.any_moment.follows in
      let follows : Follows old new = follows_by old new (added_since old mid ++ added_since mid new) (joined_follows old mid new first second) in
      let events : since old_journal journal ≡ ran.events = ap (since old_journal) (ran.journal t) ∙ since-added old_journal ran.events in
      let has_status = if_ok_if _ result ran.says in
      subst (BuildsOver records_of answer order result failed old new) (sym events) (record {
        graph_form = is;
        lawful = ran.lawful t;
        answered = ran.answered t;
        whole = on_ok_if _ result (ran.whole t);
        statuses = has_status;
        recorded = recorded_in_end records_of s now result ran.events new.now has_status recorded knows_now;
        emptied = emptied_in_end records_of order.clean old.now new.now (records_of (reads_of mid.now)) (commits s ran.events) result broken ran.acknowledged base works ran.committed.whole (ran.images d).images.last;
        follows = follows;
        readable = (readable_since old new follows sound).1;
        acknowledged = ran.acknowledged;
        phases = committed broken (then_committed records_of order.clean ran.acknowledged broken (commits s ran.events) (records_of (reads_of mid.now)) old mid new first opening base (ran.images d).images);
        waits = ran.committed.waits;
        all = λ disk memory. OnTrue_at (both (not_no_memory result memory) (usable disk)) ran.committed.whole;
      }) where
        both : {a b : Bool} → a ≡ false → b ≡ false → (not a && not b) ≡ true
        both x y = rw (x, y) refl

  -- where it commits nothing, the disk is as its store was opened
  untouched_over : Ran (latest_over records_of order.clean old.now) → commits (work_over records_of order old.now) (since old_journal journal) ≡ [] → new ≡ mid
  untouched_over ran none =
      let s : Work = work_over records_of order old.now in
      (ran.images d).untouched (ap (commits s) (sym (ap (since old_journal) (ran.journal t) ∙ since-added old_journal ran.events)) ∙ none)

  pub opened_untouched : Ran before → commits (work_over records_of order old.now) (since old_journal journal) ≡ [] → new ≡ mid
  opened_untouched ran none = untouched_over (subst Ran latest_is ran) none

  -- where all files are made, the store lends what was built
  borrowed_over : (ran : Ran (latest_over records_of order.clean old.now)) → is_all_committed (fault_of result) broken ≡ true → (statuses : List FileStatus) → statuses ≡ statuses_of (work_over records_of order old.now) ran.events → list_all is_made statuses ≡ true
      → filter_map (borrowed_at now order.graph) (below (length order.graph)) ≡ built_by (work_over records_of order old.now) (since old_journal journal)
  borrowed_over ran all statuses has_status made =
      let s : Work = work_over records_of order old.now in
      borrowed_are s ran.events now (OnTrue_at all ran.recorded) (status_there s ran.events) (ap (list_all is_made) (sym has_status) ∙ made) ∙ ap (built_by s) (sym (ap (since old_journal) (ran.journal t) ∙ since-added old_journal ran.events))

  pub opened_borrowed : (ran : Ran before) → is_all_committed (fault_of result) broken ≡ true → (statuses : List FileStatus) → statuses ≡ statuses_of (by before) ran.events → list_all is_made statuses ≡ true
      → filter_map (borrowed_at now order.graph) (below (length order.graph)) ≡ built_by (work_over records_of order old.now) (since old_journal journal)
  opened_borrowed ran all statuses has_status made =
      let moved = subst {A = FileName → Option Record} (λ latest_of. (ran : Ran latest_of) × (statuses ≡ statuses_of (by latest_of) ran.events)) latest_is (ran, has_status) in
      borrowed_over moved.0 all statuses moved.1 made

  pub opened_over : Ran before → IfOk result (λ statuses. (position : ℕ) (status : FileStatus) → slice_get statuses position ≡ Some status → is_made status ≡ true → IsRecorded now order.graph position) → OnOk result (KnowsDisk records_of now new.now) →
      OnOk result (broken ≡ false) → (failed ≡ false → broken ≡ false) → BuildsOver records_of answer order result failed old new (since old_journal journal)
  opened_over ran recorded knows_now works usable = over (subst Ran latest_is ran) recorded knows_now works usable

-- a store that is usable after a build knows what whatever a stop can leave holds
pub knows_if : (A B : Type 0) (result : Result (List FileStatus) RunFault) (broken : Bool) → OnOk result (broken ≡ false) → OnFalse broken A → (A → B) → OnOk result B
knows_if A B (Ok statuses) broken usable in_step gives = gives (subst (λ (b : Bool). OnFalse b A) usable in_step)
knows_if A B (Err why) broken usable in_step gives = tt

-- a store is usable where no fault of the disk was counted
pub usable_if : (broken : Bool) (first middle now : ℕ) → middle ≡ first → (broken ≡ true → Rose middle now) → has_risen first now ≡ false → broken ≡ false
usable_if false first middle now same breaks none = refl
usable_if true first middle now same breaks none = let rose : min (middle + 1) (2 ^ 64 - 1) ≤ now = breaks refl in absurd (false≢true (sym none ∙ le-leb (min (first + 1) (2 ^ 64 - 1)) now (subst (λ (n : ℕ). min (n + 1) (2 ^ 64 - 1) ≤ now) same rose)))
