-- From a moment of a run on: its acknowledged records stay so, also on the disk that a stop leaves; and which commits are
-- acknowledged at its end.
use Rattle.std.proofs.Common.{Bool, ◌≤◌, ◌≡◌, ◌⊎◌, ℕ, suc, ◌+◌, ◌-◌, ◌<◌, true, false, List, [], ◌∷◌, ◌++◌, length, take, Option, Some, refl, sym, ap, subst, ◌∙◌, append_assoc, inl, inr, arith}
use Rattle.std.specs.List.{AllByRecursion, list_any}
use Rattle.std.proofs.Math.Seq.{take-append-add}
use Rattle.std.proofs.lemmas.Bool.{both_ways, or_right, or_left, or_parts}
use Rattle.std.proofs.lemmas.List.{length-append}
use Rattle.std.proofs.lemmas.List.Folds.{list_any-append}
use Rattle.base.specs.declared.file.FileName.{FileName}
use Rattle.base.specs.declared.graph.Entry.{Entry}
use Rattle.base.specs.declared.child.Request.{Request}
use Rattle.base.specs.declared.child.Event.{Event}
use Rattle.base.specs.declared.child.Event.TheVariants.{Started}
use Rattle.outside.specs.Records.{Record}
use Rattle.outside.specs.Disks.{DiskState, Image, EachImage, StaysTrue, reads_of}
use Rattle.outside.specs.Records.{latest, is_of}
use Rattle.outside.specs.Commits.{HasFirst, most_committed, last_state}
use Rattle.outside.specs.Phases.{IsCommitting, HasPhases, unopened, opened, committed}
use Rattle.run_spec.specs.ChildJournal.{Work}
use Rattle.run_spec.specs.Commits.{commits, ComesAfterCommits, Waits}
use Rattle.run_spec.specs.Histories.{Order, World, ProgramRun, IsReadable, IsMoment, IsBuildRun, RunStep, work_over}
use Rattle.run_spec.proofs.Prefixes.{each_at, commits_prefix}
use Rattle.run_spec.proofs.LatestRecords.{latest_last, none_of_take}
use Rattle.base.specs.Names.{is_same_name}
use Rattle.run_spec.proofs.SameAsked.{same_names}
use Rattle.run_laws.specs.Spares.{IsAcknowledged, HasFile, HasFileAsked}
use Rattle.run_laws.proofs.LastingRecords.{one_of_name, commits_last, run_stays}

stays_rest : (P : Image → Type 0) (first : DiskState) (rest : List DiskState) (moment : DiskState) (after : List DiskState) → StaysTrue P first (rest ++ moment ∷ after) → StaysTrue P moment after
stays_rest P first [] moment after stays = stays.1
stays_rest P first (x ∷ rest) moment after stays = stays_rest P x rest moment after stays.1

-- a property that stays true from the first state on stays true from each later state on
stays_from : (P : Image → Type 0) (first : DiskState) (later before : List DiskState) (moment : DiskState) (after : List DiskState) → first ∷ later ≡ before ++ moment ∷ after → StaysTrue P first later → StaysTrue P moment after
stays_from P first later [] moment after e stays =
    let same : first ≡ moment = cc in
    let rest : later ≡ after = cc in
    subst (λ (state : DiskState). StaysTrue P state after) same (subst (StaysTrue P first) rest stays)
stays_from P first later (b ∷ rest) moment after e stays =
    let tail : later ≡ rest ++ moment ∷ after = cc in
    stays_rest P first rest moment after (subst (StaysTrue P first) tail stays)

stays_all : (P : Image → Type 0) (moment : DiskState) (after : List DiskState) → StaysTrue P moment after → EachImage P moment → AllByRecursion (EachImage P) (moment ∷ after)
stays_all P moment [] stays each = (each, tt)
stays_all P moment (next ∷ after) stays each = (each, stays_all P next after stays.1 (stays.0 each))

last_state-append : (first : DiskState) (xs ys : List DiskState) → last_state first (xs ++ ys) ≡ last_state (last_state first xs) ys
last_state-append first [] ys = refl
last_state-append first (x ∷ xs) ys = last_state-append x xs ys

module _ (world : World) (name : FileName) (kept : Record) (order : Order) (run : ProgramRun) (first : DiskState) (readable : IsReadable first) (file : HasFileAsked world order first name kept.asked)
    (counts : (order.clean ≡ false) ⊎ (latest name (world.records_of (reads_of first)) ≡ Some kept → ⊥)) where
  abbrev Latest : Image → Type 0
  Latest image = latest name (world.records_of image) ≡ Some kept

  step_stays : RunStep world (Some order) run first → StaysTrue Latest first run.later
  step_stays (inl idle) = subst (StaysTrue Latest first) (sym idle.later) tt
  step_stays (inr build) = run_stays world name kept order run first readable build file counts

  -- a record that is acknowledged at a moment is so since
  pub lasts : RunStep world (Some order) run first → (moment : DiskState) (is : IsMoment moment first run.later) → IsAcknowledged world name kept moment → AllByRecursion (IsAcknowledged world name kept) (moment ∷ is.after)
  lasts step moment is here = stays_all Latest moment is.after (stays_from Latest first run.later is.before moment is.after is.parts (step_stays step)) here

-- also where all is built anew, from the first commit on
pub lasts_anew : (world : World) (name : FileName) (kept : Record) (order : Order) (run : ProgramRun) (first : DiskState) (build : IsBuildRun world order run first) (file : HasFileAsked world order first name kept.asked)
    (acknowledged : ℕ) (broken : Bool) (committing : IsCommitting world.records_of order.clean acknowledged broken (commits (work_over world.records_of order first) run.events) first run.later) → IsReadable first →
    (moment : DiskState) (is : IsMoment moment (last_state first committing.opening) committing.committing) → IsAcknowledged world name kept moment → AllByRecursion (IsAcknowledged world name kept) (moment ∷ is.after)
lasts_anew world name kept order run first build file acknowledged broken committing readable moment is here =
    stays_all (λ image. latest name (world.records_of image) ≡ Some kept) moment is.after
    (stays_from (λ image. latest name (world.records_of image) ≡ Some kept) (last_state first committing.opening) committing.committing is.before moment is.after is.parts
    (commits_last world name kept order run first build file acknowledged broken committing readable)) here

-- where one record of a name is alone, none comes after a record of the name
none_after : (name : FileName) (b : List Record) (o : Record) (a before : List Record) (only : Record) (after : List Record) → b ++ o ∷ a ≡ before ++ only ∷ after → list_any (is_of name) b ≡ false → list_any (is_of name) a ≡ false →
    is_of name only ≡ true → list_any (is_of name) after ≡ false
none_after name [] o a [] only after e none_b none_a of = let same : a ≡ after = cc in ap (list_any (is_of name)) (sym same) ∙ none_a
none_after name [] o a (x ∷ before) only after e none_b none_a of =
    let rest : a ≡ before ++ only ∷ after = cc in
    absurd (both_ways (list_any (is_of name) a) none_a
    (ap (list_any (is_of name)) rest ∙ list_any-append (is_of name) before (only ∷ after) ∙ or_right (list_any (is_of name) before) (list_any (is_of name) (only ∷ after)) (or_left (is_of name only) (list_any (is_of name) after) of)))
none_after name (y ∷ b) o a [] only after e none_b none_a of =
    let same : y ≡ only = cc in
    absurd (both_ways (is_of name y) (or_parts (is_of name y) (list_any (is_of name) b) none_b).0 (ap (is_of name) same ∙ of))
none_after name (y ∷ b) o a (x ∷ before) only after e none_b none_a of =
    let rest : b ++ o ∷ a ≡ before ++ only ∷ after = cc in
    none_after name b o a before only after rest (or_parts (is_of name y) (list_any (is_of name) b) none_b).1 none_a of

module _ (world : World) (order : Order) (run : ProgramRun) (first : DiskState) (build : IsBuildRun world order run first) (name : FileName) (only : Record) (file : HasFile order name) (named : only.asked.name ≡ name) where
  abbrev more : List Record
  more = commits (work_over world.records_of order first) run.events

  only_of : is_of name only ≡ true
  only_of = ap (λ (n : FileName). is_same_name n name) named ∙ (same_names name name).1 refl

  module _ (before after : List Record) (parts : more ≡ before ++ only ∷ after) where
    after_is_none : list_any (is_of name) after ≡ false
    after_is_none =
        elim (one_of_name world name only order run first build file) [
          | inl none ↦ absurd (both_ways (list_any (is_of name) more) none
              (ap (list_any (is_of name)) parts ∙ list_any-append (is_of name) before (only ∷ after)
              ∙ or_right (list_any (is_of name) before) (list_any (is_of name) (only ∷ after)) (or_left (is_of name only) (list_any (is_of name) after) only_of)))
          | inr one ↦ none_after name one.before one.only one.after before only after (sym one.parts ∙ parts) one.none_before one.none_after only_of
        ]

    many : (base : List Record) (rest : ℕ) → latest name (base ++ take (length before + suc rest) more) ≡ Some only
    many base rest =
        let same : take (length before + suc rest) more ≡ before ++ only ∷ take rest after = ap (take (length before + suc rest)) parts ∙ take-append-add before (only ∷ after) (suc rest) in
        ap (λ (l : List Record). latest name (base ++ l)) same
        ∙ ap (latest name) (sym (append_assoc base before (only ∷ take rest after)))
        ∙ latest_last name (base ++ before) only (take rest after) only_of (none_of_take name rest after after_is_none)

    enough : (acknowledged high : ℕ) (base now : List Record) → length before < acknowledged → HasFirst acknowledged high base more now → latest name now ≡ Some only
    enough acknowledged high base now lt has =
        let count : ℕ = has.count in
        let reached : length before + suc (count - length before - 1) ≡ count = omega (arith, has.at_least) in
        ap (latest name) (has.are ∙ ap (λ (n : ℕ). base ++ take n more) (sym reached)) ∙ many base (count - length before - 1)

    by_phases : (acknowledged : ℕ) (later : List DiskState) → length before < acknowledged → HasPhases world.records_of order.clean acknowledged more first later → IsAcknowledged world name only (last_state first later)
    by_phases acknowledged later lt (unopened none fewer) = absurd (omega arith)
    by_phases acknowledged later lt (opened none opens) = absurd (omega arith)
    by_phases acknowledged later lt (committed broken is) =
        subst (λ (state : DiskState). IsAcknowledged world name only state) (sym (ap (last_state first) is.parts ∙ last_state-append first is.opening is.committing))
        (λ image there. enough acknowledged (most_committed broken acknowledged) is.base (world.records_of image) lt (is.commits.last image there))

    -- a commit whose number is acknowledged is so at the end of the run
    pub end_acknowledged : length before < build.acknowledged → IsAcknowledged world name only (last_state first run.later)
    end_acknowledged lt = by_phases build.acknowledged run.later lt build.phases

-- so is what was committed before the last start of the run
pub start_acknowledged : (world : World) (order : Order) (run : ProgramRun) (first : DiskState) (build : IsBuildRun world order run first) (name : FileName) (only : Record) → HasFile order name → only.asked.name ≡ name →
    (before rest : List Event) (ticket : ℕ) (request : Request) → run.events ≡ before ++ Started ticket request ∷ rest →
    (earlier later : List Record) → commits (work_over world.records_of order first) before ≡ earlier ++ only ∷ later → IsAcknowledged world name only (last_state first run.later)
start_acknowledged world order run first build name only file named before rest ticket request e earlier later parts =
    let setting : Work = work_over world.records_of order first in
    let waits : Waits setting build.acknowledged (before ++ Started ticket request ∷ rest) = subst (Waits setting build.acknowledged) e build.waits in
    let reached : length (commits setting before) ≤ build.acknowledged = each_at (ComesAfterCommits setting build.acknowledged) [] before (Started ticket request) rest waits in
    let more = commits_prefix setting before (Started ticket request ∷ rest) in
    let all : commits setting run.events ≡ earlier ++ only ∷ (later ++ more.0) =
    ap (commits setting) e ∙ more.1 ∙ ap (λ (l : List Record). l ++ more.0) parts ∙ append_assoc earlier (only ∷ later) more.0 in
    end_acknowledged world order run first build name only file named earlier (later ++ more.0) all (omega (arith, reached, ap length parts, length-append earlier (only ∷ later)))
