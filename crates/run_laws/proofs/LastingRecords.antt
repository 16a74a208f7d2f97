-- Within a run, a record that is acknowledged at a moment stays so.
use Rattle.std.proofs.Common.{◌≡◌, ◌⊎◌, ℕ, suc, ◌+◌, ◌-◌, ◌≤◌, Bool, true, false, cond, List, [], ◌∷◌, ◌++◌, length, take, Option, Some, None, refl, sym, ap, subst, ◌∙◌, append_assoc, inl, inr, arith}
use Rattle.std.specs.List.{AllByRecursion, list_any}
use Rattle.std.proofs.Math.Seq.{take-append-add}
use Rattle.std.proofs.lemmas.Bool.{cases_lt, both_ways, or_right, or_left}
use Rattle.std.proofs.lemmas.List.{length-append, length-take-le, take-append-le}
use Rattle.std.proofs.lemmas.List.Folds.{list_any-append}
use Rattle.std.proofs.lemmas.Option.{none-some}
use Rattle.base.specs.declared.file.FileName.{FileName}
use Rattle.outside.specs.Records.{Record}
use Rattle.outside.specs.Disks.{DiskState, Image, EachImage, StaysTrue, reads_of}
use Rattle.outside.specs.Records.{latest, is_of}
use Rattle.outside.specs.Commits.{HasFirst, most_committed, last_state, CommitsFirstIn}
use Rattle.outside.specs.Phases.{IsCommitting, IsSettled, IsOpening, IsBase, HasPhases, unopened, opened, committed}
use Rattle.outside.proofs.CommitLaws.{never_stays}
use Rattle.outside.proofs.MomentLaws.{all_weaker, keeps_inside, keeps-append}
use Rattle.run_spec.specs.ChildJournal.{Work, progress_of}
use Rattle.run_spec.specs.Commits.{commits}
use Rattle.run_spec.specs.Histories.{Order, World, ProgramRun, IsReadable, IsBuildRun, work_over, latest_over}
use Rattle.run_spec.proofs.LatestRecords.{latest_before_none, latest_last, none_of_take}
use Rattle.run_laws.proofs.EndsOnce.{ended_once}
use Rattle.run_laws.specs.Spares.{HasFile, HasFileAsked}
use Rattle.run_laws.proofs.CommittedNames.{HasOne, one_committed}
use Rattle.run_laws.proofs.SparedRuns.{same_latest, uncommitted}

-- the states from the last of the first ones on
pub from_last : (Q : DiskState → Type 0) (first : DiskState) (xs ys : List DiskState) → AllByRecursion Q (first ∷ (xs ++ ys)) → AllByRecursion Q (last_state first xs ∷ ys)
from_last Q first [] ys all = all
from_last Q first (x ∷ xs) ys all = from_last Q x xs ys all.1

-- the first states of all
first_all : (Q : DiskState → Type 0) (xs ys : List DiskState) → AllByRecursion Q (xs ++ ys) → AllByRecursion Q xs
first_all Q [] ys all = tt
first_all Q (x ∷ xs) ys all = (all.0, first_all Q xs ys all.1)

-- what has one record of a name has the name
one_is_there : (name : FileName) (more : List Record) → HasOne name more → list_any (is_of name) more ≡ true
one_is_there name more one =
    ap (list_any (is_of name)) one.parts
    ∙ list_any-append (is_of name) one.before (one.only ∷ one.after)
    ∙ or_right (list_any (is_of name) one.before) (list_any (is_of name) (one.only ∷ one.after)) (or_left (is_of name one.only) (list_any (is_of name) one.after) one.of)

module _ (records_of : Image → List Record) (name : FileName) (kept : Record) where
  abbrev HasLatest : Image → Type 0
  HasLatest image = latest name (records_of image) ≡ Some kept

  -- where all images have the same latest record of a name
  stays_same : (last : Option Record) (disk : DiskState) (later : List DiskState) → AllByRecursion (EachImage (λ image. latest name (records_of image) ≡ last)) (disk ∷ later) → AllByRecursion IsReadable (disk ∷ later) →
      StaysTrue HasLatest disk later
  stays_same last disk [] all readable = tt
  stays_same last disk (next ∷ later) all readable = (
    λ each image is. all.1.0 image is ∙ sym (all.0 (reads_of disk) readable.0) ∙ each (reads_of disk) readable.0,
    stays_same last next later all.1 readable.1,
  )

  -- commits of which one is of the name, over records of which none is that one
  module _ (base more : List Record) (one : HasOne name more) (other : latest name base ≡ Some kept → ⊥) (high : ℕ) where
    abbrev long : ℕ
    long = length base + (length one.before + 1)

    length_is : (now : List Record) (has : HasFirst 0 high base more now) → length now ≡ length base + has.count
    length_is now has = omega (arith, ap length has.are, length-append base (take has.count more), length-take-le has.count more has.within)

    -- so few that the record isn't among them
    few_latest : (count : ℕ) → count ≤ length one.before → latest name (base ++ take count more) ≡ latest name base
    few_latest count few =
        let same : take count more ≡ take count one.before = ap (take count) one.parts ∙ take-append-le count one.before (one.only ∷ one.after) few in
        ap (λ (l : List Record). latest name (base ++ l)) same ∙ latest_before_none name base (take count one.before) (none_of_take name count one.before one.none_before)

    many_latest : (rest : ℕ) → latest name (base ++ take (length one.before + suc rest) more) ≡ Some one.only
    many_latest rest =
        let same : take (length one.before + suc rest) more ≡ one.before ++ one.only ∷ take rest one.after = ap (take (length one.before + suc rest)) one.parts ∙ take-append-add one.before (one.only ∷ one.after) (suc rest) in
        ap (λ (l : List Record). latest name (base ++ l)) same
        ∙ ap (latest name) (sym (append_assoc base one.before (one.only ∷ take rest one.after)))
        ∙ latest_last name (base ++ one.before) one.only (take rest one.after) one.of (none_of_take name rest one.after one.none_after)

    -- if the record is the latest of its name in an image, the image has at least this number of records
    pub long_has : (image : Image) → HasFirst 0 high base more (records_of image) → HasLatest image → long ≤ length (records_of image)
    long_has image has is =
        elim (cases_lt (length one.before) has.count) [
          | inl many ↦ omega (arith, length_is (records_of image) has)
          | inr few ↦ absurd (other (sym (few_latest has.count few) ∙ sym (ap (latest name) has.are) ∙ is))
        ]

    pub long_latest : (image : Image) → HasFirst 0 high base more (records_of image) → long ≤ length (records_of image) → latest name (records_of image) ≡ Some one.only
    long_latest image has enough =
        let count : ℕ = has.count in
        let reached : length one.before + suc (count - length one.before - 1) ≡ count = omega (arith, length_is (records_of image) has) in
        ap (latest name) (has.are ∙ ap (λ (n : ℕ). base ++ take n more) (sym reached)) ∙ many_latest (count - length one.before - 1)

    stays_one : (disk : DiskState) (later : List DiskState) → AllByRecursion (EachImage (λ image. HasFirst 0 high base more (records_of image))) (disk ∷ later) → AllByRecursion IsReadable (disk ∷ later) →
        StaysTrue (λ image. long ≤ length (records_of image)) disk later → StaysTrue HasLatest disk later
    stays_one disk [] all readable stays = tt
    stays_one disk (next ∷ later) all readable stays = (
      λ each image is.
          let here : Image = reads_of disk in
          let same : Some one.only ≡ Some kept = sym (long_latest here (all.0 here readable.0) (long_has here (all.0 here readable.0) (each here readable.0))) ∙ each here readable.0 in
          long_latest image (all.1.0 image is) (stays.0 (λ i there. long_has i (all.0 i there) (each i there)) image is) ∙ same,
      stays_one next later all.1 readable.1 stays.1,
    )

nothing_latest : (name : FileName) (records : List Record) → records ≡ [] → latest name records ≡ None
unfolding latest
nothing_latest name records none = ap (latest name) none

-- the latest record of each state once a disk is settled: what reads gave before, or none
settled_latest : (records_of : Image → List Record) (name : FileName) (first : DiskState) (image : Image) → IsSettled records_of false first image → latest name (records_of image) ≡ latest name (records_of (reads_of first))
settled_latest records_of name first image (inl same) = same_latest name (records_of (reads_of first)) (records_of image) same
settled_latest records_of name first image (inr none) = let nothing : ⊥ = cc in absurd nothing

-- at most one record of the name of a file is committed
pub one_of_name : (world : World) (name : FileName) (kept : Record) (order : Order) (run : ProgramRun) (first : DiskState) (build : IsBuildRun world order run first) → HasFile order name →
    (list_any (is_of name) (commits (work_over world.records_of order first) run.events) ≡ false) ⊎ HasOne name (commits (work_over world.records_of order first) run.events)
one_of_name world name kept order run first build file =
    let setting : Work = work_over world.records_of order first in
    subst (λ (n : FileName). (list_any (is_of n) (commits setting run.events) ≡ false) ⊎ HasOne n (commits setting run.events)) file.is_name
    (one_committed order.graph build.graph file.position file.entry file.is_entry (progress_of setting run.events).ends (ended_once world.compiler setting file.position run.events build.lawful build.answered))

module _ (world : World) (name : FileName) (kept : Record) (order : Order) (run : ProgramRun) (first : DiskState) (build : IsBuildRun world order run first) (file : HasFileAsked world order first name kept.asked) where
  abbrev records_of : Image → List Record
  records_of = world.records_of

  abbrev more : List Record
  more = commits (work_over world.records_of order first) run.events

  abbrev Latest : Image → Type 0
  Latest image = latest name (records_of image) ≡ Some kept

  -- if the record is one of the commits, it isn't the latest among the records to which commits are added
  not_base : (clean : Bool) → order.clean ≡ clean → (base : List Record) → IsBase records_of clean first base → HasOne name more → latest name base ≡ Some kept → ⊥
  not_base true e base from one is = none-some kept (sym (nothing_latest name base from) ∙ is)
  not_base false e base from one is =
      let knows : latest name (records_of (reads_of first)) ≡ Some kept = sym (same_latest name (records_of (reads_of first)) base from) ∙ is in
      let known : latest_over world.records_of order.clean first name ≡ Some kept = ap (λ (clean : Bool). cond clean None (latest name (records_of (reads_of first)))) e ∙ knows in
      both_ways (list_any (is_of name) more) (uncommitted world name kept order run first build e known file) (one_is_there name more one)

  stays_commits : (acknowledged : ℕ) (broken : Bool) (base : List Record) → IsBase records_of order.clean first base → (disk : DiskState) (later : List DiskState) → CommitsFirstIn acknowledged broken base more records_of disk later →
      AllByRecursion IsReadable (disk ∷ later) → StaysTrue Latest disk later
  stays_commits acknowledged broken base from disk later is all =
      elim (one_of_name world name kept order run first build file.file) [
        | inl none ↦
            stays_same records_of name kept (latest name base) disk later
            (all_weaker (λ image. HasFirst 0 (most_committed broken acknowledged) base more (records_of image)) (λ image. latest name (records_of image) ≡ latest name base) (disk ∷ later)
            (λ image has. ap (latest name) has.are ∙ latest_before_none name base (take has.count more) (none_of_take name has.count more none)) is.any_moment) all
        | inr one ↦
            stays_one records_of name kept base more one (not_base order.clean refl base from one) (most_committed broken acknowledged) disk later is.any_moment all
            (is.loses (length base + (length one.before + 1)))
      ]

  -- from the first commit on, also where all is built anew
  pub commits_last : (acknowledged : ℕ) (broken : Bool) (is : IsCommitting records_of order.clean acknowledged broken more first run.later) → IsReadable first → StaysTrue Latest (last_state first is.opening) is.committing
  commits_last acknowledged broken is readable =
      let all : AllByRecursion IsReadable (first ∷ (is.opening ++ is.committing)) = subst (λ (states : List DiskState). AllByRecursion IsReadable (first ∷ states)) is.parts (readable, build.readable) in
      stays_commits acknowledged broken is.base is.from (last_state first is.opening) is.committing is.commits (from_last IsReadable first is.opening is.committing all)

module _ (world : World) (name : FileName) (kept : Record) (order : Order) (run : ProgramRun) (first : DiskState) (readable : IsReadable first) (build : IsBuildRun world order run first) (file : HasFileAsked world order first name kept.asked)
    (counts : (order.clean ≡ false) ⊎ (latest name (world.records_of (reads_of first)) ≡ Some kept → ⊥)) where
  abbrev committed_by : List Record
  committed_by = commits (work_over world.records_of order first) run.events

  abbrev IsLatest : Image → Type 0
  IsLatest image = latest name (world.records_of image) ≡ Some kept

  all_readable : AllByRecursion IsReadable (first ∷ run.later)
  all_readable = (readable, build.readable)

  settled_never : (latest name (world.records_of (reads_of first)) ≡ Some kept → ⊥) → (clean : Bool) (image : Image) → IsSettled world.records_of clean first image → IsLatest image → ⊥
  settled_never other clean image (inl same) is = other (sym (same_latest name (world.records_of (reads_of first)) (world.records_of image) same) ∙ is)
  settled_never other clean image (inr none) is = none-some kept (sym (nothing_latest name (world.records_of image) none.1) ∙ is)

  never_in : (other : latest name (world.records_of (reads_of first)) ≡ Some kept → ⊥) (states : List DiskState) → AllByRecursion (EachImage (IsSettled world.records_of order.clean first)) states → AllByRecursion IsReadable states →
      AllByRecursion (λ state. EachImage IsLatest state → ⊥) states
  never_in other [] settles all = tt
  never_in other (state ∷ states) settles all = (
    λ each. settled_never other order.clean (reads_of state) (settles.0 (reads_of state) all.0) (each (reads_of state) all.0),
    never_in other states settles.1 all.1,
  )

  same_in : (states : List DiskState) → order.clean ≡ false → AllByRecursion (EachImage (IsSettled world.records_of order.clean first)) states → AllByRecursion (EachImage (λ image. latest name (world.records_of image) ≡ latest name (world.records_of (reads_of first)))) states
  same_in [] over settles = tt
  same_in (state ∷ states) over settles = (
    λ image is. settled_latest world.records_of name first image (subst (λ (clean : Bool). IsSettled world.records_of clean first image) over (settles.0 image is)),
    same_in states over settles.1,
  )

  stays_settled : (disk : DiskState) (later : List DiskState) → AllByRecursion (EachImage (IsSettled world.records_of order.clean first)) (disk ∷ later) → AllByRecursion IsReadable (disk ∷ later) → StaysTrue IsLatest disk later
  stays_settled disk later settles all = by_cases counts where
    by_cases : (order.clean ≡ false) ⊎ (latest name (world.records_of (reads_of first)) ≡ Some kept → ⊥) → StaysTrue IsLatest disk later
    by_cases (inl over) = stays_same world.records_of name kept (latest name (world.records_of (reads_of first))) disk later (same_in (disk ∷ later) over settles) all
    by_cases (inr other) = never_stays IsLatest disk later (never_in other (disk ∷ later) settles all)

  stays_opening : (later : List DiskState) → AllByRecursion IsReadable (first ∷ later) → IsOpening world.records_of order.clean first later → StaysTrue IsLatest first later
  stays_opening later all opens =
      subst (StaysTrue IsLatest first) (sym opens.parts)
      (keeps-append IsLatest first opens.syncing opens.settling (keeps_inside IsLatest first opens.syncing opens.fewer)
      (stays_settled (last_state first opens.syncing) opens.settling opens.settles
      (from_last IsReadable first opens.syncing opens.settling (subst (λ (states : List DiskState). AllByRecursion IsReadable (first ∷ states)) opens.parts all))))

  stays_run : (acknowledged : ℕ) (later : List DiskState) → AllByRecursion IsReadable (first ∷ later) → HasPhases world.records_of order.clean acknowledged committed_by first later → StaysTrue IsLatest first later
  stays_run acknowledged later all (unopened none fewer) = keeps_inside IsLatest first later fewer
  stays_run acknowledged later all (opened none opens) = stays_opening later all opens
  stays_run acknowledged later all (committed broken is) =
      let here = subst (λ (states : List DiskState). AllByRecursion IsReadable (first ∷ states)) is.parts all in
      subst (StaysTrue IsLatest first) (sym is.parts)
      (keeps-append IsLatest first is.opening is.committing (stays_opening is.opening (first_all IsReadable (first ∷ is.opening) is.committing here) is.opens)
      (stays_commits world name kept order run first build file acknowledged broken is.base is.from (last_state first is.opening) is.committing is.commits (from_last IsReadable first is.opening is.committing here)))

  -- once each image of a moment has it as the latest of its name, each image since has
  pub run_stays : StaysTrue IsLatest first run.later
  run_stays = stays_run build.acknowledged run.later all_readable build.phases
