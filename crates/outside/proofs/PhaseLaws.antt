-- From the clauses of a store to the phases of a run, and what the phases say of each image.
use Rattle.std.proofs.Common.{◌≡◌, ◌⊎◌, ℕ, Bool, true, false, List, [], ◌∷◌, ◌++◌, take, drop, refl, sym, ap, subst, inl, inr}
use Rattle.std.specs.List.{AllByRecursion}
use Rattle.std.proofs.lemmas.List.{append-nil, take-append-drop}
use Rattle.outside.specs.Records.{Record}
use Rattle.outside.specs.Disks.{DiskState, Image, IsImage, IsDurable, reads_of, Moments, all_of, EachImage, Shrinks, Goes, added_since, Follows, AtAnyMoment, IsEither, OpensWith}
use Rattle.outside.specs.Records.{IsAllOrLatest}
use Rattle.outside.specs.Commits.{HasFirst, most_committed, CommitsFirst, CommitsFirstIn}
use Rattle.outside.specs.Phases.{IsSettled, IsOpening, IsBase, IsCommitting, HasPhases, unopened, opened, committed, HasBaseAndPrefix}
use Rattle.outside.proofs.MomentLaws.{added_is, last_is, joined_follows, goes_follows, all-append, all_weaker, each_inside}
use Rattle.outside.proofs.CommitLaws.{commits_in}

-- what two runs added, one after the other
pub added_then : (old middle new : Moments) → Follows old middle → Follows middle new → added_since old new ≡ added_since old middle ++ added_since middle new
added_then old middle new first second = added_is old new (added_since old middle ++ added_since middle new) (joined_follows old middle new first second)

pub nothing_added : (moments : Moments) → added_since moments moments ≡ []
nothing_added moments = added_is moments moments [] (sym (append-nil (all_of moments)))

module _ (records_of : Image → List Record) where
  -- before any call
  pub no_phase : (clean : Bool) (more : List Record) (moments : Moments) → HasPhases records_of clean 0 more moments.now (added_since moments moments)
  no_phase clean more moments = unopened refl (subst (Shrinks moments.now) (sym (nothing_added moments)) tt)

  -- where an open store's disk is settled, each image has the records that reads give
  pub base_is : (disk : DiskState) → IsDurable disk → EachImage (λ image. records_of image ≡ records_of (reads_of disk)) disk
  base_is disk durable = λ image is. ap records_of (durable image is)

  abbrev HasRead : DiskState → Image → Type 0
  HasRead first image = IsAllOrLatest (records_of (reads_of first)) (records_of image)

  abbrev HasReadOrNone : DiskState → Image → Type 0
  HasReadOrNone first image = IsEither (records_of image) (records_of (reads_of first)) []

  read_or_none : (first : DiskState) (image : Image) → HasReadOrNone first image → IsSettled records_of true first image
  read_or_none first image (inl same) = inl (inl same)
  read_or_none first image (inr none) = inr (refl, none)

  -- what each image has once both sides are synced, if that settles it
  module _ (clean : Bool) (old new : Moments) (P : Image → Type 0) (settles : (image : Image) → P image → IsSettled records_of clean old.now image) where
    opening_is : (middle : Moments) → Goes old.now old middle → AtAnyMoment middle new P → IsOpening records_of clean old.now (added_since old new)
    opening_is middle goes moments =
        let follows : Follows old middle = goes_follows old.now old middle goes in
        record {
          syncing = added_since old middle;
          settling = added_since middle new;
          parts = added_then old middle new follows moments.follows;
          fewer = subst (Shrinks old.now) (sym (added_is old middle goes.inside goes.added)) goes.shrinks;
          settles = subst (λ (state : DiskState). AllByRecursion (EachImage (IsSettled records_of clean old.now)) (state ∷ added_since middle new)) (sym (last_is old middle follows))
              (all_weaker P (IsSettled records_of clean old.now) (middle.now ∷ added_since middle new) settles moments.each);
        }

    -- a call that may have failed
    may_fail : (more : List Record) → OpensWith old new P → HasPhases records_of clean 0 more old.now (added_since old new)
    may_fail more (inl goes) = unopened refl (subst (Shrinks old.now) (sym (added_is old new goes.inside goes.added)) goes.shrinks)
    may_fail more (inr opens) = opened refl (opening_is opens.0 opens.1 opens.2)

    -- one that answered that the store is open
    is_open : OpensWith old new P → P (reads_of new.now) → IsDurable new.now → IsOpening records_of clean old.now (added_since old new)
    is_open (inr opens) last durable = opening_is opens.0 opens.1 opens.2
    is_open (inl goes) last durable =
        let each : EachImage (IsSettled records_of clean old.now) new.now = λ image is. settles image (subst P (sym (durable image is)) last) in
        record {
          syncing = added_since old new;
          settling = [];
          parts = sym (append-nil (added_since old new));
          fewer = subst (Shrinks old.now) (sym (added_is old new goes.inside goes.added)) goes.shrinks;
          settles = (subst (EachImage (IsSettled records_of clean old.now)) (sym (last_is old new (goes_follows old.now old new goes))) each, tt);
        }

  -- an opening, whatever it answered, and one after which the store is open
  pub open_failed : (clean : Bool) (more : List Record) (old new : Moments) → OpensWith old new (HasRead old.now) → HasPhases records_of clean 0 more old.now (added_since old new)
  open_failed clean more old new opens = may_fail clean old new (HasRead old.now) (λ image kept. inl kept) more opens

  pub open_done : (clean : Bool) (old new : Moments) → OpensWith old new (HasRead old.now) → HasRead old.now (reads_of new.now) → IsDurable new.now → IsOpening records_of clean old.now (added_since old new)
  open_done clean old new opens kept durable = is_open clean old new (HasRead old.now) (λ image kept. inl kept) opens kept durable

  -- the same of one that empties the disk
  pub empty_failed : (more : List Record) (old new : Moments) → OpensWith old new (HasReadOrNone old.now) → HasPhases records_of true 0 more old.now (added_since old new)
  empty_failed more old new opens = may_fail true old new (HasReadOrNone old.now) (read_or_none old.now) more opens

  pub empty_done : (old new : Moments) → OpensWith old new (HasReadOrNone old.now) → records_of (reads_of new.now) ≡ [] → IsDurable new.now → IsOpening records_of true old.now (added_since old new)
  empty_done old new opens none durable = is_open true old new (HasReadOrNone old.now) (read_or_none old.now) opens (inr none) durable

  -- commits after it
  pub then_committed : (clean : Bool) (acknowledged : ℕ) (broken : Bool) (more base : List Record) (old middle new : Moments) → Follows old middle → IsOpening records_of clean old.now (added_since old middle)
      → IsBase records_of clean old.now base → CommitsFirst acknowledged broken base more records_of middle new → IsCommitting records_of clean acknowledged broken more old.now (added_since old new)
  then_committed clean acknowledged broken more base old middle new follows opens from commits = record {
    opening = added_since old middle;
    committing = added_since middle new;
    parts = added_then old middle new follows commits.any_moment.follows;
    opens = opens;
    base = base;
    from = from;
    commits = subst (λ (state : DiskState). CommitsFirstIn acknowledged broken base more records_of state (added_since middle new)) (sym (last_is old middle follows))
        (commits_in acknowledged broken base records_of middle new more commits);
  }

  module _ (clean : Bool) (more : List Record) (first : DiskState) (readable : IsImage first (reads_of first)) where
    abbrev Gives : Image → Type 0
    Gives image = HasBaseAndPrefix records_of clean more first image

    gives_first : EachImage Gives first
    gives_first = λ image is. record { base = records_of image; from = inl (image, is, inl refl); prefix = []; left = more; all = refl; are = sym (append-nil (records_of image)) }

    gives_settled : (image : Image) → IsSettled records_of clean first image → Gives image
    gives_settled image (inl kept) = record { base = records_of image; from = inl (reads_of first, readable, kept); prefix = []; left = more; all = refl; are = sym (append-nil (records_of image)) }
    gives_settled image (inr none) = record { base = []; from = inr (none.0, refl); prefix = []; left = more; all = refl; are = none.1 }

    gives_opening : (later : List DiskState) → IsOpening records_of clean first later → AllByRecursion (EachImage Gives) later
    gives_opening later opens =
        subst (AllByRecursion (EachImage Gives)) (sym opens.parts)
        (all-append (EachImage Gives) opens.syncing opens.settling (each_inside Gives first opens.syncing opens.fewer gives_first)
        (all_weaker (IsSettled records_of clean first) Gives opens.settling gives_settled opens.settles.1))

    base_from : (test : Bool) (base : List Record) → IsBase records_of test first base → ((before : Image) × IsImage first before × IsAllOrLatest (records_of before) base) ⊎ ((test ≡ true) × (base ≡ []))
    base_from true base from = inr (refl, from)
    base_from false base from = inl (reads_of first, readable, from)

    gives_commits : (acknowledged : ℕ) (broken : Bool) (later : List DiskState) → IsCommitting records_of clean acknowledged broken more first later → AllByRecursion (EachImage Gives) later
    gives_commits acknowledged broken later is =
        subst (AllByRecursion (EachImage Gives)) (sym is.parts)
        (all-append (EachImage Gives) is.opening is.committing (gives_opening is.opening is.opens)
        (all_weaker (λ image. HasFirst 0 (most_committed broken acknowledged) is.base more (records_of image)) Gives is.committing
        (λ image has. record {
          base = is.base;
          from = base_from clean is.base is.from;
          prefix = take has.count more;
          left = drop has.count more;
          all = sym (take-append-drop has.count more);
          are = has.are;
        }) is.commits.any_moment.1))

    -- each image of each moment has the records from before, and a prefix of more
    pub phases_give : (acknowledged : ℕ) (later : List DiskState) → HasPhases records_of clean acknowledged more first later → AllByRecursion (EachImage Gives) (first ∷ later)
    phases_give acknowledged later (unopened none fewer) = (gives_first, each_inside Gives first later fewer gives_first)
    phases_give acknowledged later (opened none opens) = (gives_first, gives_opening later opens)
    phases_give acknowledged later (committed broken is) = (gives_first, gives_commits acknowledged broken later is)
