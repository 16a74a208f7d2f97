-- Commits by number: none, one, and one after the other.
use Rattle.std.proofs.Common.{◌≡◌, ℕ, ◌+◌, ◌<◌, ◌≤◌, Bool, true, false, not, List, [], ◌∷◌, ◌++◌, length, take, refl, sym, ap, subst, ◌∙◌, append_assoc, arith, inl, inr}
use Rattle.std.specs.Bool.{OnTrue}
use Rattle.std.specs.List.{AllByRecursion}
use Rattle.std.proofs.Math.Seq.{take-append-add}
use Rattle.std.proofs.lemmas.List.{append-nil, length-append, take-append-le, take_all}
use Rattle.std.proofs.lemmas.Bool.{cases_lt}
use Rattle.outside.specs.Records.{Record}
use Rattle.outside.specs.Disks.{DiskState, Image, IsImage, IsSound, reads_of, Moments, all_of, AreSound, EachImage, added_since, moments_since, Follows, AtAnyMoment, IsEither, StaysTrue, NeverLoses}
pub use Rattle.outside.specs.Commits.{one_if}
use Rattle.outside.specs.Commits.{HasFirst, most_committed, CommitsFirst, CommitsFirstIn}
use Rattle.outside.proofs.MomentLaws.{last_is, all_weaker, at_present, joined_moments, weaker_moments, started_moments, loses_nothing, joined_losses}

-- a property of each image at each later moment stays true
pub always_stays : (P : Image → Type 0) (disk : DiskState) (later : List DiskState) → AllByRecursion (EachImage P) later → StaysTrue P disk later
always_stays P disk [] all = tt
always_stays P disk (next ∷ later) all = ((λ each. all.0), always_stays P next later all.1)

-- what says the same of each image of each moment is kept as well
pub stays_as : (Q P R : Image → Type 0) → ((image : Image) → Q image → R image → P image) → ((image : Image) → Q image → P image → R image) → (disk : DiskState) (later : List DiskState)
    → AllByRecursion (EachImage Q) (disk ∷ later) → StaysTrue P disk later → StaysTrue R disk later
stays_as Q P R to from disk [] all stays = tt
stays_as Q P R to from disk (next ∷ later) all stays = (
  λ each image is. from image (all.1.0 image is) (stays.0 (λ i there. to i (all.0 i there) (each i there)) image is),
  stays_as Q P R to from next later all.1 stays.1,
)

-- what no moment has is kept
pub never_stays : (P : Image → Type 0) → (disk : DiskState) (later : List DiskState) → AllByRecursion (λ state. EachImage P state → ⊥) (disk ∷ later) → StaysTrue P disk later
never_stays P disk [] all = tt
never_stays P disk (next ∷ later) all = ((λ each. absurd (all.0 each)), never_stays P next later all.1)

-- what each moment so far has, each moment of a run has
pub of_run : (Q : DiskState → Type 0) (old new : Moments) → Follows old new → AllByRecursion Q (all_of new) → AllByRecursion Q (moments_since old new)
of_run Q old new follows all =
    after old.past (subst (AllByRecursion Q) (follows ∙ append_assoc old.past (old.now ∷ []) (added_since old new)) all) where
      after : (past : List DiskState) → AllByRecursion Q (past ++ old.now ∷ added_since old new) → AllByRecursion Q (old.now ∷ added_since old new)
      after [] rest = rest
      after (state ∷ past) rest = after past rest.1

-- first ones of more, counted anew
pub first_wider : (low high less most : ℕ) (before more now : List Record) → (less ≤ low) → (high ≤ most) → HasFirst low high before more now → HasFirst less most before more now
first_wider low high less most before more now lower higher has = record {
  count = has.count;
  at_least = omega (arith, has.at_least);
  at_most = omega (arith, has.at_most);
  within = has.within;
  are = has.are;
}

pub first_of_longer : (low high : ℕ) (before xs ys now : List Record) → HasFirst low high before xs now → HasFirst low high before (xs ++ ys) now
first_of_longer low high before xs ys now has =
    let within : has.count ≤ length xs = has.within in
    record {
      count = has.count;
      at_least = has.at_least;
      at_most = has.at_most;
      within = omega (arith, length-append xs ys);
      are = has.are ∙ ap (λ (l : List Record). before ++ l) (sym (take-append-le has.count xs ys within));
    }

pub first_after : (low high : ℕ) (before xs ys now : List Record) → HasFirst low high (before ++ xs) ys now → HasFirst (length xs + low) (length xs + high) before (xs ++ ys) now
first_after low high before xs ys now has =
    let within : has.count ≤ length ys = has.within in
    record {
      count = length xs + has.count;
      at_least = omega (arith, has.at_least);
      at_most = omega (arith, has.at_most);
      within = omega (arith, length-append xs ys);
      are = has.are ∙ append_assoc before xs (take has.count ys) ∙ ap (λ (l : List Record). before ++ l) (sym (take-append-add xs ys has.count));
    }

none_of : (before more now : List Record) → now ≡ before → HasFirst 0 0 before more now
none_of before more now same = record { count = 0; at_least = omega arith; at_most = omega arith; within = omega arith; are = same ∙ sym (append-nil before) }

one_of : (before : List Record) (one : Record) (now : List Record) → now ≡ before ++ one ∷ [] → HasFirst 1 1 before (one ∷ []) now
one_of before one now same = record { count = 1; at_least = omega arith; at_most = omega arith; within = omega arith; are = same }

at_most_more : (broken : Bool) (n : ℕ) → n ≤ most_committed broken n
at_most_more true n = omega arith
at_most_more false n = omega arith

most-add : (broken : Bool) (m n : ℕ) → most_committed broken (m + n) ≡ m + most_committed broken n
most-add true m n = omega arith
most-add false m n = refl

-- nothing was done where each image has the records from before
pub commits_nothing : (before more : List Record) (records_of : Image → List Record) (moments : Moments) → EachImage (λ image. records_of image ≡ before) moments.now → CommitsFirst 0 false before more records_of moments moments
commits_nothing before more records_of moments same =
    let each : EachImage (λ image. HasFirst 0 0 before more (records_of image)) moments.now = λ image is. none_of before more (records_of image) (same image is) in
    record {
      any_moment = started_moments moments (λ image. HasFirst 0 0 before more (records_of image)) each;
      last = each;
      loses = λ count. loses_nothing moments (λ image. count ≤ length (records_of image));
    }

module _ (acknowledged : ℕ) (broken : Bool) (before : List Record) (records_of : Image → List Record) (old new : Moments) where
  -- more may still be to come
  pub commits_longer : (xs ys : List Record) → CommitsFirst acknowledged broken before xs records_of old new → CommitsFirst acknowledged broken before (xs ++ ys) records_of old new
  commits_longer xs ys committed =
      let most : ℕ = most_committed broken acknowledged in
      record {
        any_moment = weaker_moments old new (λ image. HasFirst 0 most before xs (records_of image)) (λ image. HasFirst 0 most before (xs ++ ys) (records_of image)) (λ image has. first_of_longer 0 most before xs ys (records_of image) has) committed.any_moment;
        last = λ image is. first_of_longer acknowledged most before xs ys (records_of image) (committed.last image is);
        loses = committed.loses;
      }

  -- what holds for a store that isn't broken implies the weaker statement for one that may be broken
  pub commits_weaker : (more : List Record) → CommitsFirst acknowledged false before more records_of old new → CommitsFirst acknowledged broken before more records_of old new
  commits_weaker more committed =
      let most : ℕ = most_committed broken acknowledged in
      let higher : acknowledged ≤ most = at_most_more broken acknowledged in
      record {
        any_moment = weaker_moments old new (λ image. HasFirst 0 acknowledged before more (records_of image)) (λ image. HasFirst 0 most before more (records_of image))
            (λ image has. first_wider 0 acknowledged 0 most before more (records_of image) (omega arith) higher has) committed.any_moment;
        last = λ image is. first_wider acknowledged acknowledged acknowledged most before more (records_of image) (omega arith) higher (committed.last image is);
        loses = committed.loses;
      }

  -- the same of the states of a run
  pub commits_in : (more : List Record) → CommitsFirst acknowledged broken before more records_of old new → CommitsFirstIn acknowledged broken before more records_of old.now (added_since old new)
  commits_in more committed =
      let most : ℕ = most_committed broken acknowledged in
      record {
        any_moment = committed.any_moment.each;
        last = subst (EachImage (λ image. HasFirst acknowledged most before more (records_of image))) (sym (last_is old new committed.any_moment.follows)) committed.last;
        loses = λ count. (committed.loses count).keeps;
      }

-- all of xs were committed, and then first ones of ys
pub commits_then : (acknowledged : ℕ) (was_broken broken : Bool) (before xs ys : List Record) (records_of : Image → List Record) (old middle new : Moments)
    → CommitsFirst (length xs) was_broken before xs records_of old middle → CommitsFirst acknowledged broken (before ++ xs) ys records_of middle new
    → CommitsFirst (length xs + acknowledged) broken before (xs ++ ys) records_of old new
commits_then acknowledged was_broken broken before xs ys records_of old middle new first second =
    let most : ℕ = most_committed broken (length xs + acknowledged) in
    let later : ℕ = most_committed broken acknowledged in
    let sum : most ≡ length xs + later = most-add broken (length xs) acknowledged in
    record {
      any_moment = joined_moments old middle new (λ image. HasFirst 0 most before (xs ++ ys) (records_of image))
          (weaker_moments old middle (λ image. HasFirst 0 (most_committed was_broken (length xs)) before xs (records_of image)) (λ image. HasFirst 0 most before (xs ++ ys) (records_of image))
          (λ image has. first_of_longer 0 most before xs ys (records_of image) (record { count = has.count; at_least = has.at_least; at_most = omega (arith, has.within, at_most_more broken (length xs + acknowledged)); within = has.within; are = has.are })) first.any_moment)
          (weaker_moments middle new (λ image. HasFirst 0 later (before ++ xs) ys (records_of image)) (λ image. HasFirst 0 most before (xs ++ ys) (records_of image))
          (λ image has. first_wider (length xs + 0) (length xs + later) 0 most before (xs ++ ys) (records_of image) (omega arith) (omega arith) (first_after 0 later before xs ys (records_of image) has)) second.any_moment);
      last = λ image is. first_wider (length xs + acknowledged) (length xs + later) (length xs + acknowledged) most before (xs ++ ys) (records_of image) (omega arith) (omega arith)
          (first_after acknowledged later before xs ys (records_of image) (second.last image is));
      loses = λ count. joined_losses old middle new (λ image. count ≤ length (records_of image)) (first.loses count) (second.loses count);
    }

most_of_one : (ok : Bool) → most_committed (not ok) (one_if ok) ≡ 1
most_of_one true = refl
most_of_one false = refl

-- One commit, from the promises of its call: `ok` is whether the call answered that the record is committed.
module _ (before : List Record) (one : Record) (records_of : Image → List Record) (old new : Moments) where
  either_first : (now : List Record) → IsEither now before (before ++ one ∷ []) → HasFirst 0 1 before (one ∷ []) now
  either_first now (inl same) = record { count = 0; at_least = omega arith; at_most = omega arith; within = omega arith; are = same ∙ sym (append-nil before) }
  either_first now (inr more) = record { count = 1; at_least = omega arith; at_most = omega arith; within = omega arith; are = more }

  length_either : (now : List Record) → IsEither now before (before ++ one ∷ []) → (length before ≤ length now) × (length now ≤ length before + 1)
  length_either now (inl same) = (omega (arith, ap length same), omega (arith, ap length same))
  length_either now (inr more) = (omega (arith, ap length more, length-append before (one ∷ [])), omega (arith, ap length more, length-append before (one ∷ [])))

  longer_is : (now : List Record) → IsEither now before (before ++ one ∷ []) → length before + 1 ≤ length now → now ≡ before ++ one ∷ []
  longer_is now (inl same) long = absurd (omega (arith, ap length same))
  longer_is now (inr more) long = more

  last_of_one : (ok : Bool) → EachImage (λ image. IsEither (records_of image) before (before ++ one ∷ [])) new.now → OnTrue ok (EachImage (λ image. records_of image ≡ before ++ one ∷ []) new.now)
      → EachImage (λ image. HasFirst (one_if ok) (most_committed (not ok) (one_if ok)) before (one ∷ []) (records_of image)) new.now
  last_of_one true either there = λ image is. one_of before one (records_of image) (there image is)
  last_of_one false either there = λ image is. either_first (records_of image) (either image is)

  never_long : (count : ℕ) → length before + 1 < count → (states : List DiskState) → AllByRecursion IsSound states → AllByRecursion (EachImage (λ image. IsEither (records_of image) before (before ++ one ∷ []))) states
      → AllByRecursion (λ state. EachImage (λ image. count ≤ length (records_of image)) state → ⊥) states
  never_long count long [] sounds all = tt
  never_long count long (state ∷ states) sounds all =
      let is : IsImage state (reads_of state) = record { a = sounds.0.a.image; b = sounds.0.b.image } in (
        λ each. absurd (omega (arith, each (reads_of state) is, (length_either (records_of (reads_of state)) (all.0 (reads_of state) is)).1)),
        never_long count long states sounds.1 all.1,
      )

  stays_long : AreSound new → AtAnyMoment old new (λ image. IsEither (records_of image) before (before ++ one ∷ [])) → NeverLoses old new (λ image. records_of image ≡ before ++ one ∷ [])
      → (count : ℕ) → StaysTrue (λ image. count ≤ length (records_of image)) old.now (added_since old new)
  stays_long sound moments never count =
      elim (cases_lt (length before) count) [
        | inr low ↦ always_stays (λ image. count ≤ length (records_of image)) old.now (added_since old new)
            (all_weaker (λ image. IsEither (records_of image) before (before ++ one ∷ [])) (λ image. count ≤ length (records_of image)) (added_since old new)
            (λ image either. omega (arith, (length_either (records_of image) either).0)) moments.each.1)
        | inl above ↦ elim (cases_lt (length before + 1) count) [
          | inl far ↦ never_stays (λ image. count ≤ length (records_of image)) old.now (added_since old new)
              (never_long count far (moments_since old new) (of_run IsSound old new moments.follows sound) moments.each)
          | inr here ↦ stays_as (λ image. IsEither (records_of image) before (before ++ one ∷ [])) (λ image. records_of image ≡ before ++ one ∷ []) (λ image. count ≤ length (records_of image))
              (λ image either long. longer_is (records_of image) either (omega arith))
              (λ image either more. omega (arith, ap length more, length-append before (one ∷ [])))
              old.now (added_since old new) moments.each never.keeps
        ]
      ]

  pub commits_one : AreSound new → AtAnyMoment old new (λ image. IsEither (records_of image) before (before ++ one ∷ [])) → NeverLoses old new (λ image. records_of image ≡ before ++ one ∷ [])
      → (ok : Bool) → OnTrue ok (EachImage (λ image. records_of image ≡ before ++ one ∷ []) new.now)
      → CommitsFirst (one_if ok) (not ok) before (one ∷ []) records_of old new
  commits_one sound moments never ok there =
      record {
        any_moment = subst (λ (most : ℕ). AtAnyMoment old new (λ image. HasFirst 0 most before (one ∷ []) (records_of image))) (sym (most_of_one ok))
            (weaker_moments old new (λ image. IsEither (records_of image) before (before ++ one ∷ [])) (λ image. HasFirst 0 1 before (one ∷ []) (records_of image)) (λ image either. either_first (records_of image) either) moments);
        last = last_of_one ok (at_present old new (λ image. IsEither (records_of image) before (before ++ one ∷ [])) moments) there;
        loses = λ count. record { follows = moments.follows; keeps = stays_long sound moments never count };
      }

-- where all are acknowledged and the store isn't broken, each image has all
pub commits_all : (before more : List Record) (records_of : Image → List Record) (old new : Moments) → CommitsFirst (length more) false before more records_of old new → EachImage (λ image. records_of image ≡ before ++ more) new.now
commits_all before more records_of old new committed = λ image is.
    let has = committed.last image is in
    has.are ∙ ap (λ (l : List Record). before ++ l) (take_all has.count more (omega (arith, has.at_least)))

-- one more commit, from the promises of its call, after new records that are committed already
pub commits_one_more : (before xs : List Record) (one : Record) (now : List Record) (records_of : Image → List Record) (old middle new : Moments) → now ≡ before ++ xs → CommitsFirst (length xs) false before xs records_of old middle → AreSound new
    → AtAnyMoment middle new (λ image. IsEither (records_of image) now (now ++ one ∷ [])) → NeverLoses middle new (λ image. records_of image ≡ now ++ one ∷ []) → (ok : Bool) → OnTrue ok (EachImage (λ image. records_of image ≡ now ++ one ∷ []) new.now)
    → CommitsFirst (length xs + one_if ok) (not ok) before (xs ++ one ∷ []) records_of old new
commits_one_more before xs one now records_of old middle new is committed sound moments never ok there =
    commits_then (one_if ok) false (not ok) before xs (one ∷ []) records_of old middle new committed
    (subst (λ (records : List Record). CommitsFirst (one_if ok) (not ok) records (one ∷ []) records_of middle new) is (commits_one now one records_of middle new sound moments never ok there))
