-- What is committed and acknowledged, event after event, and what the disk holds of it.
use Rattle.std.proofs.Common.{◌≡◌, ℕ, ◌+◌, ◌≤◌, Bool, true, false, List, [], ◌∷◌, ◌++◌, length, take, Option, refl, sym, ap, subst, ◌∙◌, arith}
use Rattle.std.specs.Bool.{OnFalse}
use Rattle.std.proofs.Math.Seq.{take-append-add, take-length}
use Rattle.std.proofs.lemmas.Bool.{OnTrue_at, OnTrue_from}
use Rattle.std.proofs.lemmas.List.{append-nil, append_assoc, length-append, take-append-le}
use Rattle.base.specs.declared.file.FileName.{FileName}
use Rattle.base.specs.declared.child.Event.{Event}
use Rattle.outside.specs.Records.{Record}
use Rattle.outside.specs.Disks.{Image, Moments, reads_of}
use Rattle.outside.specs.Commits.{CommitsFirst, one_if}
use Rattle.outside.proofs.CommitLaws.{commits_longer, commits_then}
use Rattle.run_spec.specs.ChildJournal.{Work, EachAfter}
use Rattle.run_spec.proofs.Journal.{EachAfter-append}
use Rattle.run_spec.proofs.Waiting.{waits_more}
use Rattle.run_spec.specs.Commits.{commits, ComesAfterCommits, Waits}
use Rattle.run_build.specs.Commits.{latest_after, Acknowledges, HoldsFirst}
use Rattle.run_build.proofs.Latest.{latest_then}

waits_then : (setting : Work) (acknowledged : ℕ) (events : List Event) (event : Event) → Waits setting acknowledged events → ComesAfterCommits setting acknowledged events event → Waits setting acknowledged (events ++ event ∷ [])
unfolding EachAfter
waits_then setting acknowledged events event all here = EachAfter-append (ComesAfterCommits setting acknowledged) [] events (event ∷ []) all (here, tt)

module _ (setting : Work) (events : List Event) (all : Bool) (before now : FileName → Option Record) (acknowledged : ℕ) (is : Acknowledges setting events all before now acknowledged) where
  -- where all is committed, all is known
  pub knows_all : all ≡ true → (name : FileName) → now name ≡ latest_after (commits setting events) before name
  knows_all on name =
      is.latest name ∙ ap (λ (n : ℕ). latest_after (take n (commits setting events)) before name) (OnTrue_at on is.whole) ∙ ap (λ (l : List Record). latest_after l before name) (take-length (commits setting events))

  pub all_few : all ≡ true → acknowledged ≡ length (commits setting events)
  all_few on = OnTrue_at on is.whole

  -- an event after which no more is acknowledged
  pub acknowledges_left : (event : Event) (rest : List Record) (all' : Bool) → ComesAfterCommits setting acknowledged events event → commits setting (events ++ event ∷ []) ≡ commits setting events ++ rest →
      (all' ≡ true → (all ≡ true) × (rest ≡ [])) → Acknowledges setting (events ++ event ∷ []) all' before now acknowledged
  acknowledges_left event rest all' in_time then still =
      let few : acknowledged ≤ length (commits setting events) = is.few in
      let longer : length (commits setting (events ++ event ∷ [])) ≡ length (commits setting events) + length rest = ap length then ∙ length-append (commits setting events) rest in
      record {
        few = omega (arith, few, longer);
        whole = OnTrue_from all' _ (λ on. all_few (still on).0 ∙ ap length (sym (append-nil (commits setting events)) ∙ ap (λ (l : List Record). commits setting events ++ l) (sym (still on).1) ∙ sym then));
        waits = waits_then setting acknowledged events event is.waits in_time;
        latest = λ name. is.latest name ∙ ap (λ (l : List Record). latest_after l before name) (sym (ap (take acknowledged) then ∙ take-append-le acknowledged (commits setting events) rest few));
      }

  -- the end of a child whose record was to be committed, once all before is
  pub acknowledges_one : (event : Event) (one : Record) (ok all' : Bool) (later : FileName → Option Record) → all ≡ true → ComesAfterCommits setting (acknowledged + one_if ok) events event → commits setting (events ++ event ∷ []) ≡ commits setting events ++ one ∷ [] →
      ((name : FileName) → later name ≡ latest_after (take (one_if ok) (one ∷ [])) now name) → (all' ≡ true → ok ≡ true) → Acknowledges setting (events ++ event ∷ []) all' before later (acknowledged + one_if ok)
  acknowledges_one event one ok all' later on in_time then latest still =
      let count : acknowledged ≡ length (commits setting events) = all_few on in
      let longer : length (commits setting (events ++ event ∷ [])) ≡ length (commits setting events) + 1 = ap length then ∙ length-append (commits setting events) (one ∷ []) in
      let first : take (acknowledged + one_if ok) (commits setting (events ++ event ∷ [])) ≡ commits setting events ++ take (one_if ok) (one ∷ []) =
      ap (λ (n : ℕ). take (n + one_if ok) (commits setting (events ++ event ∷ []))) count ∙ ap (take (length (commits setting events) + one_if ok)) then ∙ take-append-add (commits setting events) (one ∷ []) (one_if ok) in
      record {
        few = omega (arith, count, longer, one_at_most ok);
        whole = OnTrue_from all' _ (λ o. omega (arith, count, longer, ap one_if (still o)));
        waits = waits_then setting (acknowledged + one_if ok) events event (waits_more setting acknowledged (acknowledged + one_if ok) events (omega arith) is.waits) in_time;
        latest = λ name. latest_then (commits setting events) (take (one_if ok) (one ∷ [])) before now later (knows_all on) latest name ∙ ap (λ (l : List Record). latest_after l before name) (sym first);
      } where
        one_at_most : (b : Bool) → one_if b ≤ 1
        one_at_most true = omega arith
        one_at_most false = omega arith

-- what the disk holds while more is to be committed, and isn't
pub holds_left : (acknowledged : ℕ) (broken : Bool) (more rest : List Record) (records_of : Image → List Record) (old new : Moments) → acknowledged ≤ length more → HoldsFirst acknowledged broken more records_of old new → HoldsFirst acknowledged broken (more ++ rest) records_of old new
holds_left acknowledged broken more rest records_of old new few holds = record {
  reads = reads_left broken holds.reads;
  images = commits_longer acknowledged broken (records_of (reads_of old.now)) records_of old new more rest holds.images;
  untouched = λ none. holds.untouched (nothing_first more none);
} where
  nothing_first : (more : List Record) → more ++ rest ≡ [] → more ≡ []
  nothing_first [] none = refl
  nothing_first (first ∷ others) none = let nothing : ⊥ = cc in absurd nothing

  reads_left : (b : Bool) → OnFalse b (records_of (reads_of new.now) ≡ records_of (reads_of old.now) ++ take acknowledged more) → OnFalse b (records_of (reads_of new.now) ≡ records_of (reads_of old.now) ++ take acknowledged (more ++ rest))
  reads_left true h = tt
  reads_left false h = h ∙ ap (λ (l : List Record). records_of (reads_of old.now) ++ l) (sym (take-append-le acknowledged more rest few))

-- what it holds after one more record, once all before was committed
pub holds_one : (acknowledged : ℕ) (ok broken : Bool) (more : List Record) (one : Record) (records_of : Image → List Record) (old middle new : Moments) → acknowledged ≡ length more →
    HoldsFirst acknowledged false more records_of old middle → HoldsFirst (one_if ok) broken (one ∷ []) records_of middle new → HoldsFirst (acknowledged + one_if ok) broken (more ++ one ∷ []) records_of old new
holds_one acknowledged ok broken more one records_of old middle new count first second =
    let base : List Record = records_of (reads_of old.now) in
    let whole : take acknowledged more ≡ more = ap (λ (n : ℕ). take n more) count ∙ take-length more in
    let there : records_of (reads_of middle.now) ≡ base ++ more = first.reads ∙ ap (λ (l : List Record). base ++ l) whole in
    let all : take (acknowledged + one_if ok) (more ++ one ∷ []) ≡ more ++ take (one_if ok) (one ∷ []) = ap (λ (n : ℕ). take (n + one_if ok) (more ++ one ∷ [])) count ∙ take-append-add more (one ∷ []) (one_if ok) in
    record {
      reads = reads_one broken there all second.reads;
      images = subst (λ (n : ℕ). CommitsFirst (n + one_if ok) broken base (more ++ one ∷ []) records_of old new) (sym count)
          (commits_then (one_if ok) false broken base more (one ∷ []) records_of old middle new
          (subst (λ (n : ℕ). CommitsFirst n false base more records_of old middle) count first.images)
          (subst (λ (l : List Record). CommitsFirst (one_if ok) broken l (one ∷ []) records_of middle new) there second.images));
      untouched = λ none. let nothing : ⊥ = one_more more none in absurd nothing;
    } where
      one_more : (more : List Record) → more ++ one ∷ [] ≡ [] → ⊥
      one_more [] none = cc
      one_more (first ∷ others) none = cc

      reads_one : (b : Bool) → records_of (reads_of middle.now) ≡ records_of (reads_of old.now) ++ more → take (acknowledged + one_if ok) (more ++ one ∷ []) ≡ more ++ take (one_if ok) (one ∷ []) →
          OnFalse b (records_of (reads_of new.now) ≡ records_of (reads_of middle.now) ++ take (one_if ok) (one ∷ [])) → OnFalse b (records_of (reads_of new.now) ≡ records_of (reads_of old.now) ++ take (acknowledged + one_if ok) (more ++ one ∷ []))
      reads_one true there all h = tt
      reads_one false there all h =
          h ∙ ap (λ (l : List Record). l ++ take (one_if ok) (one ∷ [])) there ∙ append_assoc (records_of (reads_of old.now)) more (take (one_if ok) (one ∷ [])) ∙ ap (λ (l : List Record). records_of (reads_of old.now) ++ l) (sym all)
