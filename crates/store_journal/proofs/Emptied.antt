-- Emptying both sides of a disk of two forms: where one counts, and where neither is live.
use Rattle.std.proofs.Common.{◌≡◌, ◌≢◌, ℕ, true, false, List, [], ◌∷◌, length, take, None, Some, inl, inr, sym, ap, subst, ◌∙◌}
use Rattle.std.specs.Prelude.{Ok, Err}
use Rattle.std.specs.List.{AllByRecursion}
use Rattle.std.proofs.lemmas.Bool.{cases_eq}
use Rattle.outside.specs.declared.disk.Side.{Side}
use Rattle.outside.specs.declared.disk.Side.TheVariants.{B}
use Rattle.outside.specs.Disks.{AtAnyMoment, DiskState, EachImage, Goes, Image, IsImage, Moments, NeverLoses, StaysTrue, added_since, cut_through, cutting, image_side, on_side, reads_of, settled, settled_disk}
use Rattle.outside.proofs.MomentLaws.{at_present, call_moments, joined_moments, weaker_moments}
use Rattle.store_journal.specs.Forms.{CountsNone, CountsSame, CountsSameOrNone, EmptiesSides, found_form, has_form}
use Rattle.store_journal.specs.Payloads.{counting, payloads, side_bytes}
use Rattle.store_journal.specs.Journals.{IsInStep, JournalState, other_side}
use Rattle.store_journal.specs.Steps.{Went, emptying, last_moment}
use Rattle.store_journal.proofs.Counted.{cut_same, none_where_apart}
use Rattle.store_journal.proofs.Counting.{counting_live, counting_none, dead_prefix, live_starts, other_again, paired}
use Rattle.store_journal.proofs.Emptying.{Empties, emptied_in_step, emptied_payloads, emptying_loses, emptying_moments}
use Rattle.store_journal.proofs.Forms.{both_moments, counts_has_form, no_form_counts, no_form_paired, no_form_payloads}
use Rattle.store_journal.proofs.Fresh.{fresh_journal}
use Rattle.store_journal.proofs.Settled.{settled_each, settled_image}
use Rattle.store_journal.proofs.SideImages.{cut_image, each_of_one, settled_states, states}

-- a journal that is in step makes its form live
pub step_live : (form : ℕ) (journal : JournalState) (disk : DiskState) → IsInStep journal disk → journal.form ≡ form → has_form form (reads_of disk) ≡ true
step_live form journal disk in_step is = ap (λ (f : ℕ). has_form f (reads_of disk)) (sym is) ∙ counts_has_form journal.form (reads_of disk) journal.live in_step.counts

-- a side counts for the form that counts, the disk is settled, and the bytes spell an empty side of the newer form
pub record IsCounted (newer older : ℕ) (disk : DiskState) (live other : Side) (bytes : List ℕ) : Type 0 where
  pub settled_so : disk ≡ settled_disk (reads_of disk)
  pub counts : counting (found_form newer older (reads_of disk)) (reads_of disk) ≡ Some live
  pub other_is : other ≡ other_side live
  pub empty : 1 ∷ bytes ≡ side_bytes newer 1 []

live_again : (live other : Side) → other ≡ other_side live → live ≡ other_side other
live_again live other is = sym (other_again live) ∙ ap other_side (sym is)

there : (newer older : ℕ) (disk : DiskState) (live other : Side) (bytes : List ℕ) → IsCounted newer older disk live other bytes → counting (found_form newer older (reads_of disk)) (reads_of disk) ≡ Some (other_side other)
there newer older disk live other bytes known = known.counts ∙ ap (λ (s : Side). Some s) (live_again live other known.other_is)

-- it begins with a 1
starts : (newer older : ℕ) (disk : DiskState) (live other : Side) (bytes : List ℕ) → IsCounted newer older disk live other bytes → (rest : List ℕ) × (image_side (other_side other) (reads_of disk) ≡ 1 ∷ rest)
starts newer older disk live other bytes known =
    let form = found_form newer older (reads_of disk) in
    live_starts form (image_side (other_side other) (reads_of disk)) (counting_live form (reads_of disk) (other_side other) (there newer older disk live other bytes known))

-- so the other side can be cut
empties : (newer older : ℕ) (disk : DiskState) (live other : Side) (bytes rest : List ℕ) → IsCounted newer older disk live other bytes → image_side (other_side other) (reads_of disk) ≡ 1 ∷ rest → Empties newer older disk other bytes (image_side other (reads_of disk)) rest
empties newer older disk live other bytes rest known is =
    let image = reads_of disk in
    record {
      settled_so = known.settled_so ∙ settled_states other image ∙ ap (λ (l : List ℕ). states other (settled (image_side other image)) (settled l)) is;
      prefix = λ k. subst (λ (l : List ℕ). CountsSame newer older image (paired other (take k (image_side other image)) l)) is (cut_same newer older other image (there newer older disk live other bytes known) k);
      empty = known.empty;
    }

turned : (live other : Side) (bytes : List ℕ) (old new : Moments) → other ≡ other_side live → Went (emptying live other bytes old.now) old new → Went (emptying (other_side other) other bytes old.now) old new
turned live other bytes old new is went = subst (λ (s : Side). Went (emptying s other bytes old.now) old new) (live_again live other is) went

-- at any moment an image holds what counted before, or nothing counts
cleared_moments : (newer older : ℕ) (live other : Side) (bytes : List ℕ) (old new : Moments) → IsCounted newer older old.now live other bytes → Went (emptying live other bytes old.now) old new → AtAnyMoment old new (CountsSameOrNone newer older (reads_of old.now))
cleared_moments newer older live other bytes old new known went =
    let start = starts newer older old.now live other bytes known in
    emptying_moments newer older other bytes (image_side other (reads_of old.now)) start.0 old new (empties newer older old.now live other bytes start.0 known start.1) (turned live other bytes old new known.other_is went)

-- once nothing counts in any image, nothing does
cleared_loses : (newer older : ℕ) (live other : Side) (bytes : List ℕ) (old new : Moments) → IsCounted newer older old.now live other bytes → Went (emptying live other bytes old.now) old new → NeverLoses old new (CountsNone newer older)
cleared_loses newer older live other bytes old new known went =
    let start = starts newer older old.now live other bytes known in
    emptying_loses newer older other bytes (image_side other (reads_of old.now)) start.0 old new (empties newer older old.now live other bytes start.0 known start.1) (turned live other bytes old new known.other_is went)

cleared_payloads : (newer older : ℕ) (live other : Side) (bytes : List ℕ) (old new : DiskState) → IsCounted newer older old live other bytes → new ≡ last_moment old (emptying live other bytes old) → payloads newer (reads_of new) ≡ []
cleared_payloads newer older live other bytes old new known made =
    let start = starts newer older old live other bytes known in
    emptied_payloads newer older other bytes (image_side other (reads_of old)) start.0 old new (empties newer older old live other bytes start.0 known start.1)
    (made ∙ ap (λ (s : Side). last_moment old (emptying s other bytes old)) (live_again live other known.other_is))

cleared_in_step : (newer older : ℕ) (live other : Side) (bytes : List ℕ) (old new : DiskState) → IsCounted newer older old live other bytes → new ≡ last_moment old (emptying live other bytes old) → IsInStep (fresh_journal newer false live) new
cleared_in_step newer older live other bytes old new known made =
    let start = starts newer older old live other bytes known in
    subst (λ (s : Side). IsInStep (fresh_journal newer false s) new) (sym (live_again live other known.other_is))
    (emptied_in_step newer older false other bytes (image_side other (reads_of old)) start.0 old new (empties newer older old live other bytes start.0 known start.1)
    (made ∙ ap (λ (s : Side). last_moment old (emptying s other bytes old)) (live_again live other known.other_is)))

-- a side that counted is emptied, or was being emptied
pub live_fails : {E : Type 0} (newer older : ℕ) (live other : Side) (bytes : List ℕ) (why : E) (old new : Moments) → IsCounted newer older old.now live other bytes → Went (emptying live other bytes old.now) old new → EmptiesSides newer older (Err why) old new
live_fails newer older live other bytes why old new known went = record {
  any_moment = cleared_moments newer older live other bytes old new known went;
  loses = cleared_loses newer older live other bytes old new known went;
  emptied = tt;
  live = tt;
  in_step = tt;
}

pub live_empties : {E : Type 0} (newer older : ℕ) (live other : Side) (bytes : List ℕ) (journal : JournalState) (old new : Moments) → IsCounted newer older old.now live other bytes → Went (emptying live other bytes old.now) old new → new.now ≡ last_moment old.now (emptying live other bytes old.now) → journal ≡ fresh_journal newer false live → EmptiesSides {E = E} newer older (Ok journal) old new
live_empties newer older live other bytes journal old new known went made is =
    let in_step = cleared_in_step newer older live other bytes old.now new.now known made in
    record {
      any_moment = cleared_moments newer older live other bytes old new known went;
      loses = cleared_loses newer older live other bytes old new known went;
      emptied = cleared_payloads newer older live other bytes old.now new.now known made;
      live = counts_has_form newer (reads_of new.now) live in_step.counts;
      in_step = subst (λ (j : JournalState). IsInStep j new.now) (sym is) in_step;
    }

-- what each image has at each moment is never lost
always_had : (P : Image → Type 0) (first : DiskState) (states : List DiskState) → AllByRecursion (EachImage P) states → StaysTrue P first states
always_had P first [] all = tt
always_had P first (next ∷ later) all = ((λ each. all.0), always_had P next later all.1)

none_lost : (P : Image → Type 0) (old new : Moments) → AtAnyMoment old new P → NeverLoses old new P
none_lost P old new moments = record { follows = moments.follows; keeps = always_had P old.now (added_since old new) moments.each.1 }

abbrev HasNot : (form : ℕ) → Image → Type 0
HasNot form image = has_form form image ≡ false

-- B is cut where a form isn't live: it isn't live then,
cut_moments : (form : ℕ) (old new : Moments) → old.now ≡ settled_disk (reads_of old.now) → has_form form (reads_of old.now) ≡ false → Goes (on_side B cutting old.now) old new → AtAnyMoment old new (HasNot form)
cut_moments form old new is none goes =
    let image = reads_of old.now in
    let P = HasNot form in
    let dead = counting_none form B image.b image.a (no_form_counts form image none) in
    let inside : EachImage P (on_side B cutting (settled_disk image)) = each_of_one P B (cutting (settled image.b)) image.a (λ left cut.
    subst (λ (l : List ℕ). P (paired B l image.a)) (sym (cut_image image.b left cut)) (no_form_paired form B (take (length left) image.b) image.a (dead_prefix form (length left) image.b dead.0) dead.1)) in
    call_moments (on_side B cutting old.now) old new P goes
    (subst (EachImage P) (sym is) (settled_each P image none))
    (subst (λ (disk : DiskState). EachImage P (on_side B cutting disk)) (sym is) inside)

-- what it leaves is settled,
pub cut_settles : (old new : DiskState) → old ≡ settled_disk (reads_of old) → new ≡ on_side B cut_through old → new ≡ settled_disk (reads_of new)
cut_settles old new is cut =
    let left : new ≡ settled_disk (record { a = (reads_of old).a; b = [] }) = cut ∙ ap (on_side B cut_through) is in
    left ∙ ap settled_disk (sym (ap reads_of left))

-- and the form isn't live in it
cut_has_not : (form : ℕ) (old new : Moments) → old.now ≡ settled_disk (reads_of old.now) → has_form form (reads_of old.now) ≡ false → Goes (on_side B cutting old.now) old new → new.now ≡ on_side B cut_through old.now → has_form form (reads_of new.now) ≡ false
cut_has_not form old new is none goes cut =
    at_present old new (HasNot form) (cut_moments form old new is none goes) (reads_of new.now)
    (subst (λ (disk : DiskState). IsImage disk (reads_of new.now)) (sym (cut_settles old.now new.now is cut)) (settled_image (reads_of new.now)))

pub cut_counts : (form : ℕ) (old new : Moments) → old.now ≡ settled_disk (reads_of old.now) → has_form form (reads_of old.now) ≡ false → Goes (on_side B cutting old.now) old new → new.now ≡ on_side B cut_through old.now → counting form (reads_of new.now) ≡ None
cut_counts form old new is none goes cut = no_form_counts form (reads_of new.now) (cut_has_not form old new is none goes cut)

-- where neither form is live, nothing counts
cut_none : (newer older : ℕ) (old new : Moments) → old.now ≡ settled_disk (reads_of old.now) → has_form newer (reads_of old.now) ≡ false → has_form older (reads_of old.now) ≡ false → Goes (on_side B cutting old.now) old new → AtAnyMoment old new (CountsNone newer older)
cut_none newer older old new is none gone goes =
    weaker_moments old new (λ image. HasNot newer image × HasNot older image) (CountsNone newer older)
    (λ image neither. none_where_apart newer older image (no_form_payloads newer image neither.0) (inr neither.1))
    (both_moments old new (HasNot newer) (HasNot older) (cut_moments newer old new is none goes) (cut_moments older old new is gone goes))

or_none : (newer older : ℕ) (old new : Moments) → AtAnyMoment old new (CountsNone newer older) → AtAnyMoment old new (CountsSameOrNone newer older (reads_of old.now))
or_none newer older old new moments = weaker_moments old new (CountsNone newer older) (CountsSameOrNone newer older (reads_of old.now)) (λ image none. inr none) moments

-- the cut failed
pub dead_fails : {E : Type 0} (newer older : ℕ) (why : E) (old new : Moments) → old.now ≡ settled_disk (reads_of old.now) → has_form newer (reads_of old.now) ≡ false → has_form older (reads_of old.now) ≡ false → Goes (on_side B cutting old.now) old new → EmptiesSides newer older (Err why) old new
dead_fails newer older why old new is none gone goes =
    let moments = cut_none newer older old new is none gone goes in
    record { any_moment = or_none newer older old new moments; loses = none_lost (CountsNone newer older) old new moments; emptied = tt; live = tt; in_step = tt }

-- or A was made after it, or being made
module _ (newer older : ℕ) (old middle new : Moments) (is : old.now ≡ settled_disk (reads_of old.now)) (none : has_form newer (reads_of old.now) ≡ false) (gone : has_form older (reads_of old.now) ≡ false)
    (goes : Goes (on_side B cutting old.now) old middle) (cut : middle.now ≡ on_side B cut_through old.now)
    (begun : AtAnyMoment middle new (λ image. payloads newer image ≡ payloads newer (reads_of middle.now)))
    (apart : (other : ℕ) → other ≢ newer → has_form other (reads_of middle.now) ≡ false → AtAnyMoment middle new (λ image. has_form other image ≡ false)) where
  held : payloads newer (reads_of middle.now) ≡ []
  held = no_form_payloads newer (reads_of middle.now) (cut_has_not newer old middle is none goes cut)

  begun_none : AtAnyMoment middle new (CountsNone newer older)
  begun_none = elim (cases_eq older newer) [
    | inl same ↦ weaker_moments middle new (λ image. payloads newer image ≡ payloads newer (reads_of middle.now)) (CountsNone newer older) (λ image kept. none_where_apart newer older image (kept ∙ held) (inl same)) begun
    | inr differs ↦ weaker_moments middle new (λ image. (payloads newer image ≡ payloads newer (reads_of middle.now)) × HasNot older image) (CountsNone newer older) (λ image both. none_where_apart newer older image (both.0 ∙ held) (inr both.1))
        (both_moments middle new (λ image. payloads newer image ≡ payloads newer (reads_of middle.now)) (HasNot older) begun (apart older differs (cut_has_not older old middle is gone goes cut)))
  ]

  all_none : AtAnyMoment old new (CountsNone newer older)
  all_none = joined_moments old middle new (CountsNone newer older) (cut_none newer older old middle is none gone goes) begun_none

  pub dead_then_fails : {E : Type 0} (why : E) → EmptiesSides newer older (Err why) old new
  dead_then_fails why = record { any_moment = or_none newer older old new all_none; loses = none_lost (CountsNone newer older) old new all_none; emptied = tt; live = tt; in_step = tt }

  pub dead_empties : {E : Type 0} (journal : JournalState) → payloads newer (reads_of new.now) ≡ payloads newer (reads_of middle.now) → IsInStep journal new.now → journal.form ≡ newer → EmptiesSides {E = E} newer older (Ok journal) old new
  dead_empties journal same in_step form = record {
    any_moment = or_none newer older old new all_none;
    loses = none_lost (CountsNone newer older) old new all_none;
    emptied = same ∙ held;
    live = step_live newer journal new.now in_step form;
    in_step = in_step;
  }
