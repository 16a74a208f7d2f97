-- Emptying a side that counts: the other side is emptied, the live one is made dead, and then made without payloads.
use Rattle.std.proofs.Common.{◌≡◌, ℕ, Bool, false, List, [], ◌∷◌, length, take, inl, inr, refl, sym, ap, subst, ◌∙◌, arith}
use Rattle.std.specs.List.{AllByRecursion}
use Rattle.std.proofs.lemmas.Bool.{cases_eq}
use Rattle.std.proofs.lemmas.List.{take_all}
use Rattle.outside.specs.declared.disk.Side.{Side}
use Rattle.outside.specs.declared.disk.Side.TheVariants.{A, B}
use Rattle.outside.specs.Disks.{DiskState, Image, IsImage, Moments, EachImage, AtAnyMoment, NeverLoses, image_side, on_side, reads_of, settled, settled_disk, writing, cutting}
use Rattle.outside.proofs.ImageLaws.{settled_only}
use Rattle.store_journal.specs.Forms.{CountsNone, CountsSame, CountsSameOrNone}
use Rattle.store_journal.specs.Payloads.{is_live, payloads, side_bytes}
use Rattle.store_journal.specs.Journals.{IsInStep, other_side}
use Rattle.store_journal.specs.Steps.{Step, Went, making, emptying, write_step, cut_step, then_steps, last_moment}
use Rattle.store_journal.proofs.Changing.{IsDead, making_each}
use Rattle.store_journal.proofs.Counted.{none_as, none_of, none_where_dead, none_where_live}
use Rattle.store_journal.proofs.Counting.{dead_prefix, first_dead, none_dead, paired, paired_other, zero_dead}
use Rattle.store_journal.proofs.Forms.{other_has_form}
use Rattle.store_journal.proofs.Fresh.{empty_payloads, fresh_journal, fresh_in_step}
use Rattle.store_journal.proofs.Made.{made_last, made_steps, making_is}
use Rattle.store_journal.proofs.SideBytes.{side_live}
use Rattle.store_journal.proofs.SideImages.{states, states_settled, each_of_one, each_of_other, paired_image, cut_image, first_image}
use Rattle.store_journal.proofs.Standing.{with_side}
use Rattle.store_journal.proofs.Went.{HandsOn, went_moments, went_loses}

-- the steps of emptying from the second on
abbrev pub from_dead : (live other : Side) → List ℕ → DiskState → List Step
from_dead live other bytes emptied = then_steps (write_step live 0 (0 ∷ []) emptied) (making live bytes)

-- the last of its steps are those of making the live side
empties_last : (live other : Side) (bytes : List ℕ) (disk : DiskState) (dead : DiskState) → dead ≡ (write_step live 0 (0 ∷ []) (cut_step other disk).after).after → last_moment disk (emptying live other bytes disk) ≡ last_moment dead (making live bytes dead)
unfolding last_moment emptying
empties_last live other bytes disk dead is = rw is refl

-- after the last step of emptying the live side is the 1 and the bytes
pub emptied_by : (live other : Side) (bytes : List ℕ) (disk emptied dead new : DiskState) → emptied ≡ (cut_step other disk).after → dead ≡ (write_step live 0 (0 ∷ []) emptied).after → new ≡ on_side live (λ _. settled (1 ∷ bytes)) dead → new ≡ last_moment disk (emptying live other bytes disk)
emptied_by live other bytes disk emptied dead new first second made =
    let is : dead ≡ (write_step live 0 (0 ∷ []) (cut_step other disk).after).after = second ∙ ap (λ (d : DiskState). (write_step live 0 (0 ∷ []) d).after) first in
    made ∙ sym (made_last live bytes dead) ∙ sym (empties_last live other bytes disk dead is)

abbrev emptying_by : Side → (one rest : List ℕ) → List Step → List Step
emptying_by side one rest steps =
    record { during = states side (cutting (settled one)) (settled (1 ∷ rest)); after = states side (settled []) (settled (1 ∷ rest)) }
    ∷ record { during = states side (settled []) (writing 0 1 (settled (1 ∷ rest))); after = states side (settled []) (settled (0 ∷ rest)) }
    ∷ steps

-- the steps where the disk is settled and the live side is a 1 and the rest
abbrev pub emptying_steps : Side → (bytes one rest : List ℕ) → List Step
emptying_steps side bytes one rest = emptying_by side one rest (made_steps (other_side side) bytes (0 ∷ rest) [])

-- these are the steps
emptying_is : (side : Side) (bytes one rest : List ℕ) → emptying (other_side side) side bytes (states side (settled one) (settled (1 ∷ rest))) ≡ emptying_steps side bytes one rest
unfolding emptying
emptying_is A bytes one rest = ap (emptying_by A one rest) (making_is B bytes (0 ∷ rest) [])
emptying_is B bytes one rest = ap (emptying_by B one rest) (making_is A bytes (0 ∷ rest) [])

-- a disk and an image by their sides, and by their sides in each other's place
turned_image : (side : Side) (one other : List ℕ) → paired side one other ≡ paired (other_side side) other one
turned_image A one other = refl
turned_image B one other = refl

-- Inside of each step of making a side that isn't live, beside one that is empty, each image has what an image has whose side
-- is dead, or made.
making_alone : (P : Image → Type 0) (side : Side) (bytes rest : List ℕ) → ((left : List ℕ) → IsDead left → P (paired side [] left)) → P (paired side [] (1 ∷ bytes)) → AllByRecursion (λ (step : Step). EachImage P step.during) (made_steps (other_side side) bytes (0 ∷ rest) [])
making_alone P side bytes rest dead made =
    let turned : (left : List ℕ) → P (paired side [] left) → P (paired (other_side side) left []) = λ left has. subst P (turned_image side [] left) has in
    making_each P (other_side side) bytes (0 ∷ rest) []
    (λ k. turned (take k (0 ∷ rest)) (dead (take k (0 ∷ rest)) (λ form. dead_prefix form k (0 ∷ rest) (zero_dead form rest))))
    (λ left gone. turned left (dead left gone))
    (turned (1 ∷ bytes) made)

dying : (P : Image → Type 0) (side : Side) (rest : List ℕ) → P (paired side [] (1 ∷ rest)) → ((left : List ℕ) → IsDead left → P (paired side [] left)) → (byte : ℕ) → P (paired side [] (byte ∷ rest))
dying P side rest lives dead byte = elim (cases_eq byte 1) [
  | inl is ↦ subst (λ (n : ℕ). P (paired side [] (n ∷ rest))) (sym is) lives
  | inr differs ↦ dead (byte ∷ rest) (λ form. first_dead form byte rest differs)
]

-- Inside of each step of emptying each image has what an image has whose other side is a prefix of the old one, or which has
-- one side alone that is dead, or made.
emptying_each : (P : Image → Type 0) (side : Side) (bytes one rest : List ℕ) → ((k : ℕ) → P (paired side (take k one) (1 ∷ rest))) → ((left : List ℕ) → IsDead left → P (paired side [] left)) → P (paired side [] (1 ∷ bytes)) → AllByRecursion (λ (step : Step). EachImage P step.during) (emptying_steps side bytes one rest)
emptying_each P side bytes one rest prefix dead made = (
  each_of_one P side (cutting (settled one)) (1 ∷ rest) (λ left is. subst (λ (l : List ℕ). P (paired side l (1 ∷ rest))) (sym (cut_image one left is)) (prefix (length left))),
  (
    each_of_other P side [] (writing 0 1 (settled (1 ∷ rest))) (λ left is.
        let parts = first_image 1 rest left is in
        subst (λ (l : List ℕ). P (paired side [] l)) (sym parts.1) (dying P side rest (prefix 0) dead parts.0)),
    making_alone P side bytes rest dead made,
  ),
)

-- the conditions under which the sides of a disk are emptied
pub record Empties (newer older : ℕ) (disk : DiskState) (side : Side) (bytes one rest : List ℕ) : Type 0 where
  pub settled_so : disk ≡ states side (settled one) (settled (1 ∷ rest))
  pub prefix : (k : ℕ) → CountsSame newer older (reads_of disk) (paired side (take k one) (1 ∷ rest))
  pub empty : 1 ∷ bytes ≡ side_bytes newer 1 []

-- a made side has no payloads, where the other is empty
made_empty : (form : ℕ) (side : Side) (bytes : List ℕ) → 1 ∷ bytes ≡ side_bytes form 1 [] → payloads form (paired side (1 ∷ bytes) []) ≡ []
made_empty form side bytes empty =
    let image = paired side [] [] in
    let other = paired_other side [] [] in
    ap (λ (l : List ℕ). payloads form (paired side (1 ∷ bytes) l)) (sym other)
    ∙ empty_payloads form side (1 ∷ bytes) image empty (ap (is_live form) other ∙ none_dead form)

-- so nothing counts
made_none : (newer older : ℕ) (side : Side) (bytes : List ℕ) → 1 ∷ bytes ≡ side_bytes newer 1 [] → CountsNone newer older (paired side [] (1 ∷ bytes))
made_none newer older side bytes empty =
    none_where_live newer older (paired side [] (1 ∷ bytes))
    (other_has_form newer side [] (1 ∷ bytes) (ap (is_live newer) empty ∙ side_live newer 1 []))
    (ap (payloads newer) (turned_image side [] (1 ∷ bytes)) ∙ made_empty newer (other_side side) bytes empty)

-- before the first step
same_now : (newer older : ℕ) (disk : DiskState) (side : Side) (bytes one rest : List ℕ) → Empties newer older disk side bytes one rest → CountsSame newer older (reads_of disk) (paired side one (1 ∷ rest))
same_now newer older disk side bytes one rest known =
    subst (λ (l : List ℕ). CountsSame newer older (reads_of disk) (paired side l (1 ∷ rest))) (take_all (length one) one (omega arith)) (known.prefix (length one))

-- inside of each step an image holds what counted before, or nothing counts
emptying_leaves : (newer older : ℕ) (disk : DiskState) (side : Side) (bytes one rest : List ℕ) → Empties newer older disk side bytes one rest → AllByRecursion (λ (step : Step). EachImage (CountsSameOrNone newer older (reads_of disk)) step.during) (emptying_steps side bytes one rest)
emptying_leaves newer older disk side bytes one rest known =
    emptying_each (CountsSameOrNone newer older (reads_of disk)) side bytes one rest
    (λ k. inl (known.prefix k))
    (λ left dead. inr (none_where_dead newer older side left dead))
    (inr (made_none newer older side bytes known.empty))

-- Where an image holds what counted before, each can only count for none if that was none.
handing : (newer older : ℕ) (before : Image) (disk during : DiskState) (image : Image) → IsImage disk image → CountsSame newer older before image → EachImage (CountsSameOrNone newer older before) during → EachImage (CountsNone newer older) disk → EachImage (CountsNone newer older) during
handing newer older before disk during image is same each none later there =
    elim (each later there) [
      | inl too ↦ none_as newer older before later too (none_of newer older before image same (none image is))
      | inr gone ↦ gone
    ]

-- what each image has inside of each step, each step hands on
hands_all : (P : Image → Type 0) (disk : DiskState) (steps : List Step) → AllByRecursion (λ (step : Step). EachImage P step.during) steps → HandsOn P disk steps
hands_all P disk [] all = tt
hands_all P disk (step ∷ steps) all = ((λ had. all.0), hands_all P step.after steps all.1)

-- so each step hands on that nothing counts
emptying_hands : (newer older : ℕ) (disk : DiskState) (side : Side) (bytes one rest : List ℕ) → Empties newer older disk side bytes one rest → HandsOn (CountsNone newer older) (states side (settled one) (settled (1 ∷ rest))) (emptying_steps side bytes one rest)
emptying_hands newer older disk side bytes one rest known =
    let all = emptying_leaves newer older disk side bytes one rest known in (
      handing newer older (reads_of disk) _ _ (paired side one (1 ∷ rest)) (paired_image side one (1 ∷ rest)) (same_now newer older disk side bytes one rest known) all.0,
      (
        handing newer older (reads_of disk) _ _ (paired side [] (1 ∷ rest)) (paired_image side [] (1 ∷ rest)) (known.prefix 0) all.1.0,
        hands_all (CountsNone newer older) _ (made_steps (other_side side) bytes (0 ∷ rest) [])
            (making_alone (CountsNone newer older) side bytes rest (none_where_dead newer older side) (made_none newer older side bytes known.empty)),
      ),
    )

steps_are : (newer older : ℕ) (side : Side) (bytes one rest : List ℕ) (disk : DiskState) → Empties newer older disk side bytes one rest → emptying (other_side side) side bytes disk ≡ emptying_steps side bytes one rest
steps_are newer older side bytes one rest disk known = ap (emptying (other_side side) side bytes) known.settled_so ∙ emptying_is side bytes one rest

-- At any moment an image holds what counted before, or nothing counts.
pub emptying_moments : (newer older : ℕ) (side : Side) (bytes one rest : List ℕ) (old new : Moments) → Empties newer older old.now side bytes one rest → Went (emptying (other_side side) side bytes old.now) old new → AtAnyMoment old new (CountsSameOrNone newer older (reads_of old.now))
emptying_moments newer older side bytes one rest old new known went =
    let P = CountsSameOrNone newer older (reads_of old.now) in
    let before : EachImage P (states side (settled one) (settled (1 ∷ rest))) = each_of_one P side (settled one) (1 ∷ rest) (λ left is.
    subst (λ (l : List ℕ). P (paired side l (1 ∷ rest))) (sym (settled_only one left is)) (inl (same_now newer older old.now side bytes one rest known))) in
    went_moments (emptying (other_side side) side bytes old.now) old new P went (subst (EachImage P) (sym known.settled_so) before)
    (subst (AllByRecursion (λ (step : Step). EachImage P step.during)) (sym (steps_are newer older side bytes one rest old.now known)) (emptying_leaves newer older old.now side bytes one rest known))

-- Once nothing counts in any image, nothing does.
pub emptying_loses : (newer older : ℕ) (side : Side) (bytes one rest : List ℕ) (old new : Moments) → Empties newer older old.now side bytes one rest → Went (emptying (other_side side) side bytes old.now) old new → NeverLoses old new (CountsNone newer older)
emptying_loses newer older side bytes one rest old new known went =
    let P = CountsNone newer older in
    let there : HandsOn P old.now (emptying_steps side bytes one rest) = subst (λ (d : DiskState). HandsOn P d (emptying_steps side bytes one rest)) (sym known.settled_so) (emptying_hands newer older old.now side bytes one rest known) in
    went_loses (emptying (other_side side) side bytes old.now) old new P went (subst (HandsOn P old.now) (sym (steps_are newer older side bytes one rest old.now known)) there)

-- what the disk is after the last step
emptied_disk : (newer older : ℕ) (side : Side) (bytes one rest : List ℕ) (old new : DiskState) → Empties newer older old side bytes one rest → new ≡ last_moment old (emptying (other_side side) side bytes old) → new ≡ settled_disk (with_side (other_side side) (1 ∷ bytes) (paired (other_side side) [] []))
unfolding last_moment
emptied_disk newer older side bytes one rest old new known made =
    let live = other_side side in
    made ∙ ap (last_moment old) (steps_are newer older side bytes one rest old known)
    ∙ states_settled live (1 ∷ bytes) []
    ∙ ap (λ (l : List ℕ). settled_disk (paired live (1 ∷ bytes) l)) (sym (paired_other live [] []))

-- then the journal of the made side is in step
pub emptied_in_step : (newer older : ℕ) (broken : Bool) (side : Side) (bytes one rest : List ℕ) (old new : DiskState) → Empties newer older old side bytes one rest → new ≡ last_moment old (emptying (other_side side) side bytes old) → IsInStep (fresh_journal newer broken (other_side side)) new
emptied_in_step newer older broken side bytes one rest old new known made =
    let live = other_side side in
    let dead : is_live newer (image_side (other_side live) (paired live [] [])) ≡ false = ap (is_live newer) (paired_other live [] []) ∙ none_dead newer in
    subst (IsInStep (fresh_journal newer broken live)) (sym (emptied_disk newer older side bytes one rest old new known made)) (fresh_in_step newer broken live (1 ∷ bytes) (paired live [] []) known.empty dead)

-- and there are no payloads
pub emptied_payloads : (newer older : ℕ) (side : Side) (bytes one rest : List ℕ) (old new : DiskState) → Empties newer older old side bytes one rest → new ≡ last_moment old (emptying (other_side side) side bytes old) → payloads newer (reads_of new) ≡ []
emptied_payloads newer older side bytes one rest old new known made =
    let live = other_side side in
    let dead : is_live newer (image_side (other_side live) (paired live [] [])) ≡ false = ap (is_live newer) (paired_other live [] []) ∙ none_dead newer in
    ap (λ (d : DiskState). payloads newer (reads_of d)) (emptied_disk newer older side bytes one rest old new known made)
    ∙ empty_payloads newer live (1 ∷ bytes) (paired live [] []) known.empty dead
