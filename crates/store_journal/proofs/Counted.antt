-- Which of two forms counts in an image, and what it counts for, where the sides are cut, dead, or made.
use Rattle.std.proofs.Common.{◌≡◌, ℕ, Bool, true, false, not, ◌&&◌, if◌then◌else◌, List, [], take, None, Some, inl, inr, refl, sym, ap, ◌∙◌}
use Rattle.std.specs.Prelude.{◌⊎◌}
use Rattle.outside.specs.declared.disk.Side.{Side}
use Rattle.outside.specs.Disks.{Image, image_side}
use Rattle.store_journal.specs.Forms.{CountsNone, CountsSame, found_form, has_form, older_counts}
use Rattle.store_journal.specs.Journals.{other_side}
use Rattle.store_journal.specs.Payloads.{counting, payloads}
use Rattle.store_journal.proofs.Changing.{IsDead}
use Rattle.store_journal.proofs.Counting.{counting_live, counting_none, dead_prefix, none_dead, paired, paired_again}
use Rattle.store_journal.proofs.Forms.{counts_no_form, no_form_counts, no_form_paired, no_form_payloads, other_has_form}
use Rattle.store_journal.proofs.Standing.{leaves_counted}
use Rattle.store_journal.proofs.Stays.{found_newer, newer_gone, older_live}

-- where the same form counts it is the form that is found
found_same : (newer older : ℕ) (before image : Image) → CountsSame newer older before image → found_form newer older image ≡ found_form newer older before
found_same newer older before image same = ap (λ (b : Bool). if b then older else newer) same.counts

-- if nothing counts in one image, nothing counts in an image that holds the same
pub none_as : (newer older : ℕ) (before image : Image) → CountsSame newer older before image → CountsNone newer older before → CountsNone newer older image
none_as newer older before image same none = ap (λ (f : ℕ). payloads f image) (found_same newer older before image same) ∙ same.same ∙ none

-- if nothing counts in an image that holds the same as another, nothing counts in that one
pub none_of : (newer older : ℕ) (before image : Image) → CountsSame newer older before image → CountsNone newer older image → CountsNone newer older before
none_of newer older before image same none = sym same.same ∙ sym (ap (λ (f : ℕ). payloads f image) (found_same newer older before image same)) ∙ none

-- where no side is live for any form, nothing counts
pub none_where_dead : (newer older : ℕ) (side : Side) (left : List ℕ) → IsDead left → CountsNone newer older (paired side [] left)
none_where_dead newer older side left dead =
    let form = found_form newer older (paired side [] left) in
    no_form_payloads form (paired side [] left) (no_form_paired form side [] left (none_dead form) (dead form))

-- if the newer form is live without payloads, nothing counts
pub none_where_live : (newer older : ℕ) (image : Image) → has_form newer image ≡ true → payloads newer image ≡ [] → CountsNone newer older image
none_where_live newer older image live none =
    ap (λ (f : ℕ). payloads f image) (found_newer newer older image (ap (λ (b : Bool). not b && has_form older image) live)) ∙ none

not_counted : (live : Bool) → (not live && false) ≡ false
not_counted true = refl
not_counted false = refl

same_found : (test : Bool) (newer older : ℕ) → older ≡ newer → (if test then older else newer) ≡ newer
same_found true newer older same = same
same_found false newer older same = refl

-- nothing counts either if the newer form has no payloads and the older form isn't live or is the same form
pub none_where_apart : (newer older : ℕ) (image : Image) → payloads newer image ≡ [] → (older ≡ newer) ⊎ (has_form older image ≡ false) → CountsNone newer older image
none_where_apart newer older image none (inl same) = ap (λ (f : ℕ). payloads f image) (same_found (older_counts newer older image) newer older same) ∙ none
none_where_apart newer older image none (inr gone) =
    ap (λ (f : ℕ). payloads f image) (found_newer newer older image (ap (λ (b : Bool). not (has_form newer image) && b) gone ∙ not_counted (has_form newer image))) ∙ none

-- the same form counts where the side that doesn't is cut,
cut_still : (newer older : ℕ) (side : Side) (image : Image) (k : ℕ) (is_older : Bool) → older_counts newer older image ≡ is_older → counting (if is_older then older else newer) image ≡ Some (other_side side)
    → older_counts newer older (paired side (take k (image_side side image)) (image_side (other_side side) image)) ≡ is_older
cut_still newer older side image k true is counts =
    let one = image_side side image in
    let other = image_side (other_side side) image in
    let dead = counting_none newer side one other (ap (counting newer) (sym (paired_again side image)) ∙ no_form_counts newer image (newer_gone newer older image is)) in
    let gone : has_form newer (paired side (take k one) other) ≡ false = no_form_paired newer side (take k one) other (dead_prefix newer k one dead.0) dead.1 in
    let live : has_form older (paired side (take k one) other) ≡ true = other_has_form older side (take k one) other (counting_live older image (other_side side) counts) in
    rw (gone, live) refl
cut_still newer older side image k false is counts =
    let one = image_side side image in
    let other = image_side (other_side side) image in
    let live : has_form newer (paired side (take k one) other) ≡ true = other_has_form newer side (take k one) other (counting_live newer image (other_side side) counts) in
    rw live refl

-- with the same payloads
pub cut_same : (newer older : ℕ) (side : Side) (image : Image) → counting (found_form newer older image) image ≡ Some (other_side side) → (k : ℕ) → CountsSame newer older image (paired side (take k (image_side side image)) (image_side (other_side side) image))
cut_same newer older side image counts k = record {
  counts = cut_still newer older side image k (older_counts newer older image) refl counts;
  same = (leaves_counted (found_form newer older image) side image counts).prefix k;
}

-- where no side counts for the form that is found, neither form is live
neither_if : (newer older : ℕ) (image : Image) (is_older : Bool) → older_counts newer older image ≡ is_older → counting (if is_older then older else newer) image ≡ None → (has_form newer image ≡ false) × (has_form older image ≡ false)
neither_if newer older image true is none =
    let gone : has_form older image ≡ false = counts_no_form older image none in
    let live : has_form older image ≡ true = older_live newer older image is in
    let nothing : ⊥ = cc (gone, live) in
    absurd nothing
neither_if newer older image false is none =
    let gone : has_form newer image ≡ false = counts_no_form newer image none in
    (gone, sym (ap (λ (b : Bool). not b && has_form older image) gone) ∙ is)

pub neither_live : (newer older : ℕ) (image : Image) → counting (found_form newer older image) image ≡ None → (has_form newer image ≡ false) × (has_form older image ≡ false)
neither_live newer older image none = neither_if newer older image (older_counts newer older image) refl none

-- a value computed from the payloads of the form that counts is the same for images that hold the same
value_if : {T : Type 0} (from_older from_newer : List (List ℕ) → T) (newer older : ℕ) (before image : Image) (now was : Bool) → now ≡ was → payloads (if was then older else newer) image ≡ payloads (if was then older else newer) before
    → (if now then from_older (payloads older image) else from_newer (payloads newer image)) ≡ (if was then from_older (payloads older before) else from_newer (payloads newer before))
value_if from_older from_newer newer older before image true true is same = ap from_older same
value_if from_older from_newer newer older before image true false is same = absurd cc
value_if from_older from_newer newer older before image false true is same = absurd cc
value_if from_older from_newer newer older before image false false is same = ap from_newer same

pub same_value : {T : Type 0} (from_older from_newer : List (List ℕ) → T) (newer older : ℕ) (before image : Image) → CountsSame newer older before image
    → (if older_counts newer older image then from_older (payloads older image) else from_newer (payloads newer image)) ≡ (if older_counts newer older before then from_older (payloads older before) else from_newer (payloads newer before))
same_value from_older from_newer newer older before image same = value_if from_older from_newer newer older before image (older_counts newer older image) (older_counts newer older before) same.counts same.same

-- if the form that counts has no payloads, the value is the one for no payloads
none_if : {T : Type 0} (from_older from_newer : List (List ℕ) → T) (none : T) (newer older : ℕ) (image : Image) (test : Bool) → from_older [] ≡ none → from_newer [] ≡ none → payloads (if test then older else newer) image ≡ []
    → (if test then from_older (payloads older image) else from_newer (payloads newer image)) ≡ none
none_if from_older from_newer none newer older image true one two is = ap from_older is ∙ one
none_if from_older from_newer none newer older image false one two is = ap from_newer is ∙ two

pub none_value : {T : Type 0} (from_older from_newer : List (List ℕ) → T) (none : T) (newer older : ℕ) (image : Image) → from_older [] ≡ none → from_newer [] ≡ none → CountsNone newer older image
    → (if older_counts newer older image then from_older (payloads older image) else from_newer (payloads newer image)) ≡ none
none_value from_older from_newer none newer older image one two is = none_if from_older from_newer none newer older image (older_counts newer older image) one two is
