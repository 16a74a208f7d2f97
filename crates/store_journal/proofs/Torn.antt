-- What a torn write leaves.
use Rattle.std.proofs.Common.{◌≡◌, ℕ, ◌+◌, ◌<◌, ◌≤◌, ◌^◌, max, Bool, true, false, cond, List, length, get_or, take, drop, inl, inr, refl, sym, ◌∙◌, arith, length-drop}
use Rattle.std.specs.Prelude.{◌⊎◌, ◌&&◌, ◌||◌, nat_le, nat_lt}
use Rattle.std.proofs.lemmas.Bool.Decides.{nat_tests}
use Rattle.std.proofs.lemmas.Grind.{same_number_lists}
use Rattle.std.proofs.lemmas.List.{length-take-le, get_or-take, get_or-drop}
use Rattle.outside.specs.declared.disk.Side.{Side}
use Rattle.outside.specs.declared.disk.Side.TheVariants.{A, B}
use Rattle.outside.specs.Disks.{Image, IsImage, IsSideImage, image_side, on_side, overwritten, settled, settled_disk, touching, writing}
use Rattle.outside.proofs.ImageLaws.{length-overwritten, overwritten_before, overwritten_after, settled_only}
use Rattle.store_journal.specs.Journals.{other_side}

-- bytes that a write may leave when it is interrupted: no byte is lost, and bytes outside its range are unchanged
pub record IsTorn (at count : ℕ) (old new : List ℕ) : Type 0 where
  pub no_shorter : length old ≤ length new
  pub no_longer : length new ≤ max (length old) (at + count)
  pub before : (k : ℕ) → k < at → k < length old → get_or new k 0 ≡ get_or old k 0
  pub after : (k : ℕ) → at + count ≤ k → k < length old → get_or new k 0 ≡ get_or old k 0

untouched : (at count k : ℕ) → (k < at) ⊎ (at + count ≤ k) → ((nat_le at k && nat_lt k (at + count)) || false) ≡ false
untouched at count k out = grind (arith, nat_tests)

touching_torn : (at count : ℕ) (old new : List ℕ) → IsSideImage (touching at count (settled old)) new → IsTorn at count old new
touching_torn at count old new is = record {
  no_shorter = is.no_shorter;
  no_longer = is.no_longer;
  before = λ k early there. is.kept k (omega (arith, is.no_shorter)) there (untouched at count k (inl early));
  after = λ k late there. is.kept k (omega (arith, is.no_shorter)) there (untouched at count k (inr late));
}

settled_torn : (at count : ℕ) (old new : List ℕ) → IsSideImage (settled old) new → IsTorn at count old new
settled_torn at count old new is = record {
  no_shorter = is.no_shorter;
  no_longer = omega (arith, is.no_longer);
  before = λ k early there. is.kept k (omega (arith, is.no_shorter)) there refl;
  after = λ k late there. is.kept k (omega (arith, is.no_shorter)) there refl;
}

writing_torn : (test : Bool) (at count : ℕ) (old new : List ℕ) → IsSideImage (cond test (touching at count (settled old)) (settled old)) new → IsTorn at count old new
writing_torn true at count old new is = touching_torn at count old new is
writing_torn false at count old new is = settled_torn at count old new is

-- what a stop inside a write leaves of a side
pub side_torn : (at count : ℕ) (old new : List ℕ) → IsSideImage (writing at count (settled old)) new → IsTorn at count old new
side_torn at count old new is = writing_torn (nat_lt (at + count) (2 ^ 63)) at count old new is

-- and of both sides
pub record IsTornImage (side : Side) (at count : ℕ) (old new : Image) : Type 0 where
  pub torn : IsTorn at count (image_side side old) (image_side side new)
  pub other : image_side (other_side side) new ≡ image_side (other_side side) old

pub torn_image : (side : Side) (at count : ℕ) (old new : Image) → IsImage (on_side side (writing at count) (settled_disk old)) new → IsTornImage side at count old new
torn_image A at count old new is = record { torn = side_torn at count old.a new.a is.a; other = settled_only old.b new.b is.b }
torn_image B at count old new is = record { torn = side_torn at count old.b new.b is.b; other = settled_only old.a new.a is.a }

-- a write that ended lost nothing either
pub overwritten_torn : (at : ℕ) (bytes old : List ℕ) → at ≤ length old → IsTorn at (length bytes) old (overwritten at bytes old)
overwritten_torn at bytes old within =
    let size = length-overwritten at bytes old within in
    record {
      no_shorter = omega (arith, size);
      no_longer = omega (arith, size);
      before = λ k early there. overwritten_before at bytes old k within early;
      after = λ k late there. overwritten_after at bytes old k within late;
    }

-- what comes before a torn write is the same
pub torn_prefix : (n at count : ℕ) (old new : List ℕ) → IsTorn at count old new → n ≤ at → n ≤ length old → take n new ≡ take n old
torn_prefix n at count old new torn before there =
    let size-new : length (take n new) ≡ n = length-take-le n new (omega (arith, torn.no_shorter)) in
    let size-old : length (take n old) ≡ n = length-take-le n old there in
    same_number_lists (take n new) (take n old) (size-new ∙ sym size-old)
    (λ k below.
    let early : k < n = omega (arith, size-new) in
    get_or-take n new k 0 early ∙ torn.before k (omega arith) (omega arith) ∙ sym (get_or-take n old k 0 early))

-- what comes after a torn write that ends within the bytes is the same
pub torn_after : (n at count : ℕ) (old new : List ℕ) → IsTorn at count old new → at + count ≤ n → n ≤ length old → drop n new ≡ drop n old
torn_after n at count old new torn after there =
    let size : length new ≡ length old = omega (arith, torn.no_shorter, torn.no_longer) in
    same_number_lists (drop n new) (drop n old) (omega (arith, length-drop n new, length-drop n old))
    (λ k below. get_or-drop n new k 0 ∙ torn.after (n + k) (omega arith) (omega (arith, length-drop n new)) ∙ sym (get_or-drop n old k 0))
