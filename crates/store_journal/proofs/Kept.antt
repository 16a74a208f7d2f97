-- What stays where a side keeps its header.
use Rattle.std.proofs.Common.{◌≡◌, ℕ, ◌≤◌, true, List, length, take, drop, Some, refl, sym, ap, ◌∙◌, arith}
use Rattle.std.specs.Prelude.{nat_le}
use Rattle.std.specs.Int.{w64, from_le_bytes}
use Rattle.std.proofs.lemmas.Bool.{and_parts}
use Rattle.std.proofs.lemmas.Bool.Decides.{nat_tests}
use Rattle.std.proofs.lemmas.List.{drop-take, take-take}
use Rattle.outside.specs.declared.disk.Side.{Side}
use Rattle.outside.specs.declared.disk.Side.TheVariants.{A, B}
use Rattle.outside.specs.Disks.{Image, image_side}
use Rattle.store_journal.specs.Payloads.{counting, generation_of, is_live, payloads, payloads_in}
use Rattle.store_journal.specs.Journals.{other_side}

-- a live side has a first commit byte
pub live_long : (form : ℕ) (bytes : List ℕ) → is_live form bytes ≡ true → 19 ≤ length bytes
unfolding is_live
live_long form bytes live =
    let long : nat_le 19 (length bytes) ≡ true = (and_parts _ _ live).0 in
    grind (arith, nat_tests)

-- the same header, and a commit byte after it
pub record SameHeader (old new : List ℕ) : Type 0 where
  pub there : 19 ≤ length old
  pub stays : 19 ≤ length new
  pub same : take 18 new ≡ take 18 old

pub live_still : (form : ℕ) (old new : List ℕ) → SameHeader old new → is_live form new ≡ is_live form old
unfolding is_live
live_still form old new header =
    let ten : take 10 new ≡ take 10 old = sym (take-take 10 18 new (omega arith)) ∙ ap (take 10) header.same ∙ take-take 10 18 old (omega arith) in
    let long-new : nat_le 19 (length new) ≡ true = grind (arith, nat_tests, header.stays) in
    let long-old : nat_le 19 (length old) ≡ true = grind (arith, nat_tests, header.there) in
    rw (long-new, long-old, ten) refl

pub generation_still : (old new : List ℕ) → SameHeader old new → generation_of new ≡ generation_of old
unfolding generation_of
generation_still old new header =
    let eight : take 8 (drop 10 new) ≡ take 8 (drop 10 old) = sym (drop-take 10 8 new) ∙ ap (drop 10) header.same ∙ drop-take 10 8 old in
    ap (from_le_bytes w64) eight

-- the side that counts is the same where the other side stands and this one keeps its header
pub counting_still : (form : ℕ) (side : Side) (old new : Image) → SameHeader (image_side side old) (image_side side new) → image_side (other_side side) new ≡ image_side (other_side side) old → counting form new ≡ counting form old
unfolding counting
counting_still form A old new header other = rw (live_still form old.a new.a header, generation_still old.a new.a header, other) refl
counting_still form B old new header other = rw (live_still form old.b new.b header, generation_still old.b new.b header, other) refl

-- the payloads of an image are those of its side that counts
pub payloads_of_side : (form : ℕ) (side : Side) (image : Image) → counting form image ≡ Some side → payloads form image ≡ payloads_in (image_side side image)
unfolding payloads
payloads_of_side form side image counts = rw counts refl
