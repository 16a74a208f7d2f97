-- Equivalent properties of the images of a run, properties that a run never loses, and what reads give at its moments.
use Rattle.std.proofs.Common.{List, [], ◌∷◌, ◌++◌}
use Rattle.std.specs.List.{AllByRecursion}
use Rattle.outside.specs.Disks.{AreSound, AtAnyMoment, DiskState, EachImage, Image, IsImage, IsSound, Moments, NeverLoses, StaysTrue, added_since, reads_of}

keeps_as : (Q P R : Image → Type 0) → ((image : Image) → Q image → R image → P image) → ((image : Image) → Q image → P image → R image) → (disk : DiskState) (states : List DiskState) → AllByRecursion (EachImage Q) (disk ∷ states) → StaysTrue P disk states → StaysTrue R disk states
keeps_as Q P R to from disk [] all keeps = tt
keeps_as Q P R to from disk (next ∷ later) all keeps =
    ((λ each image is. from image (all.1.0 image is) (keeps.0 (λ other there. to other (all.0 other there) (each other there)) image is)), keeps_as Q P R to from next later all.1 keeps.1)

-- if two properties are equivalent for all images of a run, a run that never loses one never loses the other
pub losses_as : (old new : Moments) (Q P R : Image → Type 0) → ((image : Image) → Q image → R image → P image) → ((image : Image) → Q image → P image → R image) → AtAnyMoment old new Q → NeverLoses old new P → NeverLoses old new R
losses_as old new Q P R to from moments never = record { follows = never.follows; keeps = keeps_as Q P R to from old.now (added_since old new) moments.each never.keeps }

always_keeps : (P : Image → Type 0) (disk : DiskState) (states : List DiskState) → AllByRecursion (EachImage P) states → StaysTrue P disk states
always_keeps P disk [] all = tt
always_keeps P disk (next ∷ later) all = ((λ each. all.0), always_keeps P next later all.1)

-- what each image of each moment has is never lost
pub always_had : (old new : Moments) (P : Image → Type 0) → AtAnyMoment old new P → NeverLoses old new P
always_had old new P moments = record { follows = moments.follows; keeps = always_keeps P old.now (added_since old new) moments.each.1 }

-- what reads give is an image of each sound moment
last_of : (P : DiskState → Type 0) (states : List DiskState) (last : DiskState) → AllByRecursion P (states ++ last ∷ []) → P last
last_of P [] last all = all.0
last_of P (first ∷ rest) last all = last_of P rest last all.1

pub reads_image : (moments : Moments) → AreSound moments → IsImage moments.now (reads_of moments.now)
reads_image moments sound = (let now = last_of IsSound moments.past moments.now sound in record { a = now.a.image; b = now.b.image })
