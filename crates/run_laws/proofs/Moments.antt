-- What holds of all moments of a run, at one of them, at the last, and on the disk that a stop leaves.
use Rattle.std.proofs.Common.{ℕ, List, [], ◌∷◌, ◌++◌, refl, sym, subst, arith}
use Rattle.std.specs.List.{AllByRecursion}
use Rattle.outside.specs.Disks.{DiskState, Image, IsImage, IsSideImage, EachImage, settled, settled_disk}
use Rattle.outside.proofs.ImageLaws.{settled_disk_only}
use Rattle.run_spec.specs.Histories.{IsReadable, IsLeft, IsMoment}

pub all_at : (Q : DiskState → Type 0) (before after : List DiskState) (state : DiskState) → AllByRecursion Q (before ++ state ∷ after) → Q state
all_at Q [] after state all = all.0
all_at Q (first ∷ before) after state all = all_at Q before after state all.1

-- at a moment
pub at_moment : (Q : DiskState → Type 0) (moment first : DiskState) (later : List DiskState) → IsMoment moment first later → AllByRecursion Q (first ∷ later) → Q moment
at_moment Q moment first later is all = all_at Q is.before is.after moment (subst (AllByRecursion Q) is.parts all)

-- on the disk that is left
pub on_left : (P : Image → Type 0) (moment disk : DiskState) → IsLeft moment disk → EachImage P moment → EachImage P disk
on_left P moment disk left each = λ image is. each image (left.within image is)

-- a kill leaves the moment
pub left_by_kill : (moment : DiskState) → IsReadable moment → IsLeft moment moment
left_by_kill moment readable = record { within = λ image is. is; readable = readable }

own_image : (bytes : List ℕ) → IsSideImage (settled bytes) bytes
own_image bytes = record { no_shorter = omega arith; no_longer = omega arith; kept = λ k below there out. refl }

-- a loss of power leaves one image
pub left_by_power : (moment : DiskState) (image : Image) → IsImage moment image → IsLeft moment (settled_disk image)
left_by_power moment image is = record {
  within = λ other there. subst (IsImage moment) (sym (settled_disk_only image other there)) is;
  readable = record { a = own_image image.a; b = own_image image.b };
}
