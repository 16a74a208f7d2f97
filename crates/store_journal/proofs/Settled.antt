-- The one image of a disk of bytes alone.
use Rattle.std.proofs.Common.{refl, sym, subst, arith}
use Rattle.outside.specs.Disks.{EachImage, Image, IsImage, settled_disk}
use Rattle.outside.proofs.ImageLaws.{settled_disk_only}

-- the settled disk of an image has that image only: a property of the image holds for each image of the disk
pub settled_each : (P : Image → Type 0) (image : Image) → P image → EachImage P (settled_disk image)
settled_each P image has other is = subst P (sym (settled_disk_only image other is)) has

-- it is an image
pub settled_image : (image : Image) → IsImage (settled_disk image) image
settled_image image = record {
  a = record { no_shorter = omega arith; no_longer = omega arith; kept = λ k below there out. refl };
  b = record { no_shorter = omega arith; no_longer = omega arith; kept = λ k below there out. refl };
}
