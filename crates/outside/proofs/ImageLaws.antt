-- What each call of a disk keeps: what reads give is an image, and images lie within those of the begun call.
use Rattle.std.proofs.Common.{◌≡◌, ℕ, ◌+◌, ◌-◌, ◌<◌, ◌≤◌, ◌^◌, max, Bool, true, false, cond, List, ◌++◌, length, get_or, take, drop, refl, sym, ap, subst, ◌∙◌, arith, inl, inr, length-append, length-drop}
use Rattle.std.specs.Prelude.{◌⊎◌, ◌&&◌, nat_le, nat_lt}
use Rattle.std.proofs.lemmas.Bool.{or_parts}
use Rattle.std.proofs.lemmas.Bool.Decides.{nat_tests}
use Rattle.std.proofs.lemmas.Grind.{same_number_lists}
use Rattle.std.proofs.lemmas.List.{length-take, length-take-le, get_or-take, get_or-drop, get_or_append_left, get_or-append_right}
use Rattle.outside.specs.Disks.{Image, IsDurable, settled_disk, SideState, IsSideImage, IsSoundSide, overwritten, touching, written, cutting, shortened, settled, synced}

pub length-overwritten : (at : ℕ) (bytes old : List ℕ) → at ≤ length old → length (overwritten at bytes old) ≡ max (length old) (at + length bytes)
length-overwritten at bytes old within = simp (length-append, length-take, length-drop) (omega arith)

-- a position that a write doesn't reach is before it or after it
pub outside : (at count k : ℕ) → (nat_le at k && nat_lt k (at + count)) ≡ false → (k < at) ⊎ (at + count ≤ k)
outside at count k out = grind (arith, nat_tests)

-- before its range a write changes nothing
pub overwritten_before : (at : ℕ) (bytes old : List ℕ) (k : ℕ) → at ≤ length old → k < at → get_or (overwritten at bytes old) k 0 ≡ get_or old k 0
overwritten_before at bytes old k within before =
    let prefix : length (take at old) ≡ at = length-take-le at old within in
    get_or_append_left (take at old) (bytes ++ drop (at + length bytes) old) 0 k (omega arith) ∙ get_or-take at old k 0 before

-- nor does it after its range
pub overwritten_after : (at : ℕ) (bytes old : List ℕ) (k : ℕ) → at ≤ length old → at + length bytes ≤ k → get_or (overwritten at bytes old) k 0 ≡ get_or old k 0
overwritten_after at bytes old k within after =
    let position : at + length bytes + (k - at - length bytes) ≡ k = omega arith in
    get_or-append_right (take at old) (bytes ++ drop (at + length bytes) old) at k 0 (length-take-le at old within) (omega arith)
    ∙ get_or-append_right bytes (drop (at + length bytes) old) (length bytes) (k - at) 0 refl (omega arith)
    ∙ get_or-drop (at + length bytes) old (k - at - length bytes) 0
    ∙ ap (λ (i : ℕ). get_or old i 0) position

-- inside a write what reads gave is an image
pub touching_sound : (at count : ℕ) (side : SideState) → at + count < 2 ^ 63 → IsSoundSide side → IsSoundSide (touching at count side)
touching_sound at count side fits sound = record {
  image = record {
    no_shorter = sound.image.no_shorter;
    no_longer = omega (arith, sound.image.no_longer);
    kept = λ k below there out. sound.image.kept k below there (or_parts _ _ out).1;
  };
  short = omega (arith, sound.short);
}

-- after a write what reads give is an image
pub written_sound : (at : ℕ) (bytes : List ℕ) (side : SideState) → at ≤ length side.reads → at + length bytes < 2 ^ 63 → IsSoundSide side → IsSoundSide (written at bytes side)
written_sound at bytes side within fits sound =
    let size = length-overwritten at bytes side.reads within in
    record {
      image = record {
        no_shorter = omega (arith, size, sound.image.no_shorter);
        no_longer = omega (arith, size, sound.image.no_longer);
        kept = λ k below there out.
            let parts = or_parts _ _ out in
            elim (outside at (length bytes) k parts.0) [
              | inl before ↦ overwritten_before at bytes side.reads k within before ∙ sound.image.kept k (omega arith) there parts.1
              | inr after ↦ overwritten_after at bytes side.reads k within after ∙ sound.image.kept k (omega (arith, size)) there parts.1
            ];
      };
      short = omega (arith, sound.short);
    }

pub cutting_sound : (side : SideState) → IsSoundSide side → IsSoundSide (cutting side)
cutting_sound side sound = record {
  image = record {
    no_shorter = omega (arith, sound.image.no_shorter);
    no_longer = sound.image.no_longer;
    kept = sound.image.kept;
  };
  short = sound.short;
}

-- after a cut what reads give is an image
pub shortened_sound : (side : SideState) → IsSoundSide side → IsSoundSide (shortened side)
shortened_sound side sound = record {
  image = record {
    no_shorter = omega arith;
    no_longer = omega arith;
    kept = λ k below there out. omega (arith, below);
  };
  short = sound.short;
}

-- bytes alone are an image
pub settled_sound : (bytes : List ℕ) → length bytes < 2 ^ 63 → IsSoundSide (settled bytes)
settled_sound bytes short = record {
  image = record { no_shorter = omega arith; no_longer = omega arith; kept = λ k below there out. refl };
  short = short;
}

-- an image before a write is one inside it
pub within_touching : (at count : ℕ) (side : SideState) (bytes : List ℕ) → IsSideImage side bytes → IsSideImage (touching at count side) bytes
within_touching at count side bytes image = record {
  no_shorter = image.no_shorter;
  no_longer = omega (arith, image.no_longer);
  kept = λ k below there out. image.kept k below there (or_parts _ _ out).1;
}

either_is_unchanged : (test : Bool) (more side : SideState) (image : List ℕ) → (IsSideImage side image → IsSideImage more image) → IsSideImage side image → IsSideImage (cond test more side) image
either_is_unchanged true more side image within is = within is
either_is_unchanged false more side image within is = is

-- inside a write there are the images from after it
pub within_written : (at : ℕ) (bytes : List ℕ) (side : SideState) (image : List ℕ) → IsSideImage (written at bytes side) image → IsSideImage (touching at (length bytes) side) image
within_written at bytes side image is = record { no_shorter = is.no_shorter; no_longer = is.no_longer; kept = is.kept }

-- an image before a cut is one inside it
pub within_cutting : (side : SideState) (bytes : List ℕ) → IsSideImage side bytes → IsSideImage (cutting side) bytes
within_cutting side bytes image = record { no_shorter = omega (arith, image.no_shorter); no_longer = image.no_longer; kept = image.kept }

-- inside a cut there are the images from after it
pub within_shortened : (side : SideState) (image : List ℕ) → IsSideImage (shortened side) image → IsSideImage (cutting side) image
within_shortened side image is = record { no_shorter = is.no_shorter; no_longer = is.no_longer; kept = is.kept }

-- a side of bytes alone has no other image
pub settled_only : (bytes image : List ℕ) → IsSideImage (settled bytes) image → image ≡ bytes
settled_only bytes image is = same_number_lists image bytes (omega (arith, is.no_shorter, is.no_longer)) (λ k below. is.kept k below (omega (arith, is.no_longer)) refl)

-- the image after a sync was one before it
pub within_synced : (side : SideState) (image : List ℕ) → IsSoundSide side → IsSideImage (synced side) image → IsSideImage side image
within_synced side image sound is = subst (IsSideImage side) (sym (settled_only side.reads image is)) sound.image

-- a disk of bytes alone has no other image
pub settled_disk_only : (bytes : Image) → IsDurable (settled_disk bytes)
settled_disk_only bytes image is =
    let a : image.a ≡ bytes.a = settled_only bytes.a image.a is.a in
    let b : image.b ≡ bytes.b = settled_only bytes.b image.b is.b in
    λ i. record { a = a i; b = b i }
