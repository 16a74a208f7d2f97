-- What single patterns match, and what is chosen with one more.
use Rattle.std.proofs.Common.{◌≡◌, ℕ, Bool, true, false, ◌||◌, ◌&&◌, List, [], ◌∷◌, map, refl, sym, ◌∙◌, ap}
use Rattle.std.specs.Prelude.{◌==◌}
use Rattle.std.proofs.lemmas.Bool.Decides.{same_from_decides}
use Rattle.std.proofs.lemmas.Slice.Eq.{bytes_eq-Decides}
use Rattle.std.specs.List.{list_any}
use Rattle.std.specs.Str.{bytes_eq}
use Rattle.testbench_select.specs.declared.pattern.PatternPart.TheVariants.{AnyBytes, Byte}
use Rattle.testbench_select.specs.Fits.{fits_pattern_parts, ends_of}
use Rattle.testbench_select.specs.Segments.{is_any_bytes, is_match, is_right}

-- after all of a name nothing is left
ends_with_nothing : (name : List ℕ) → list_any (fits_pattern_parts is_any_bytes is_right []) (ends_of name) ≡ true
unfolding fits_pattern_parts
ends_with_nothing [] = refl
ends_with_nothing (byte ∷ bytes) = ends_with_nothing bytes

pub all_match : (name : List ℕ) → is_match (AnyBytes ∷ []) name ≡ true
unfolding fits_pattern_parts
all_match name = ends_with_nothing name

byte_by_byte : (bytes name : List ℕ) → is_match (map Byte bytes) name ≡ bytes_eq bytes name
unfolding fits_pattern_parts
byte_by_byte [] [] = refl
byte_by_byte [] (byte ∷ name) = refl
byte_by_byte (byte ∷ bytes) [] = refl
byte_by_byte (byte ∷ bytes) (other ∷ name) = ap (λ (rest : Bool). (byte == other) && rest) (byte_by_byte bytes name)

pub plain_matches : (bytes name : List ℕ) → is_match (map Byte bytes) name ≡ bytes_eq name bytes
plain_matches bytes name =
    let back = bytes_eq-Decides name bytes in
    byte_by_byte bytes name ∙ same_from_decides (bytes_eq bytes name) (bytes_eq name bytes) (bytes_eq-Decides bytes name) (λ told. sym (back.0 told), λ same. back.1 (sym same))

-- one that matches is added
pub all_more : (before more : Bool) → more ≡ true → true ≡ (before || more)
all_more true more is = refl
all_more false more is = sym is

-- a name is added
pub name_more : (all plain others added is matched : Bool) → added ≡ (plain || is) → matched ≡ is → (all || (added || others)) ≡ ((all || (plain || others)) || matched)
name_more all plain others added is matched adds same = rw (adds, same) (by_cases all plain others is) where
  by_cases : (a p o i : Bool) → (a || ((p || i) || o)) ≡ ((a || (p || o)) || i)
  by_cases true p o i = refl
  by_cases false true o i = refl
  by_cases false false true true = refl
  by_cases false false true false = refl
  by_cases false false false true = refl
  by_cases false false false false = refl
