-- What a text has from an offset on.
use Rattle.std.proofs.Common.{◌≡◌, ℕ, ◌+◌, ◌-◌, List, [], ◌++◌, length, take, drop, slice_index, refl, sym, ap, ◌∙◌, arith, append_assoc, length-append}
use Rattle.std.specs.Prelude.{slice_range}
use Rattle.std.proofs.lemmas.List.{get_or-append-add}
use Rattle.std.proofs.Math.Seq.{drop-append_seam, take-append_seam}

-- these bytes are those from an offset of a text on
pub record IsRest (text : List ℕ) (at : ℕ) (rest : List ℕ) : Type 0 where
  pub before : List ℕ
  pub whole : text ≡ before ++ rest
  pub offset : at ≡ length before

pub rest_start : (text : List ℕ) → IsRest text 0 text
rest_start text = record { before = []; whole = refl; offset = refl }

pub rest_after : (text : List ℕ) (at : ℕ) (bytes rest : List ℕ) → IsRest text at (bytes ++ rest) → IsRest text (at + length bytes) rest
rest_after text at bytes rest is = record {
  before = is.before ++ bytes;
  whole = is.whole ∙ sym (append_assoc is.before bytes rest);
  offset = let sum : length (is.before ++ bytes) ≡ length is.before + length bytes = length-append is.before bytes in omega (arith, sum, is.offset);
}

pub rest_byte : (text : List ℕ) (at : ℕ) (rest : List ℕ) → IsRest text at rest → (i : ℕ) → slice_index text (at + i) ≡ slice_index rest i
rest_byte text at rest is i =
    ap (λ (t : List ℕ). slice_index t (at + i)) is.whole
    ∙ ap (λ (n : ℕ). slice_index (is.before ++ rest) (n + i)) is.offset
    ∙ get_or-append-add is.before rest i 0

pub rest_size : (text : List ℕ) (at : ℕ) (rest : List ℕ) → IsRest text at rest → length text ≡ at + length rest
rest_size text at rest is =
    let sum : length (is.before ++ rest) ≡ length is.before + length rest = length-append is.before rest in
    let whole : length text ≡ length (is.before ++ rest) = ap (λ (t : List ℕ). length t) is.whole in
    omega (arith, sum, whole, is.offset)

-- the bytes from there up to where others begin
pub rest_range : (text : List ℕ) (at : ℕ) (bytes rest : List ℕ) → IsRest text at (bytes ++ rest) → slice_range text at (at + length bytes) ≡ bytes
rest_range text at bytes rest is =
    let less : (at + length bytes) - at ≡ length bytes = omega arith in
    ap (λ (n : ℕ). take n (drop at text)) less
    ∙ ap (λ (t : List ℕ). take (length bytes) (drop at t)) is.whole
    ∙ ap (λ (n : ℕ). take (length bytes) (drop n (is.before ++ (bytes ++ rest)))) is.offset
    ∙ ap (take (length bytes)) (drop-append_seam is.before (bytes ++ rest))
    ∙ take-append_seam bytes rest
