-- Bytes without those of a range.
use Rattle.std.proofs.Common.{◌≡◌, ℕ, ◌+◌, ◌-◌, ◌≤◌, List, ◌++◌, length, take, drop, sym, ap, ◌∙◌, arith}
use Rattle.std.proofs.Math.Seq.{drop-append-add}
use Rattle.std.proofs.lemmas.List.{drop-append-le, drop-drop, drop_at, length-drop, length-take-le, take-append-drop, take-append-le, take_at}
use Rattle.base_bytes.specs.declared.ranges.ByteRange.{ByteRange}
use Rattle.base_bytes.specs.Ranges.{range_end, ranged}
use Rattle.store_table.specs.Cuts.{IsWithout}

-- a range of the first of two parts
ranged_first : (xs ys : List ℕ) (range : ByteRange) → range_end range ≤ length xs → ranged (xs ++ ys) range ≡ ranged xs range
ranged_first xs ys range within =
    let from : range.start ≤ length xs = omega (arith, within) in
    let left : range.count ≤ length (drop range.start xs) = omega (arith, within, length-drop range.start xs) in
    ap (take range.count) (drop-append-le range.start xs ys from) ∙ take-append-le range.count (drop range.start xs) ys left

module _ (bytes rest : List ℕ) (cut : ByteRange) (is : IsWithout bytes cut rest) where
  first : length (take cut.start bytes) ≡ cut.start
  first = length-take-le cut.start bytes (omega (arith, is.within))

  -- what is before the cut is where it was
  pub before_cut : (range : ByteRange) → range_end range ≤ cut.start → ranged rest range ≡ ranged bytes range
  before_cut range low =
      let within : range_end range ≤ length (take cut.start bytes) = omega (arith, low, first) in
      ap (λ (bs : List ℕ). ranged bs range) is.is
      ∙ ranged_first (take cut.start bytes) (drop (range_end cut) bytes) range within
      ∙ sym (ranged_first (take cut.start bytes) (drop cut.start bytes) range within)
      ∙ ap (λ (bs : List ℕ). ranged bs range) (take-append-drop cut.start bytes)

  -- what is after it is nearer by its length
  pub after_cut : (start : ℕ) → range_end cut ≤ start → drop (start - cut.count) rest ≡ drop start bytes
  after_cut start high =
      let more : ℕ = start - range_end cut in
      let here : start - cut.count ≡ length (take cut.start bytes) + (start - range_end cut) = omega (arith, high, first) in
      let there : range_end cut + (start - range_end cut) ≡ start = omega (arith, high) in
      ap (λ (n : ℕ). drop n rest) here
      ∙ ap (drop (length (take cut.start bytes) + (start - range_end cut))) is.is
      ∙ drop-append-add (take cut.start bytes) (drop (range_end cut) bytes) (start - range_end cut)
      ∙ drop-drop (start - range_end cut) (range_end cut) bytes
      ∙ ap (λ (n : ℕ). drop n bytes) there

  -- with what was cut it is whole
  pub whole_again : bytes ≡ take cut.start rest ++ (ranged bytes cut ++ drop cut.start rest)
  whole_again =
      let front : take cut.start rest ≡ take cut.start bytes = ap (take cut.start) is.is ∙ take_at (take cut.start bytes) (drop (range_end cut) bytes) cut.start first in
      let back : drop cut.start rest ≡ drop cut.count (drop cut.start bytes) = ap (drop cut.start) is.is ∙ drop_at (take cut.start bytes) (drop (range_end cut) bytes) cut.start first ∙ sym (drop-drop cut.count cut.start bytes) in
      sym (
      ap (λ (f : List ℕ). f ++ (ranged bytes cut ++ drop cut.start rest)) front
      ∙ ap (λ (b : List ℕ). take cut.start bytes ++ (ranged bytes cut ++ b)) back
      ∙ ap (λ (b : List ℕ). take cut.start bytes ++ b) (take-append-drop cut.count (drop cut.start bytes))
      ∙ take-append-drop cut.start bytes
      )
