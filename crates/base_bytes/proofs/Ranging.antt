-- Texts and numbers that are read from an offset on.
use Rattle.std.proofs.Common.{◌≡◌, ℕ, ◌+◌, ◌-◌, ◌*◌, ◌<◌, ◌≤◌, nat_lt, List, [], ◌∷◌, ◌++◌, length, take, drop, None, Option, Some, refl, sym, ap, ◌∙◌, append_assoc, arith, length-append, length-drop}
use Rattle.std.specs.Int.{Width, byte_len, from_le_bytes, w32, w64}
use Rattle.std.proofs.lemmas.Bool.{ltb-false}
use Rattle.std.specs.Option.{option_map_or}
use Rattle.std.proofs.lemmas.Bool.Decides.{nat_tests}
use Rattle.std.proofs.lemmas.List.{drop-drop, drop_at, take_at}
use Rattle.base.specs.Bytes.{number_bytes, text_bytes}
use Rattle.base_bytes.specs.Reading.{AreBytes, counted_at, many_at, number_at, text_at}
use Rattle.base_bytes.proofs.Fields.{guard_some, text_takes}
use Rattle.base_bytes.proofs.Many.{begins, goes_on, is_done, stops, with_prefix}
use Rattle.base_bytes.specs.declared.ranges.ByteRange.{ByteRange}
use Rattle.base_bytes.proofs.LongNumbers.{counted_long, counted_short}
use Rattle.base_bytes.specs.Ranges.{long_numbers, IsReadAt, IsRangeAt, range_end, ranged}

-- reading a number at an offset leaves the bytes from the offset after it on
pub number_found : (w : Width) (bytes : List ℕ) (at n : ℕ) (left : List ℕ) (next : ℕ) → at ≤ length bytes → number_at w (drop at bytes) ≡ Some (n, left) → next ≡ at + byte_len w → (number_at w (drop at bytes) ≡ Some (n, drop next bytes)) × (at ≤ next) × (next ≤ length bytes)
number_found w bytes at n left next lt e next_is =
    let g = guard_some (nat_lt (length (drop at bytes)) (byte_len w)) (from_le_bytes w (take (byte_len w) (drop at bytes)), drop (byte_len w) (drop at bytes)) (n, left) e in
    let long : byte_len w ≤ length (drop at bytes) = grind (arith, nat_tests, g.0) in
    let rest : left ≡ drop next bytes = sym (ap (λ (r : ℕ × List ℕ). r.1) g.1) ∙ drop-drop (byte_len w) at bytes ∙ ap (λ (k : ℕ). drop k bytes) (sym next_is) in
    (e ∙ ap (λ (l : List ℕ). Some (n, l)) rest, omega (arith, next_is), omega (arith, next_is, long, length-drop at bytes, lt))

-- a text
pub text_found : (bytes text left : List ℕ) (at : ℕ) (range : ByteRange) → at ≤ length bytes → AreBytes (drop at bytes) → text_at (drop at bytes) ≡ Some (text, left) → range.start ≡ at + 4 → range.count ≡ length text → IsRangeAt at (ranged bytes) bytes (Some range) (text_at (drop at bytes))
unfolding text_bytes
text_found bytes text left at range lt fits e start count =
    let taken = text_takes (drop at bytes) text left fits e in
    let head : List ℕ = number_bytes (length text) in
    let parts : drop at bytes ≡ head ++ (text ++ left) = taken.0.parts ∙ append_assoc head text left in
    let after : drop (at + 4) bytes ≡ text ++ left = sym (drop-drop 4 at bytes) ∙ ap (drop 4) parts ∙ drop_at head (text ++ left) 4 refl in
    let sizes : length bytes - at ≡ 4 + (length text + length left) = sym (length-drop at bytes) ∙ ap length parts ∙ length-append head (text ++ left) ∙ ap (λ (n : ℕ). 4 + n) (length-append text left) in
    let is : ranged bytes range ≡ text = ap (λ (s : ℕ). take range.count (drop s bytes)) start ∙ ap (take range.count) after ∙ take_at text left range.count (sym count) in
    let rest : drop (range_end range) bytes ≡ left =
    ap (λ (n : ℕ). drop n bytes) (omega (arith, start, count)) ∙ sym (drop-drop (length text) (at + 4) bytes) ∙ ap (drop (length text)) after ∙ drop_at text left (length text) refl in
    (e ∙ ap Some (rw (is, rest) refl), omega (arith, start, count), omega (arith, start, count, sizes, lt))

-- Items that were counted at `at` are being read: `prefix` was read before `next`, and `count - i` items follow from there.
pub record IsCounted {X : Type 0} (read : List ℕ → Option (X × List ℕ)) (bytes : List ℕ) (at count i next : ℕ) : Type 0 where
  pub prefix : List X
  pub so_far : with_prefix prefix (many_at read (count - i) (drop next bytes)) ≡ counted_at read (drop at bytes)
  pub after : at ≤ next
  pub within : next ≤ length bytes

module _ {X : Type 0} (read : List ℕ → Option (X × List ℕ)) (bytes : List ℕ) (at count : ℕ) where
  pub counted_begins : (first : ℕ) → IsReadAt at (λ (n : ℕ). n) bytes (Some (count, first)) (number_at w32 (drop at bytes)) → IsCounted read bytes at count 0 first
  counted_begins first found = record { prefix = []; so_far = begins read (drop at bytes) count (drop first bytes) found.0; after = found.1; within = found.2 }

  pub counted_goes_on : (i next after : ℕ) (x : X) → IsCounted read bytes at count i next → i < count → read (drop next bytes) ≡ Some (x, drop after bytes) → next ≤ after → after ≤ length bytes → IsCounted read bytes at count (i + 1) after
  counted_goes_on i next after x is lt e above within = record {
    prefix = is.prefix ++ x ∷ [];
    so_far = goes_on read is.prefix count i (drop next bytes) x (drop after bytes) (counted_at read (drop at bytes)) lt e is.so_far;
    after = omega (arith, is.after, above);
    within = within;
  }

  pub counted_stops : (i next : ℕ) → IsCounted read bytes at count i next → i < count → read (drop next bytes) ≡ None → counted_at read (drop at bytes) ≡ None
  counted_stops i next is lt e = stops read is.prefix count i (drop next bytes) (counted_at read (drop at bytes)) lt e is.so_far

  pub counted_ends : (i next : ℕ) (range : ByteRange) → IsCounted read bytes at count i next → count ≤ i → range.start ≡ at → range.count ≡ next - at → IsRangeAt at (λ (s : ByteRange). option_map_or (λ (r : List X × List ℕ). r.0) (counted_at read (drop s.start bytes)) []) bytes (Some range) (counted_at read (drop at bytes))
  counted_ends i next range is le start count_is =
      let whole = is_done read is.prefix count i (drop next bytes) (counted_at read (drop at bytes)) le is.so_far in
      let there : option_map_or (λ (r : List X × List ℕ). r.0) (counted_at read (drop range.start bytes)) [] ≡ is.prefix =
      ap (λ (s : ℕ). option_map_or (λ (r : List X × List ℕ). r.0) (counted_at read (drop s bytes)) []) start ∙ ap (λ (o : Option (List X × List ℕ)). option_map_or (λ (r : List X × List ℕ). r.0) o []) whole in
      let end : range_end range ≡ next = omega (arith, start, count_is, is.after) in
      (whole ∙ ap Some (rw (there, end) refl), omega (arith, end, is.after), omega (arith, end, is.within))

-- numbers after their number, whose bytes are there
pub numbers_found : (bytes : List ℕ) (at count first size : ℕ) (range : ByteRange) → at ≤ length bytes → IsReadAt at (λ (n : ℕ). n) bytes (Some (count, first)) (number_at w32 (drop at bytes)) → size ≡ 8 * count → size ≤ length bytes - first → range.start ≡ at → range.count ≡ 4 + size → IsRangeAt at (λ (s : ByteRange). option_map_or (λ (r : List ℕ × List ℕ). r.0) (counted_at (number_at w64) (drop s.start bytes)) []) bytes (Some range) (counted_at (number_at w64) (drop at bytes))
numbers_found bytes at count first size range low read size_is long start count_is =
    let left : List ℕ = drop first bytes in
    let g = guard_some (nat_lt (length (drop at bytes)) 4) (from_le_bytes w32 (take 4 (drop at bytes)), drop 4 (drop at bytes)) (count, left) read.0 in
    let head : 4 ≤ length (drop at bytes) = ltb-false _ _ g.0 in
    let sizes : length left ≡ length (drop at bytes) - 4 = ap length (sym (ap (λ (r : ℕ × List ℕ). r.1) g.1)) ∙ length-drop 4 (drop at bytes) in
    let first_is : first ≡ at + 4 = omega (arith, length-drop first bytes, length-drop at bytes, sizes, head, read.1, read.2, low) in
    let whole = counted_long (drop at bytes) left count read.0 (omega (arith, length-drop first bytes, long, size_is)) in
    let there : option_map_or (λ (r : List ℕ × List ℕ). r.0) (counted_at (number_at w64) (drop range.start bytes)) [] ≡ long_numbers count left =
    ap (λ (s : ℕ). option_map_or (λ (r : List ℕ × List ℕ). r.0) (counted_at (number_at w64) (drop s bytes)) []) start ∙ ap (λ (o : Option (List ℕ × List ℕ)). option_map_or (λ (r : List ℕ × List ℕ). r.0) o []) whole in
    let end : range_end range ≡ first + 8 * count = omega (arith, start, count_is, first_is, size_is) in
    let rest : drop (range_end range) bytes ≡ drop (8 * count) left = ap (λ (n : ℕ). drop n bytes) (omega (arith, end)) ∙ sym (drop-drop (8 * count) first bytes) in
    (whole ∙ ap Some (rw (there, rest) refl), omega (arith, end, read.1), omega (arith, end, long, size_is, read.2))

pub numbers_missing : (bytes : List ℕ) (at count first size : ℕ) → IsReadAt at (λ (n : ℕ). n) bytes (Some (count, first)) (number_at w32 (drop at bytes)) → size ≡ 8 * count → length bytes - first < size → counted_at (number_at w64) (drop at bytes) ≡ None
numbers_missing bytes at count first size read size_is short = counted_short (drop at bytes) (drop first bytes) count read.0 (omega (arith, length-drop first bytes, short, size_is))
