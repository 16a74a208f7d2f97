-- Numbers of eight bytes each, by their index.
use Rattle.std.proofs.Common.{◌≡◌, ℕ, zero, suc, ◌+◌, ◌*◌, ◌/◌, ◌<◌, ◌≤◌, nat_lt, Bool, true, false, List, [], ◌∷◌, length, take, drop, get_or, Some, None, cond, refl, sym, ap, ◌∙◌, arith, length-drop, length-take}
use Rattle.std.specs.Int.{w32, w64, from_le_bytes}
use Rattle.std.proofs.lemmas.Bool.{le-ltb}
use Rattle.std.proofs.lemmas.List.{drop-drop, drop-take, take-take}
use Rattle.std.specs.Option.{option_map_or}
use Rattle.std.proofs.lemmas.Bool.{ltb-false, ltb-true}
use Rattle.std.proofs.lemmas.Option.{none-some}
use Rattle.base_bytes.specs.Reading.{counted_at, many_at, number_at, taken_at}
use Rattle.base_bytes.proofs.Fields.{guard_some}
use Rattle.base_bytes.proofs.Many.{no_count}
use Rattle.base_bytes.specs.Ranges.{all_numbers, long_numbers}

pub length-long_numbers : (n : ℕ) (bytes : List ℕ) → length (long_numbers n bytes) ≡ n
unfolding long_numbers
length-long_numbers zero bytes = refl
length-long_numbers (suc n) bytes = ap suc (length-long_numbers n (drop 8 bytes))

pub long_number_at : (n index : ℕ) (bytes : List ℕ) → index < n → get_or (long_numbers n bytes) index 0 ≡ from_le_bytes w64 (take 8 (drop (8 * index) bytes))
unfolding long_numbers
long_number_at zero index bytes l = absurd (omega arith)
long_number_at (suc n) zero bytes l = refl
long_number_at (suc n) (suc index) bytes l =
    long_number_at n index (drop 8 bytes) (omega arith)
    ∙ ap (λ (bs : List ℕ). from_le_bytes w64 (take 8 bs)) (drop-drop (8 * index) 8 bytes ∙ ap (λ (k : ℕ). drop k bytes) (omega arith))

-- `n` numbers can be read if there are at least 8 * `n` bytes
pub many_long : (n : ℕ) (bytes : List ℕ) → 8 * n ≤ length bytes → many_at (number_at w64) n bytes ≡ Some (long_numbers n bytes, drop (8 * n) bytes)
unfolding many_at long_numbers
many_long zero bytes long = refl
many_long (suc n) bytes long =
    let enough : nat_lt (length bytes) 8 ≡ false = le-ltb _ _ (omega (arith, long)) in
    rw (enough, many_long n (drop 8 bytes) (omega (arith, long, length-drop 8 bytes)))
    (ap (λ (bs : List ℕ). Some (from_le_bytes w64 (take 8 bytes) ∷ long_numbers n (drop 8 bytes), bs)) (drop-drop (8 * n) 8 bytes ∙ ap (λ (k : ℕ). drop k bytes) (omega arith)))

pub many_short : (n : ℕ) (bytes : List ℕ) → length bytes < 8 * n → many_at (number_at w64) n bytes ≡ None
unfolding many_at
many_short zero bytes short = absurd (omega arith)
many_short (suc n) bytes short = by (nat_lt (length bytes) 8) refl (λ l. many_short n (drop 8 bytes) l)
  where
    by : (b : Bool) → nat_lt (length bytes) 8 ≡ b → (length (drop 8 bytes) < 8 * n → many_at (number_at w64) n (drop 8 bytes) ≡ None) → many_at (number_at w64) (suc n) bytes ≡ None
    by true e rest = rw e refl
    by false e rest = rw (e, rest (omega (arith, short, ltb-false _ _ e, length-drop 8 bytes))) refl

-- `n` numbers depend on the first 8 * `n` bytes only
pub long_numbers_take : (n : ℕ) (bytes : List ℕ) → long_numbers n (take (8 * n) bytes) ≡ long_numbers n bytes
unfolding long_numbers
long_numbers_take zero bytes = refl
long_numbers_take (suc n) bytes =
    let grown : 8 * suc n ≡ 8 + 8 * n = omega arith in
    let first : take 8 (take (8 * suc n) bytes) ≡ take 8 bytes = take-take 8 (8 * suc n) bytes (omega arith) in
    let rest : drop 8 (take (8 * suc n) bytes) ≡ take (8 * n) (drop 8 bytes) = ap (λ (k : ℕ). drop 8 (take k bytes)) grown ∙ drop-take 8 (8 * n) bytes in
    ap (λ (bs : List ℕ). from_le_bytes w64 bs ∷ long_numbers n (drop 8 (take (8 * suc n) bytes))) first
    ∙ ap (λ (bs : List ℕ). from_le_bytes w64 (take 8 bytes) ∷ long_numbers n bs) rest
    ∙ ap (λ (ns : List ℕ). from_le_bytes w64 (take 8 bytes) ∷ ns) (long_numbers_take n (drop 8 bytes))

-- numbers after their number
abbrev numbers_at : List ℕ → List ℕ
numbers_at bytes = option_map_or (λ read. read.0) (counted_at (number_at w64) bytes) []

pub counted_long : (bytes left : List ℕ) (count : ℕ) → number_at w32 bytes ≡ Some (count, left) → 8 * count ≤ length left → counted_at (number_at w64) bytes ≡ Some (long_numbers count left, drop (8 * count) left)
unfolding counted_at
counted_long bytes left count e long = rw e (many_long count left long)

pub counted_short : (bytes left : List ℕ) (count : ℕ) → number_at w32 bytes ≡ Some (count, left) → length left < 8 * count → counted_at (number_at w64) bytes ≡ None
unfolding counted_at
counted_short bytes left count e short = rw e (many_short count left short)

none_in : (bytes : List ℕ) → counted_at (number_at w64) bytes ≡ None → [] ≡ numbers_at bytes
none_in bytes e = rw e refl

pub uncounted : (bytes : List ℕ) → number_at w32 bytes ≡ None → [] ≡ numbers_at bytes
uncounted bytes e = none_in bytes (no_count (number_at w64) bytes e)

untaken : (b : Bool) (both : List ℕ × List ℕ) → cond b None (Some both) ≡ None → b ≡ true
untaken true both e = refl
untaken false both e = absurd (none-some both (sym e))

pub untaken_numbers : (bytes left : List ℕ) (count : ℕ) → number_at w32 bytes ≡ Some (count, left) → taken_at (8 * count) left ≡ None → [] ≡ numbers_at bytes
untaken_numbers bytes left count e none =
    let both : List ℕ × List ℕ = (take (8 * count) left, drop (8 * count) left) in
    none_in bytes (counted_short bytes left count e (omega (arith, ltb-true _ _ (untaken (nat_lt (length left) (8 * count)) both none))))

pub taken_numbers : (bytes left part rest : List ℕ) (count : ℕ) → number_at w32 bytes ≡ Some (count, left) → taken_at (8 * count) left ≡ Some (part, rest) → all_numbers part ≡ numbers_at bytes
taken_numbers bytes left part rest count e taken =
    let g = guard_some (nat_lt (length left) (8 * count)) (take (8 * count) left, drop (8 * count) left) (part, rest) taken in
    let long : 8 * count ≤ length left = ltb-false _ _ g.0 in
    let part_is : part ≡ take (8 * count) left = sym (ap (λ (r : List ℕ × List ℕ). r.0) g.1) in
    let part_long : length part ≡ 8 * count = ap length part_is ∙ omega (arith, length-take (8 * count) left, long) in
    let size : length part / 8 ≡ count = omega (arith, part_long) in
    let read : numbers_at bytes ≡ long_numbers count left = rw (counted_long bytes left count e long) refl in
    ap (λ (n : ℕ). long_numbers n part) size ∙ ap (long_numbers count) part_is ∙ long_numbers_take count left ∙ sym read
