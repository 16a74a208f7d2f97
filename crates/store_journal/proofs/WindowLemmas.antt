-- Windows of a side, and the payloads that are read through them.
use Rattle.std.proofs.Common.{◌≡◌, ◌≢◌, ℕ, ◌+◌, ◌-◌, ◌<◌, ◌≤◌, ◌^◌, List, [], ◌∷◌, ◌++◌, get_or, length, take, drop, None, Some, inl, inr, refl, sym, ap, ◌∙◌, append_assoc, arith, length-append, length-drop}
use Rattle.std.specs.Prelude.{Option}
use Rattle.std.specs.Int.{w32}
use Rattle.std.specs.List.{flat_map}
use Rattle.std.specs.Option.{option_and_then}
use Rattle.std.proofs.lemmas.Bool.{cases_eq, cases_lt, eq-eqb, lt-ltb, le-ltb}
use Rattle.std.proofs.lemmas.List.{drop-drop, drop-take, drop_more, flat_map_more, get_or-drop, get_or-take, length-take-le, nil_from_length, take-append-drop, take-take}
use Rattle.std.proofs.lemmas.List.Elements.{All-append, All-cons, All-nil}
use Rattle.base.specs.Bytes.{number_bytes, text_bytes}
use Rattle.base_bytes.specs.Reading.{number_at, taken_at, text_at}
use Rattle.base_bytes.proofs.Fields.{u32_again}
use Rattle.outside.specs.declared.disk.Side.{Side}
use Rattle.outside.specs.declared.disk.Side.TheVariants.{A, B}
use Rattle.outside.specs.Disks.{DiskState, bytes_at, image_side, reads_of, side_of}
use Rattle.store_journal.specs.Payloads.{block, gated, payload_at}
use Rattle.store_journal.specs.Journals.{EndsAt}
use Rattle.store_journal.specs.Windows.{AreReadTo, IsCountOf, IsNextOf}
use Rattle.store_journal.proofs.Spelled.{closed_commit_byte}

-- ## Windows

-- bytes within a window
pub within_window : (reads bytes : List ℕ) (start at count : ℕ) → bytes ≡ bytes_at start (length bytes) reads → start ≤ at → at + count ≤ start + length bytes → bytes_at (at - start) count bytes ≡ bytes_at at count reads
within_window reads bytes start at count is from to =
    let skipped : ℕ = at - start in
    let long : length bytes ≡ skipped + (length bytes - skipped) = omega (arith, from, to) in
    let left : drop skipped bytes ≡ take (length bytes - skipped) (drop skipped (drop start reads)) =
    ap (drop skipped) (is ∙ ap (λ (n : ℕ). take n (drop start reads)) long) ∙ drop-take skipped (length bytes - skipped) (drop start reads) in
    let there : drop skipped (drop start reads) ≡ drop at reads = drop-drop skipped start reads ∙ ap (λ (n : ℕ). drop n reads) (omega (arith, from)) in
    ap (take count) left
    ∙ take-take count (length bytes - skipped) (drop skipped (drop start reads)) (omega (arith, from, to))
    ∙ ap (take count) there

-- the first byte of those at an offset
pub first_within : (reads : List ℕ) (at : ℕ) → get_or (bytes_at at 1 reads) 0 0 ≡ get_or reads at 0
first_within reads at = get_or-take 1 (drop at reads) 0 0 (omega arith) ∙ get_or-drop at reads 0 0 ∙ ap (λ (n : ℕ). get_or reads n 0) (omega arith)

-- ## What a commit byte opens

taken_none : (count : ℕ) (left : List ℕ) → length left ≤ count → option_and_then gated (taken_at count left) ≡ None
taken_none count left short =
    elim (cases_lt (length left) count) [
      | inl less ↦ rw (lt-ltb (length left) count less) refl
      | inr more ↦
          let gone : length (drop count left) ≡ 0 = omega (arith, length-drop count left, short) in
          rw (le-ltb (length left) count more, gone) refl
    ]

-- too few bytes for a number of four bytes and one more commit byte
text_none : (rest : List ℕ) → length rest < 5 → option_and_then gated (text_at rest) ≡ None
unfolding text_at
text_none rest few =
    elim (cases_lt (length rest) 4) [
      | inl less ↦ rw (lt-ltb (length rest) 4 less) refl
      | inr more ↦
          let gone : drop 4 rest ≡ [] = nil_from_length (drop 4 rest) (omega (arith, length-drop 4 rest, few)) in
          rw (le-ltb (length rest) 4 more) (taken_none _ (drop 4 rest) (rw gone (omega arith)))
    ]

pub short_none : (bytes : List ℕ) → length bytes < 6 → payload_at bytes ≡ None
unfolding payload_at
short_none [] few = refl
short_none (commit_byte ∷ rest) few =
    elim (cases_eq commit_byte 1) [
      | inl opened ↦ rw (eq-eqb commit_byte 1 opened) (text_none rest (omega (arith, few)))
      | inr closed ↦ closed_commit_byte commit_byte rest closed
    ]

-- the commit byte and the number after it
head_parts : (commit_byte first count : ℕ) (rest : List ℕ) → take 5 (first ∷ rest) ≡ commit_byte ∷ number_bytes count → (first ≡ commit_byte) × (rest ≡ number_bytes count ++ drop 4 rest)
head_parts commit_byte first count rest is =
    let same : take 4 rest ≡ number_bytes count = ap (drop 1) is in
    (ap (λ (l : List ℕ). get_or l 0 0) is, sym (take-append-drop 4 rest) ∙ ap (λ (l : List ℕ). l ++ drop 4 rest) same)

pub closed_none : (bytes : List ℕ) (commit_byte count : ℕ) → take 5 bytes ≡ commit_byte ∷ number_bytes count → commit_byte ≢ 1 → payload_at bytes ≡ None
closed_none [] commit_byte count is closed = absurd cc
closed_none (first ∷ rest) commit_byte count is closed = closed_commit_byte first rest (λ one. closed (sym (head_parts commit_byte first count rest is).0 ∙ one))

pub long_none : (bytes : List ℕ) (commit_byte count : ℕ) → take 5 bytes ≡ commit_byte ∷ number_bytes count → commit_byte ≡ 1 → count < 2 ^ 32 → length bytes ≤ 5 + count → payload_at bytes ≡ None
unfolding payload_at text_at
long_none [] commit_byte count is opened small few = absurd cc
long_none (first ∷ rest) commit_byte count is opened small few =
    let parts = head_parts commit_byte first count rest is in
    let one : first ≡ 1 = parts.0 ∙ opened in
    let size : length rest ≡ 4 + length (drop 4 rest) = ap length parts.1 ∙ length-append (number_bytes count) (drop 4 rest) in
    let number : number_at w32 rest ≡ Some (count, drop 4 rest) = ap (number_at w32) parts.1 ∙ u32_again count (drop 4 rest) small in
    rw (eq-eqb first 1 one, number) (taken_none count (drop 4 rest) (omega (arith, size, few)))

-- the payload of that number of bytes
next_is : (bytes payload : List ℕ) (count : ℕ) → take 5 bytes ≡ 1 ∷ number_bytes count → payload ≡ take count (drop 5 bytes) → length payload ≡ count → bytes ≡ block payload ++ drop (5 + length payload) bytes
unfolding block text_bytes
next_is bytes payload count head is size =
    let after : drop 5 bytes ≡ payload ++ drop (5 + length payload) bytes =
    sym (take-append-drop count (drop 5 bytes))
    ∙ rw (← is, drop-drop count 5 bytes, size) refl in
    sym (take-append-drop 5 bytes)
    ∙ rw (head, after, size) refl

-- ## Payloads that were read so far

pub read_begins_at : (bytes : List ℕ) → 19 ≤ length bytes → AreReadTo bytes [] 18
read_begins_at bytes long = record {
  head = take 18 bytes;
  parts = sym (take-append-drop 18 bytes);
  header = length-take-le 18 bytes (omega arith);
  small = All-nil (λ payload. length payload < 2 ^ 32);
  next = omega arith;
}

read_on : (bytes : List ℕ) (payloads : List (List ℕ)) (commit_byte next : ℕ) (payload : List ℕ) → AreReadTo bytes payloads commit_byte → IsNextOf (drop commit_byte bytes) (Some payload) → length payload < 2 ^ 32 → next ≡ commit_byte + 5 + length payload → next < length bytes → AreReadTo bytes (payloads ++ payload ∷ []) next
read_on bytes payloads commit_byte next payload so_far is small next_is within =
    let left : drop (5 + length payload) (drop commit_byte bytes) ≡ drop next bytes = drop-drop (5 + length payload) commit_byte bytes ∙ ap (λ (n : ℕ). drop n bytes) (omega (arith, next_is)) in
    let blocks : flat_map block payloads ++ drop commit_byte bytes ≡ flat_map block (payloads ++ payload ∷ []) ++ drop next bytes =
    ap (λ (bs : List ℕ). flat_map block payloads ++ bs) (is ∙ ap (λ (l : List ℕ). block payload ++ l) left)
    ∙ sym (append_assoc (flat_map block payloads) (block payload) (drop next bytes))
    ∙ ap (λ (bs : List ℕ). bs ++ drop next bytes) (flat_map_more block [] payloads payload) in
    record {
      head = so_far.head;
      parts = so_far.parts ∙ ap (λ (bs : List ℕ). so_far.head ++ bs) blocks;
      header = so_far.header;
      small = All-append (λ p. length p < 2 ^ 32) payloads (payload ∷ []) so_far.small (All-cons (λ p. length p < 2 ^ 32) payload [] small (All-nil (λ p. length p < 2 ^ 32)));
      next = within;
    }

-- one payload more, of that number of bytes
pub read_next : (bytes : List ℕ) (payloads : List (List ℕ)) (commit_byte count : ℕ) → AreReadTo bytes payloads commit_byte → take 5 (drop commit_byte bytes) ≡ 1 ∷ number_bytes count → count < 2 ^ 32 → commit_byte + 5 + count < length bytes → AreReadTo bytes (payloads ++ bytes_at (commit_byte + 5) count bytes ∷ []) (commit_byte + 5 + count)
read_next bytes payloads commit_byte count so_far head small within =
    let payload : List ℕ = bytes_at (commit_byte + 5) count bytes in
    let size : length payload ≡ count = length-take-le count (drop (commit_byte + 5) bytes) (omega (arith, length-drop (commit_byte + 5) bytes, within)) in
    let is : payload ≡ take count (drop 5 (drop commit_byte bytes)) = ap (take count) (sym (drop-drop 5 commit_byte bytes)) in
    read_on bytes payloads commit_byte (commit_byte + 5 + count) payload so_far (next_is (drop commit_byte bytes) payload count head is size) (omega (arith, size, small)) (omega (arith, size)) within

pub read_to_end : (bytes : List ℕ) (payloads : List (List ℕ)) (commit_byte count : ℕ) → AreReadTo bytes payloads commit_byte → payload_at (drop commit_byte bytes) ≡ None → count ≡ commit_byte + 1 → EndsAt count payloads bytes
read_to_end bytes payloads commit_byte count so_far none is =
    let there : drop commit_byte bytes ≡ get_or bytes commit_byte 0 ∷ drop (commit_byte + 1) bytes = drop_more bytes commit_byte 0 so_far.next in
    let size : length bytes ≡ length so_far.head + length (flat_map block payloads ++ drop commit_byte bytes) = ap length so_far.parts ∙ length-append so_far.head (flat_map block payloads ++ drop commit_byte bytes) in
    record {
      spelled = record {
        head = so_far.head;
        commit_byte = get_or bytes commit_byte 0;
        rest = drop (commit_byte + 1) bytes;
        parts = so_far.parts ∙ ap (λ (l : List ℕ). so_far.head ++ (flat_map block payloads ++ l)) there;
        header = so_far.header;
        count_is = omega (arith, is, size, so_far.header, so_far.next, length-append (flat_map block payloads) (drop commit_byte bytes), length-drop commit_byte bytes);
        small = so_far.small;
      };
      none = ap payload_at (sym there) ∙ none;
    }

-- where no payload follows
pub none_next : (bytes : List ℕ) (next : Option ℕ) → IsCountOf bytes next → ((count : ℕ) → next ≡ Some count → ⊥) → payload_at bytes ≡ None
none_next bytes None is gone = is
none_next bytes (Some count) is gone = absurd (gone count refl)

-- what reads give of a side
pub side_reads : (side : Side) (disk : DiskState) → image_side side (reads_of disk) ≡ (side_of side disk).reads
side_reads A disk = refl
side_reads B disk = refl
