-- The side that counts, by how each side begins.
use Rattle.std.proofs.Common.{◌≡◌, ℕ, ◌<◌, ◌≤◌, Bool, true, false, if◌then◌else◌, nat_le, nat_lt, List, length, take, drop, min, Some, None, refl, sym, ap, ◌∙◌, arith}
use Rattle.std.specs.Int.{w64, from_le_bytes}
use Rattle.std.proofs.lemmas.Bool.Decides.{nat_tests}
use Rattle.std.proofs.lemmas.List.{drop-take, length-take, take-take, take_min}
use Rattle.outside.specs.declared.disk.Side.TheVariants.{A, B}
use Rattle.outside.specs.Disks.{Image}
use Rattle.store_journal.specs.declared.layout.Header.{Header}
use Rattle.store_journal.specs.Payloads.{counting, generation_of, is_live}
use Rattle.store_journal.specs.Headers.{IsLiveOf, header_in}

-- its first 19 bytes say whether a side is live
pub live_by_first : (form : ℕ) (bytes : List ℕ) → is_live form (take 19 bytes) ≡ is_live form bytes
unfolding is_live
live_by_first form bytes =
    let ten : take 10 (take 19 bytes) ≡ take 10 bytes = take-take 10 19 bytes (omega arith) in
    let long : nat_le 19 (length (take 19 bytes)) ≡ nat_le 19 (length bytes) = grind (arith, nat_tests, length-take 19 bytes) in
    rw (ten, long) refl

pub generation_by_first : (bytes : List ℕ) → generation_of (take 19 bytes) ≡ generation_of bytes
unfolding generation_of
generation_by_first bytes =
    let eight : take 8 (drop 10 (take 19 bytes)) ≡ take 8 (drop 10 bytes) = ap (take 8) (drop-take 10 9 bytes) ∙ take-take 8 9 (drop 10 bytes) (omega arith) in
    ap (from_le_bytes w64) eight

-- what an option by a test says of the test
kept_some : {X : Type 0} (test : Bool) (x y : X) → Some x ≡ (if test then Some y else None) → (test ≡ true) × (x ≡ y)
kept_some true x y e = (refl, cc)
kept_some false x y e = absurd cc

kept_none : {X : Type 0} (test : Bool) (y : X) → None ≡ (if test then Some y else None) → test ≡ false
kept_none true y e = absurd cc
kept_none false y e = refl

-- A side that says this of itself.
record Says (form : ℕ) (bytes : List ℕ) (header : Header) : Type 0 where
  live : is_live form bytes ≡ true
  generation : header.generation ≡ generation_of bytes
  len : header.len ≡ length bytes

says : (form : ℕ) (bytes : List ℕ) (header : Header) → Some header ≡ header_in form bytes → Says form bytes header
says form bytes header e =
    let both = kept_some (is_live form bytes) header (record { generation = generation_of bytes; len = length bytes }) e in
    record {
      live = both.0;
      generation = ap (λ (h : Header). h.generation) both.1;
      len = ap (λ (h : Header). h.len) both.1;
    }

dead : (form : ℕ) (bytes : List ℕ) → None ≡ header_in form bytes → is_live form bytes ≡ false
dead form bytes e = kept_none (is_live form bytes) (record { generation = generation_of bytes; len = length bytes }) e

-- of two live sides B counts, where its generation is higher,
pub b_higher : (form : ℕ) (image : Image) (first second : Header) → Some first ≡ header_in form image.a → Some second ≡ header_in form image.b → first.generation < second.generation → IsLiveOf form image (record { side = B; generation = second.generation; len = second.len })
unfolding counting
b_higher form image first second one two higher =
    let a = says form image.a first one in
    let b = says form image.b second two in
    let above : nat_lt (generation_of image.a) (generation_of image.b) ≡ true = grind (arith, nat_tests, a.generation, b.generation, higher) in
    record { counts = rw (a.live, b.live, above) refl; generation = b.generation; len = b.len }

-- and otherwise A
pub a_not_lower : (form : ℕ) (image : Image) (first second : Header) → Some first ≡ header_in form image.a → Some second ≡ header_in form image.b → second.generation ≤ first.generation → IsLiveOf form image (record { side = A; generation = first.generation; len = first.len })
unfolding counting
a_not_lower form image first second one two lower =
    let a = says form image.a first one in
    let b = says form image.b second two in
    let below : nat_lt (generation_of image.a) (generation_of image.b) ≡ false = grind (arith, nat_tests, a.generation, b.generation, lower) in
    record { counts = rw (a.live, b.live, below) refl; generation = a.generation; len = a.len }

-- one live side counts
pub a_alone : (form : ℕ) (image : Image) (first : Header) → Some first ≡ header_in form image.a → None ≡ header_in form image.b → IsLiveOf form image (record { side = A; generation = first.generation; len = first.len })
unfolding counting
a_alone form image first one two =
    let a = says form image.a first one in
    let gone = dead form image.b two in
    record { counts = rw (a.live, gone) refl; generation = a.generation; len = a.len }

pub b_alone : (form : ℕ) (image : Image) (second : Header) → None ≡ header_in form image.a → Some second ≡ header_in form image.b → IsLiveOf form image (record { side = B; generation = second.generation; len = second.len })
unfolding counting
b_alone form image second one two =
    let gone = dead form image.a one in
    let b = says form image.b second two in
    record { counts = rw (gone, b.live) refl; generation = b.generation; len = b.len }

-- where none is live none counts
pub none_live : (form : ℕ) (image : Image) → None ≡ header_in form image.a → None ≡ header_in form image.b → counting form image ≡ None
unfolding counting
none_live form image one two =
    let a = dead form image.a one in
    let b = dead form image.b two in
    rw (a, b) refl

-- what the first bytes of a side say
pub first_live : (form : ℕ) (first : List ℕ) (generation : ℕ) → Some generation ≡ (if is_live form first then Some (generation_of first) else None) → is_live form first ≡ true
first_live form first generation e = (kept_some (is_live form first) generation (generation_of first) e).0

pub first_says : (form : ℕ) (bytes first : List ℕ) (generation len : ℕ) → len ≡ length bytes → first ≡ take 19 bytes → Some generation ≡ (if is_live form first then Some (generation_of first) else None) → Some (record { generation = generation; len = len }) ≡ header_in form bytes
first_says form bytes first generation len len_is first_is e =
    let both = kept_some (is_live form first) generation (generation_of first) e in
    let live : is_live form bytes ≡ true = sym (live_by_first form bytes) ∙ ap (is_live form) (sym first_is) ∙ both.0 in
    let same : generation ≡ generation_of bytes = both.1 ∙ ap generation_of first_is ∙ generation_by_first bytes in
    rw (live, same, len_is) refl

pub first_dead : (form : ℕ) (bytes first : List ℕ) → first ≡ take 19 bytes → None ≡ (if is_live form first then Some (generation_of first) else None) → None ≡ header_in form bytes
first_dead form bytes first first_is e =
    let gone : is_live form bytes ≡ false = sym (live_by_first form bytes) ∙ ap (is_live form) (sym first_is) ∙ kept_none (is_live form first) (generation_of first) e in
    rw gone refl

-- the first 19 bytes, or all where there are fewer
pub first_bytes : (reads now first : List ℕ) (count len : ℕ) → now ≡ reads → first ≡ take count (drop 0 now) → count ≡ min 19 len → len ≡ length reads → first ≡ take 19 reads
first_bytes reads now first count len same is count_is len_is =
    is ∙ ap (take count) same ∙ ap (λ (n : ℕ). take n reads) (count_is ∙ ap (min 19) len_is) ∙ take_min 19 reads
