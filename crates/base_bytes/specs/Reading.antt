-- Numbers and texts that are read from the start of bytes: what was read, and the bytes after it.
use Rattle.std.specs.Prelude.{◌≡◌, ℕ, zero, suc, ◌<◌, List, [], ◌∷◌, ◌++◌, length, slice_index, take, drop, Option, Some, None, nat_lt, if◌then◌else◌}
use Rattle.std.specs.Int.{Width, w32, byte_len, from_le_bytes}

infixl 10 ◌>>=◌
-- one reading step after another: nothing where the first gives nothing
abbrev pub ◌>>=◌ : {A B : Type 0} → Option A → (A → Option B) → Option B
None >>= f = None
(Some x) >>= f = f x

-- a number of 4 or 8 bytes, the low one first
abbrev pub number_at : Width → List ℕ → Option (ℕ × List ℕ)
number_at w bytes = if nat_lt (length bytes) (byte_len w) then None else Some (from_le_bytes w (take (byte_len w) bytes), drop (byte_len w) bytes)

-- the first `count` bytes and the rest, or nothing if there are fewer
abbrev pub taken_at : ℕ → List ℕ → Option (List ℕ × List ℕ)
taken_at count bytes = if nat_lt (length bytes) count then None else Some (take count bytes, drop count bytes)

-- a text at the start of bytes: its length in four bytes, and that many bytes
unfoldable pub text_at : List ℕ → Option (List ℕ × List ℕ)
text_at bytes = do
  n ← number_at w32 bytes
  taken_at n.0 n.1

-- A reader answered what the definition reads of the bytes that it had, with the bytes that it left. `view` is how its
-- answer is compared.
abbrev pub Reads : {X Y : Type 0} → (X → Y) → Option X → List ℕ → Option (Y × List ℕ) → Type 0
Reads view None left read = read ≡ None
Reads view (Some x) left read = read ≡ Some (view x, left)

-- each number is below 256
abbrev pub AreBytes : List ℕ → Type 0
AreBytes bytes = (i : ℕ) → slice_index bytes i < 256

-- bytes begin with a spelling, and these are left after it
pub record Takes (bytes spelling left : List ℕ) : Type 0 where
  pub parts : bytes ≡ spelling ++ left
  pub left_are_bytes : AreBytes left

-- the given number of items, read one after the other, and the rest
unfoldable pub many_at : {X : Type 0} → (List ℕ → Option (X × List ℕ)) → ℕ → List ℕ → Option (List X × List ℕ)
many_at read zero bytes = Some ([], bytes)
many_at read (suc n) bytes = do
  first ← read bytes
  others ← many_at read n first.1
  Some (first.0 ∷ others.0, others.1)

-- a number of four bytes, and after it that number of items
unfoldable pub counted_at : {X : Type 0} → (List ℕ → Option (X × List ℕ)) → List ℕ → Option (List X × List ℕ)
counted_at read bytes = do
  n ← number_at w32 bytes
  many_at read n.0 n.1

-- A reader of all bytes answered what the definition reads. `view` is how its answer is compared.
abbrev pub ReadsAll : {X Y : Type 0} → (X → Y) → Option X → Option Y → Type 0
ReadsAll view None read = read ≡ None
ReadsAll view (Some x) read = read ≡ Some (view x)
