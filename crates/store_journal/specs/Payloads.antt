-- The payloads that the two sides of a disk hold.
use Rattle.std.specs.Prelude.{ℕ, zero, suc, nat_le, nat_lt, Bool, ◌&&◌, ◌==◌, List, [], ◌∷◌, ◌++◌, length, take, drop, Option, Some, None, codes, if◌then◌else◌}
use Rattle.std.specs.Int.{w64, from_le_bytes, to_le_bytes}
use Rattle.std.specs.List.{flat_map}
use Rattle.std.specs.Option.{option_and_then, option_map_or}
use Rattle.std.specs.Str.{bytes_eq}
use Rattle.base.specs.Bytes.{text_bytes}
use Rattle.base_bytes.specs.Reading.{text_at}
use Rattle.outside.specs.declared.disk.Side.{Side}
use Rattle.outside.specs.declared.disk.Side.TheVariants.{A, B}
use Rattle.outside.specs.Disks.{Image, image_side}

-- what a live side of a form begins with: a 1, the eight bytes `VUNITREC`, and the form
abbrev pub magic : ℕ → List ℕ
magic form = 1 ∷ (codes "VUNITREC" ++ form ∷ [])

-- a side is live for a form where it begins so, and has a generation and a first commit byte
unfoldable pub is_live : ℕ → List ℕ → Bool
is_live form bytes = nat_le 19 (length bytes) && bytes_eq (take 10 bytes) (magic form)

-- the number after the form, in eight bytes
unfoldable pub generation_of : List ℕ → ℕ
generation_of bytes = from_le_bytes w64 (take 8 (drop 10 bytes))

-- what is read where a text is followed by one more commit byte
abbrev pub gated : List ℕ × List ℕ → Option (List ℕ × List ℕ)
gated read = if length read.1 == 0 then None else Some read

-- What a commit byte opens, with what follows from the next commit byte on: nothing, unless the commit byte is 1, and a text and one more
-- commit byte come after it.
unfoldable pub payload_at : List ℕ → Option (List ℕ × List ℕ)
payload_at [] = None
payload_at (commit_byte ∷ rest) = if commit_byte == 1 then option_and_then gated (text_at rest) else None

-- the payloads from a commit byte on, at most the given number of them
unfoldable pub payloads_upto : ℕ → List ℕ → List (List ℕ)
payloads_upto zero bytes = []
payloads_upto (suc n) bytes = option_map_or (λ read. read.0 ∷ payloads_upto n read.1) (payload_at bytes) []

-- the payloads of a live side, from the first commit byte on up to the closed one
unfoldable pub payloads_in : List ℕ → List (List ℕ)
payloads_in bytes = payloads_upto (length bytes) (drop 18 bytes)

-- The side that counts: the live one of the higher generation, and A where both have the same.
unfoldable pub counting : ℕ → Image → Option Side
counting form image =
    if is_live form image.a then (if is_live form image.b && nat_lt (generation_of image.a) (generation_of image.b) then Some B else Some A)
    else (if is_live form image.b then Some B else None)

-- the payloads of an image, for a form
unfoldable pub payloads : ℕ → Image → List (List ℕ)
payloads form image = option_map_or (λ side. payloads_in (image_side side image)) (counting form image) []

-- an open commit byte, and the payload after it
unfoldable pub block : List ℕ → List ℕ
block payload = 1 ∷ text_bytes payload

-- what comes before the first commit byte
unfoldable pub header : (form generation : ℕ) → List ℕ
header form generation = magic form ++ to_le_bytes w64 generation

-- the bytes of a side of these payloads
unfoldable pub side_bytes : (form generation : ℕ) → List (List ℕ) → List ℕ
side_bytes form generation payloads = header form generation ++ (flat_map block payloads ++ 0 ∷ [])
