-- Texts that a payload has by their number or in full.
use Rattle.std.specs.Prelude.{ℕ, nat_lt, Bool, not, List, [], ◌∷◌, ◌++◌, ◌==◌, length, Option, Some, None, slice_index_or, if◌then◌else◌}
use Rattle.std.specs.Int.{w64}
use Rattle.std.specs.List.{list_any}
use Rattle.std.specs.Str.{bytes_eq}
use Rattle.base_bytes.specs.Reading.{◌>>=◌, number_at, text_at}
use Rattle.base_bytes.specs.declared.text_refs.TextRange.{TextRange}
use Rattle.base_bytes.specs.declared.text_refs.TextRange.TheVariants.{Known, Full}
use Rattle.base_bytes.specs.Ranges.{byte_at, ranged}

-- a text: one that is there by its number, or a new one
pub data TextRef : Type 0 where
  ByNumber : (number : ℕ) → TextRef
  InFull : (text : List ℕ) → TextRef

-- a text by its number: eight bytes, the low one first; and the bytes after it
unfoldable pub ref_by_number_at : List ℕ → Option (TextRef × List ℕ)
ref_by_number_at bytes = do
  number ← number_at w64 bytes
  Some (ByNumber number.0, number.1)

-- a new text: its length in four bytes, and its bytes; and the bytes after it
unfoldable pub ref_in_full_at : List ℕ → Option (TextRef × List ℕ)
ref_in_full_at bytes = do
  text ← text_at bytes
  Some (InFull text.0, text.1)

-- a text after its tag: its number after 0, or a new text after 1; and the bytes after it
unfoldable pub text_ref_by : ℕ → List ℕ → Option (TextRef × List ℕ)
text_ref_by tag bytes = if tag == 0 then ref_by_number_at bytes else (if tag == 1 then ref_in_full_at bytes else None)

-- a tag, and the text that it stands for; and the bytes after it
unfoldable pub text_ref_at : List ℕ → Option (TextRef × List ℕ)
text_ref_at bytes = do
  tag ← byte_at bytes
  text_ref_by tag.0 tag.1

-- the text that was found in bytes: by its number, or the bytes of its range
abbrev pub ref_in_range : List ℕ → TextRange → TextRef
ref_in_range bytes (Known number) = ByNumber number
ref_in_range bytes (Full range) = InFull (ranged bytes range)

-- a number is that of a text; a new text isn't there yet
abbrev pub is_text_ref : List (List ℕ) → TextRef → Bool
is_text_ref texts (ByNumber number) = nat_lt number (length texts)
is_text_ref texts (InFull text) = not (list_any (bytes_eq text) texts)

-- the text that is meant
abbrev pub told_text : List (List ℕ) → TextRef → List ℕ
told_text texts (ByNumber number) = slice_index_or texts number []
told_text texts (InFull text) = text

-- the texts with one that may be new
abbrev pub with_text : List (List ℕ) → TextRef → List (List ℕ)
with_text texts (ByNumber number) = texts
with_text texts (InFull text) = texts ++ text ∷ []
