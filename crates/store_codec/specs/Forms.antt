-- Payloads of records of requests as bytes: what bytes spell, and how a payload is spelled.
use Rattle.std.specs.Prelude.{ℕ, ◌<◌, ◌^◌, List, ◌∷◌, ◌++◌, ◌==◌, length, All, Option, None, if◌then◌else◌}
use Rattle.std.specs.Int.{w64, to_le_bytes}
use Rattle.std.specs.List.{flat_map}
use Rattle.base.specs.declared.file.FileName.{FileName}
use Rattle.base.specs.Bytes.{number_bytes, text_bytes}
use Rattle.base.specs.Jobs.{name_bytes}
use Rattle.base_bytes.specs.Reading.{◌>>=◌, number_at, text_at, counted_at}
use Rattle.base_bytes.specs.Names.{HasNameSpelling, name_at}
use Rattle.base_bytes.specs.Ranges.{byte_at, read_whole}
use Rattle.base_bytes.specs.TextRefs.{TextRef, text_ref_at}
use Rattle.base_bytes.specs.TextRefs.TextRef.{ByNumber, InFull}

-- the number that sides with payloads of requests have as their form
abbrev pub request_form : ℕ
request_form = 3

-- A product in a payload: the name of a file, and its artefact, by number or in full.
pub record ProductDraft : Type 0 where
  pub name : FileName
  pub artefact : TextRef

-- A record in a payload: the name of a file, the words of its command, and its text, by number or in full. Then follow the numbers
-- of the products of all files that it depends on, in graph order, and its artefact, by number or in full.
pub record RequestDraft : Type 0 where
  pub name : FileName
  pub command : List (List ℕ)
  pub source : TextRef
  pub deps : List ℕ
  pub artefact : TextRef

-- a payload: a product alone, or a record
pub data RequestPayload : Type 0 where
  OfProduct : (draft : ProductDraft) → RequestPayload
  OfRequest : (draft : RequestDraft) → RequestPayload

-- what bytes after the tag of a product spell: a name and an artefact, and no byte after them
unfoldable pub product_in : List ℕ → Option RequestPayload
product_in bytes = do
  name ← name_at bytes
  artefact ← text_ref_at name.1
  read_whole (OfProduct (record { name = name.0; artefact = artefact.0 }), artefact.1)

-- what bytes after the tag of a record spell: a name, the words of the command, a text, the numbers of products and an
-- artefact, and no byte after them
unfoldable pub request_in : List ℕ → Option RequestPayload
request_in bytes = do
  name ← name_at bytes
  command ← counted_at text_at name.1
  source ← text_ref_at command.1
  deps ← counted_at (number_at w64) source.1
  artefact ← text_ref_at deps.1
  read_whole (OfRequest (record { name = name.0; command = command.0; source = source.0; deps = deps.0; artefact = artefact.0 }), artefact.1)

-- the payload that bytes after a tag spell: a product after 0, and a record after 1
unfoldable pub request_payload_by : ℕ → List ℕ → Option RequestPayload
request_payload_by tag bytes = if tag == 0 then product_in bytes else (if tag == 1 then request_in bytes else None)

-- the payload that all of these bytes spell, if they spell one
unfoldable pub request_payload_in : List ℕ → Option RequestPayload
request_payload_in bytes = do
  tag ← byte_at bytes
  request_payload_by tag.0 tag.1

-- how a text is spelled: 0 and its number in eight bytes, or 1 and the new text after its length
unfoldable pub text_ref_bytes : TextRef → List ℕ
text_ref_bytes (ByNumber number) = 0 ∷ to_le_bytes w64 number
text_ref_bytes (InFull text) = 1 ∷ text_bytes text

-- how the words of a command are spelled: their count, and each word after its length
unfoldable pub command_bytes : List (List ℕ) → List ℕ
command_bytes words = number_bytes (length words) ++ flat_map text_bytes words

-- how numbers of products are spelled: their count, and eight bytes for each, the low one first
unfoldable pub product_numbers_bytes : List ℕ → List ℕ
product_numbers_bytes numbers = number_bytes (length numbers) ++ flat_map (to_le_bytes w64) numbers

-- how a product is spelled, after its tag
unfoldable pub product_draft_bytes : ProductDraft → List ℕ
product_draft_bytes draft = name_bytes draft.name ++ text_ref_bytes draft.artefact

-- how a record is spelled, after its tag
unfoldable pub request_draft_bytes : RequestDraft → List ℕ
request_draft_bytes draft = name_bytes draft.name ++ (command_bytes draft.command ++ (text_ref_bytes draft.source ++ (product_numbers_bytes draft.deps ++ text_ref_bytes draft.artefact)))

-- how a payload is spelled: 0 before a product, and 1 before a record
unfoldable pub request_payload_bytes : RequestPayload → List ℕ
request_payload_bytes (OfProduct draft) = 0 ∷ product_draft_bytes draft
request_payload_bytes (OfRequest draft) = 1 ∷ request_draft_bytes draft

-- a text can be spelled: its number is below 2^64, or its length below 2^32
abbrev pub HasRefSpelling : TextRef → Type 0
HasRefSpelling (ByNumber number) = number < 2 ^ 64
HasRefSpelling (InFull text) = length text < 2 ^ 32

-- A product can be spelled: each part fits the bytes of its length or number.
pub record HasProductSpelling (draft : ProductDraft) : Type 0 where
  pub name : HasNameSpelling draft.name
  pub artefact : HasRefSpelling draft.artefact

-- A record can be spelled: each part fits the bytes of its length or number, and so does each count.
pub record HasRequestSpelling (draft : RequestDraft) : Type 0 where
  pub name : HasNameSpelling draft.name
  pub count : length draft.command < 2 ^ 32
  pub words : All (λ word. length word < 2 ^ 32) draft.command
  pub source : HasRefSpelling draft.source
  pub few : length draft.deps < 2 ^ 32
  pub deps : All (λ dep. dep < 2 ^ 64) draft.deps
  pub artefact : HasRefSpelling draft.artefact

-- a payload can be spelled
abbrev pub IsSpellable : RequestPayload → Type 0
IsSpellable (OfProduct draft) = HasProductSpelling draft
IsSpellable (OfRequest draft) = HasRequestSpelling draft
