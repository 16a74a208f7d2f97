-- The parts of a payload that is written.
use Rattle.std.specs.Prelude.{ℕ, ◌≤◌, ◌<◌, List, length, Option, Some, None}
use Rattle.base.specs.Names.{FitsName}
use Rattle.base.specs.declared.limits.TheConstants.{FILE_LIMIT, TEXT_LIMIT}
use Rattle.store_codec.specs.declared.writing.TextPart.{TextPart}
use Rattle.store_codec.specs.declared.writing.ProductParts.{ProductParts}
use Rattle.store_codec.specs.declared.writing.RequestParts.{RequestParts}
use Rattle.store_codec.specs.Forms.{ProductDraft, RequestDraft}
use Rattle.base_bytes.specs.TextRefs.{TextRef}
use Rattle.base_bytes.specs.TextRefs.TextRef.{ByNumber, InFull}

-- a text that has a number, or a new one
abbrev pub ref_or : Option ℕ → List ℕ → TextRef
ref_or (Some number) text = ByNumber number
ref_or None text = InFull text

-- the text of a part: by its number, where it has one, and else in full
abbrev pub part_ref : TextPart → TextRef
part_ref part = ref_or part.known part.text.now

-- the product that has these parts
abbrev pub product_of_parts : ProductParts → ProductDraft
product_of_parts parts = record { name = parts.name.now; artefact = part_ref parts.artefact }

-- the record that has these parts; the words of its command are handed in apart, since the parts have their bytes
abbrev pub request_of_parts : List (List ℕ) → RequestParts → RequestDraft
request_of_parts command parts = record { name = parts.name.now; command = command; source = part_ref parts.source; deps = parts.deps.now; artefact = part_ref parts.artefact }

-- a text has at most 4,194,304 bytes
abbrev pub HasPartSizes : TextPart → Type 0
HasPartSizes part = length part.text.now ≤ TEXT_LIMIT

-- The parts of a product are within their limits.
pub record HasProductSizes (parts : ProductParts) : Type 0 where
  pub name : FitsName parts.name.now
  pub artefact : HasPartSizes parts.artefact

-- The parts of a record are within their limits. The words are handed in as bytes: 64 words of 1,024 bytes, with their count
-- and lengths, take 65,796.
pub record HasRequestSizes (parts : RequestParts) : Type 0 where
  pub name : FitsName parts.name.now
  pub words : length parts.words.now ≤ 65796
  pub source : HasPartSizes parts.source
  pub few : length parts.deps.now < FILE_LIMIT
  pub artefact : HasPartSizes parts.artefact
