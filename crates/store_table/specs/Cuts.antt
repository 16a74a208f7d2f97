-- Payloads that are taken up without the text of a file.
use Rattle.std.specs.Prelude.{◌≡◌, ℕ, ◌≤◌, Bool, true, false, List, [], ◌∷◌, ◌++◌, ◌<◌, length, take, drop, slice_index_or}
use Rattle.base_bytes.specs.declared.ranges.ByteRange.{ByteRange}
use Rattle.store_codec.specs.declared.reading.RequestRanges.{RequestRanges}
use Rattle.base_bytes.specs.declared.text_refs.TextRange.TheVariants.{Known}
use Rattle.store_codec.specs.Forms.{RequestDraft}
use Rattle.base_bytes.specs.TextRefs.{TextRef, ref_in_range}
use Rattle.base_bytes.specs.TextRefs.TextRef.{ByNumber, InFull}
use Rattle.store_codec.specs.Ranges.{request_in_ranges}
use Rattle.base_bytes.specs.Ranges.{counted_numbers, range_end, ranged}
use Rattle.store_codec.specs.RecordTables.{RecordTable}
use Rattle.store_table.specs.declared.cutting.CutRequest.{CutRequest}
use Rattle.store_table.specs.declared.table.LocatedTable.{LocatedTable}
use Rattle.store_table.specs.Located.{HeldList, IsHeld, with_cut}

-- the bytes without those of a range
pub record IsWithout (bytes : List ℕ) (range : ByteRange) (rest : List ℕ) : Type 0 where
  pub within : range_end range ≤ length bytes
  pub is : rest ≡ take range.start bytes ++ drop (range_end range) bytes

-- The name, the dependencies and the artefact of a record are the same in its payload and in the bytes that remain after a cut.
pub record AreSameParts (bytes : List ℕ) (draft : RequestRanges) (rest : List ℕ) (new : RequestRanges) : Type 0 where
  pub library : ranged rest new.library ≡ ranged bytes draft.library
  pub path : ranged rest new.path ≡ ranged bytes draft.path
  pub deps : counted_numbers rest new.deps ≡ counted_numbers bytes draft.deps
  pub artefact : ref_in_range rest new.artefact ≡ ref_in_range bytes draft.artefact

-- a draft with another source
abbrev pub with_source : TextRef → RequestDraft → RequestDraft
with_source source draft = record { name = draft.name; command = draft.command; source = source; deps = draft.deps; artefact = draft.artefact }

-- The payload of a record from which a text was cut that a file lends. With that text put back, it is the whole payload. Its parts
-- are the parts of the record, except that the source text is given by its number.
pub record IsCutOf (borrowed : List (List ℕ)) (bytes : List ℕ) (draft : RequestRanges) (number : ℕ) (cut : CutRequest) : Type 0 where
  pub file : cut.payload.file < length borrowed
  pub text : ref_in_range bytes draft.source ≡ InFull (slice_index_or borrowed cut.payload.file [])
  pub whole : bytes ≡ with_cut (slice_index_or borrowed cut.payload.file []) cut.payload
  pub parts : request_in_ranges cut.payload.rest cut.draft ≡ with_source (ByNumber number) (request_in_ranges bytes draft)
  pub source : cut.draft.source ≡ Known number

-- a table with one more text
abbrev pub with_new_text : RecordTable → List ℕ → RecordTable
with_new_text table text = record { texts = table.texts ++ text ∷ []; products = table.products; records = table.records }

-- A payload was added at the end, with what it stands for.
pub record HasTaken (old new : HeldList) (table : LocatedTable) (payload : List ℕ) : Type 0 where
  pub held : IsHeld new.segments new.payloads table
  pub payloads : new.payloads ≡ old.payloads ++ payload ∷ []
  pub borrowed : new.borrowed ≡ old.borrowed

-- No payload was added.
pub record HasLeft (old new : HeldList) (table : LocatedTable) : Type 0 where
  pub held : IsHeld new.segments new.payloads table
  pub same : new.payloads ≡ old.payloads
  pub borrowed : new.borrowed ≡ old.borrowed

-- a payload was added, or none was, as it says
abbrev pub TookOrLeft : Bool → (old new : HeldList) → LocatedTable → List ℕ → Type 0
TookOrLeft true old new table payload = HasTaken old new table payload
TookOrLeft false old new table payload = HasLeft old new table
