-- What one more payload adds.
use Rattle.std.specs.Prelude.{◌≡◌, ◌≢◌, ℕ, ◌<◌, ◌≤◌, ◌^◌, IfSome, List, [], length, map, All, AllPairs, slice_get, Option, Some}
use Rattle.base.specs.Names.{FitsCommand, FitsName}
use Rattle.base.specs.declared.limits.TheConstants.{ARTEFACT_LIMIT, FILE_LIMIT, TEXT_LIMIT}
use Rattle.outside.specs.Records.{deps_at}
use Rattle.base_collections.specs.Numbers.{IsIndexOf}
use Rattle.base.specs.declared.file.FileName.{FileName}
use Rattle.base.specs.declared.graph.Entry.{Entry}
use Rattle.store_codec.specs.Forms.{RequestDraft, request_payload_in}
use Rattle.outside.specs.Records.{Record as RequestRecord, asked_of, latest as latest_request}
use Rattle.store_codec.specs.Writing.{ref_or}
use Rattle.store_codec.specs.Forms.RequestPayload.{OfRequest}
use Rattle.store_codec.specs.Ranges.{request_in_ranges}
use Rattle.store_codec.specs.RecordTables.{IsRequest, RecordTable, drafted_record, product_at, record_table_of}
use Rattle.base_bytes.specs.TextRefs.{with_text}
use Rattle.store_table.specs.declared.cutting.CutRequest.{CutRequest}
use Rattle.store_table.specs.Cuts.{IsCutOf}
use Rattle.store_table.specs.Checked.{AreTextNumbers, IsNameNumber, ref_number}
use Rattle.store.specs.declared.additions.RequestAddition.{RequestAddition}
use Rattle.store.specs.declared.asking.AskedPayload.{AskedPayload}
use Rattle.store.specs.declared.asking.TextRefs.{TextRefs}
use Rattle.outside.specs.Records.{HasLatest, latest_built}

-- a file whose parts are all empty, for a position that no file has
abbrev pub no_entry : Entry
no_entry = record { name = record { library = []; path = [] }; command = []; text = []; deps = [] }

-- the name of the record that a payload adds
abbrev pub added_name : List ℕ → RequestAddition → FileName
added_name segment addition = (request_in_ranges segment addition.draft).name

-- A payload is that of a record, of a name that has a number, and with the numbers of its texts.
pub record AddsRequest (payloads : List (List ℕ)) (names : List FileName) (segment : List ℕ) (addition : RequestAddition) : Type 0 where
  pub read : request_payload_in segment ≡ Some (OfRequest (request_in_ranges segment addition.draft))
  pub request : IsRequest (record_table_of payloads) (request_in_ranges segment addition.draft)
  pub name : IsNameNumber names (request_in_ranges segment addition.draft).name addition.name
  pub numbers : AreTextNumbers (record_table_of payloads).texts (request_in_ranges segment addition.draft) addition.numbers

-- A payload without its text, where there is one, is one of the payload that is added: a file lends the text.
abbrev pub IsCutFor : List (List ℕ) → List ℕ → RequestAddition → Option CutRequest → Type 0
IsCutFor borrowed segment addition cut = IfSome cut (IsCutOf borrowed segment addition.draft addition.numbers.text)

-- a file as a record, by the numbers of its texts, where they have one, and of the products that it depends on
abbrev pub asked_draft : Entry → Option ℕ → List ℕ → Option ℕ → List ℕ → RequestDraft
asked_draft entry source deps known artefact = record { name = entry.name; command = entry.command; source = ref_or source entry.text; deps = deps; artefact = ref_or known artefact }

-- The numbers of a text and of an artefact: the present ones, if they are among the texts, and the numbers once both are added.
pub record AreRefs (texts : List (List ℕ)) (text artefact : List ℕ) (refs : TextRefs) : Type 0 where
  pub source : IsIndexOf texts text refs.source
  pub known : IsIndexOf (with_text texts (ref_or refs.source text)) artefact refs.known
  pub source_fits : IfSome refs.source (λ n. n < 2 ^ 64)
  pub known_fits : IfSome refs.known (λ n. n < 2 ^ 64)
  pub text_is : refs.numbers.text ≡ ref_number texts (ref_or refs.source text)
  pub artefact_is : refs.numbers.artefact ≡ ref_number (with_text texts (ref_or refs.source text)) (ref_or refs.known artefact)

-- A payload spells a record, whose parts stand at its ranges.
pub record SpellsRequest (draft : RequestDraft) (asked : AskedPayload) : Type 0 where
  pub read : request_payload_in asked.segment ≡ Some (OfRequest draft)
  pub parts : request_in_ranges asked.segment asked.draft ≡ draft

-- The sizes of what is spelled of a file.
pub record HasAskedSizes (entry : Entry) (deps artefact : List ℕ) : Type 0 where
  pub name : FitsName entry.name
  pub command : FitsCommand entry.command
  pub text : length entry.text ≤ TEXT_LIMIT
  pub few : length deps < FILE_LIMIT
  pub small : length artefact ≤ ARTEFACT_LIMIT

-- A file with an artefact is a record over products: its parts have their sizes, the products are there, and no two of them, nor
-- the file, have one name.
pub record IsRequestOver (table : RecordTable) (entry : Entry) (deps artefact : List ℕ) : Type 0 where
  pub sizes : HasAskedSizes entry deps artefact
  pub there : All (λ dep. dep < length table.products) deps
  pub apart : AllPairs (λ a b. a.name ≢ b.name) (map (product_at table.products) deps)
  pub others : All (λ other. other.name ≢ entry.name) (map (product_at table.products) deps)

-- a file over products of these numbers, with an artefact
abbrev pub record_over : RecordTable → Entry → List ℕ → List ℕ → RequestRecord
record_over table entry deps artefact = record { asked = asked_of entry (map (product_at table.products) deps); artefact = artefact }

-- the payload adds a record of what would be asked for a file now, with an artefact
abbrev pub AddsAsked : RecordTable → List Entry → ℕ → List ℕ → List ℕ → RequestAddition → Type 0
AddsAsked table graph at artefact segment addition = (entry : Entry) → slice_get graph at ≡ Some entry → drafted_record table (request_in_ranges segment addition.draft) ≡ record { asked = asked_of entry (map (latest_built (λ name. latest_request name table.records) graph) entry.deps); artefact = artefact }

-- Numbers are those of the products that the latest records of the files that a file depends on built.
pub record AreDeps (table : RecordTable) (graph : List Entry) (at : ℕ) (deps : List ℕ) : Type 0 where
  pub there : All (λ dep. dep < length table.products) deps
  pub built : map (product_at table.products) deps ≡ map (latest_built (λ name. latest_request name table.records) graph) (deps_at graph at)
  pub latest : All (HasLatest (λ name. latest_request name table.records) graph) (deps_at graph at)
