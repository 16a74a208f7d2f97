-- What is carried over, by numbers of the products, texts and records that are there.
use Rattle.std.specs.Prelude.{◌≡◌, ℕ, ◌-◌, ◌^◌, ◌<◌, min, List, [], ◌∷◌, ◌++◌, length, map, All, Contains, slice_get, slice_index_or, Option, Some, None, IfSome, Bool}
use Rattle.std.specs.List.{flat_map}
use Rattle.base.specs.declared.graph.BuiltFile.{BuiltFile}
use Rattle.base_collections.specs.Numbers.{IsAdded, NumbersBelow}
use Rattle.store_journal.specs.Payloads.{block}
use Rattle.outside.specs.Records.{Record as RequestRecord, latest_alone as latest_requests}
use Rattle.store_codec.specs.Forms.{ProductDraft, RequestDraft, RequestPayload, request_payload_bytes}
use Rattle.store_codec.specs.Forms.RequestPayload.{OfProduct, OfRequest}
use Rattle.store_codec.specs.RecordTables.{AreNumberedOnce, RecordTable, product_at, record_table_of}
use Rattle.store_codec.specs.Compaction.{CompactedSoFar, compacted_from, none_compacted, number_of_built}
use Rattle.store_codec.specs.Writing.{ref_or}
use Rattle.store_table.specs.declared.products.ProductRow.{ProductRow}
use Rattle.store_table.specs.declared.table.LocatedTable.{LocatedTable}
use Rattle.store_table.specs.declared.table.RecordRow.{RecordRow}
use Rattle.store_table.specs.NumberSets.{AreNumbers}
use Rattle.store_table.specs.Located.{IsTableLocated, no_row, located_table}
use Rattle.store.specs.declared.plan.ProductStep.{ProductStep}
use Rattle.store.specs.declared.plan.RequestStep.{RequestStep}
use Rattle.store.specs.declared.plan.CompactionStep.{CompactionStep}
use Rattle.store.specs.declared.plan.CompactionStep.TheVariants as steps
use Rattle.store.specs.declared.plan.CompactionPlan.{CompactionPlan}
use Rattle.store.specs.Kept.{IsKeptTable}

-- a record whose parts are all empty, for a number that no record has
abbrev pub blank_request : RequestRecord
blank_request = record { asked = record { command = []; name = record { library = []; path = [] }; text = []; below = [] }; artefact = [] }

-- the record of a number; the blank one where no record has it
abbrev pub table_record_at : List RequestRecord → ℕ → RequestRecord
table_record_at records number = slice_index_or records number blank_request

-- the text of a number; no bytes where no text has it
abbrev pub text_of : List (List ℕ) → ℕ → List ℕ
text_of texts number = slice_index_or texts number []

-- the draft of a product that is there, by the new number of its artefact, where that has one
abbrev pub product_step_draft : RecordTable → ProductStep → ProductDraft
product_step_draft table step = record { name = (product_at table.products step.product).name; artefact = ref_or step.text (product_at table.products step.product).artefact }

-- the draft of a record, over products of these numbers, and by the new numbers of its texts, where they have one
abbrev pub draft_over : RequestRecord → List ℕ → RequestStep → RequestDraft
draft_over kept deps step = record { name = kept.asked.name; command = kept.asked.command; source = ref_or step.source kept.asked.text; deps = deps; artefact = ref_or step.artefact kept.artefact }

-- a draft of a record with other numbers of products
abbrev pub with_deps : RequestDraft → List ℕ → RequestDraft
with_deps draft deps = record { name = draft.name; command = draft.command; source = draft.source; deps = deps; artefact = draft.artefact }

-- the draft of a record that is there, over products by their new numbers
abbrev pub request_step_draft : RecordTable → List BuiltFile → RequestStep → RequestDraft
request_step_draft table products step = draft_over (table_record_at table.records step.row) (map (number_of_built products) (table_record_at table.records step.row).asked.below) step

-- the products of these numbers, in their order
abbrev pub numbered_products : RecordTable → List ℕ → List BuiltFile
numbered_products table numbers = map (product_at table.products) numbers

-- the payload of a step
abbrev pub step_payload : RecordTable → List ℕ → CompactionStep → RequestPayload
step_payload table numbers (steps.OfProduct step) = OfProduct (product_step_draft table step)
step_payload table numbers (steps.OfRequest step) = OfRequest (request_step_draft table (numbered_products table numbers) step)

-- A product is there, and the number of its artefact has a spelling.
pub record IsProductStep (table : RecordTable) (step : ProductStep) : Type 0 where
  pub fits : IfSome step.text (λ number. number < 2 ^ 64)
  pub there : step.product < length table.products

-- A record is there, it stands over products of the numbers, and the numbers of its texts have spellings.
pub record IsRequestStep (table : RecordTable) (numbers : List ℕ) (step : RequestStep) : Type 0 where
  pub source_fits : IfSome step.source (λ number. number < 2 ^ 64)
  pub artefact_fits : IfSome step.artefact (λ number. number < 2 ^ 64)
  pub there : step.row < length table.records
  pub below : All (Contains (numbered_products table numbers)) (table_record_at table.records step.row).asked.below

-- a step by products and records that are there
abbrev pub IsPlanStep : RecordTable → List ℕ → CompactionStep → Type 0
IsPlanStep table numbers (steps.OfProduct step) = IsProductStep table step
IsPlanStep table numbers (steps.OfRequest step) = IsRequestStep table numbers step

-- what the steps of a plan have carried so far
abbrev pub compacted_by : RecordTable → CompactionPlan → CompactedSoFar
compacted_by table plan = record { texts = map (text_of table.texts) plan.texts.numbers; products = numbered_products table plan.products.numbers; payloads = map (step_payload table plan.products.numbers) plan.steps.items }

-- what is carried so far, with one more payload
abbrev pub with_compacted_payload : CompactedSoFar → RequestPayload → CompactedSoFar
with_compacted_payload so_far payload = record { texts = so_far.texts; products = so_far.products; payloads = so_far.payloads ++ payload ∷ [] }

-- how many bytes payloads take on a side, each after its commit byte
abbrev pub blocks_length : List RequestPayload → ℕ
blocks_length payloads = length (flat_map block (map request_payload_bytes payloads))

-- The numbers and the steps of a plan are of products, texts and records that are there.
pub record IsPlanIn (table : RecordTable) (plan : CompactionPlan) : Type 0 where
  pub products : AreNumbers (length table.products) plan.products
  pub texts : AreNumbers (length table.texts) plan.texts
  pub steps : All (IsPlanStep table plan.products.numbers) plan.steps.items

-- the bytes of the payloads of a plan are counted, up to the most that can be
abbrev pub IsCounted : RecordTable → CompactionPlan → Type 0
IsCounted table plan = plan.len ≡ min (2 ^ 64 - 1) (blocks_length (compacted_by table plan).payloads)

-- A plan keeps the latest records of payloads, and nothing else.
pub record KeepsLatestRequests (payloads : List (List ℕ)) (plan : CompactionPlan) : Type 0 where
  pub is : IsPlanIn (record_table_of payloads) plan
  pub kept_over : compacted_by (record_table_of payloads) plan ≡ compacted_from none_compacted (latest_requests (record_table_of payloads).records)
  pub counted : IsCounted (record_table_of payloads) plan

-- What is placed is a table of some payloads: no text and no product occurs twice, and all have their sizes.
pub record IsTableToCompact (payloads : List (List ℕ)) (table : LocatedTable) : Type 0 where
  pub located : IsTableLocated payloads table
  pub once : AreNumberedOnce (located_table payloads table)
  pub kept : IsKeptTable (located_table payloads table)

-- numbers were added, and none was changed
pub record HasMoreNumbers (old new : List ℕ) : Type 0 where
  pub more : List ℕ
  pub grown : new ≡ old ++ more

-- the new number of a text, or that it is new and was added
abbrev pub TookText : ℕ → Option ℕ → NumbersBelow → NumbersBelow → Type 0
TookText text (Some found_index) old new = (slice_get old.numbers found_index ≡ Some text) × (new ≡ old)
TookText text None old new = (¬ Contains old.numbers text) × (new ≡ record { size = old.size; numbers = old.numbers ++ text ∷ [] })

-- A product was added, and its artefact if that is new; the steps are unchanged.
pub record HasTakenProduct (rows : List ProductRow) (product : ℕ) (old new : CompactionPlan) (step : ProductStep) : Type 0 where
  pub product_is : step.product ≡ product
  pub fits : IfSome step.text (λ number. number < 2 ^ 64)
  pub products_are : new.products ≡ record { size = old.products.size; numbers = old.products.numbers ++ product ∷ [] }
  pub text : TookText (slice_index_or rows product no_row).text step.text old.texts new.texts
  pub steps : new.steps.items ≡ old.steps.items
  pub len : new.len ≡ old.len

-- The text, the artefact and the product of a record were added, each if it is new; the steps are unchanged.
pub record HasTakenRequest (rows : List ProductRow) (row : RecordRow) (number : ℕ) (old new : CompactionPlan) (step : RequestStep) : Type 0 where
  pub row_is : step.row ≡ number
  pub source_fits : IfSome step.source (λ number. number < 2 ^ 64)
  pub artefact_fits : IfSome step.artefact (λ number. number < 2 ^ 64)
  pub between : NumbersBelow
  pub source : TookText row.text step.source old.texts between
  pub artefact : TookText (slice_index_or rows row.product no_row).text step.artefact between new.texts
  pub is_new : Bool
  pub product : IsAdded is_new row.product old.products new.products
  pub steps : new.steps.items ≡ old.steps.items
  pub len : new.len ≡ old.len
