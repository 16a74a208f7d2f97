-- The texts, products and records that payloads stand for, taken up one after the other.
use Rattle.std.specs.Prelude.{◌≡◌, ◌≢◌, ℕ, ◌<◌, ◌≤◌, nat_le, nat_lt, Bool, true, false, not, ◌&&◌, List, [], ◌∷◌, ◌++◌, length, map, slice_index_or, All, AllPairs, if◌then◌else◌}
use Rattle.std.specs.List.{fold, list_all, list_any}
use Rattle.std.specs.Option.{option_map_or}
use Rattle.std.specs.Str.{bytes_eq}
use Rattle.base.specs.Names.{FitsCommand, FitsName, is_same_name}
use Rattle.base.specs.declared.file.FileName.{FileName}
use Rattle.base.specs.declared.graph.BuiltFile.{BuiltFile}
use Rattle.base.specs.declared.limits.TheConstants.{ARTEFACT_LIMIT, FILE_LIMIT, TEXT_LIMIT}
use Rattle.outside.specs.Records.{Record as RequestRecord}
use Rattle.base_bytes.specs.Sizes.{has_command_sizes, has_name_sizes}
use Rattle.base_bytes.specs.TextRefs.{is_text_ref, told_text, with_text}
use Rattle.store_codec.specs.Forms.{ProductDraft, RequestDraft, RequestPayload, request_payload_in}
use Rattle.store_codec.specs.Forms.RequestPayload.{OfProduct, OfRequest}

-- texts and products, numbered from 0, and records
pub record RecordTable : Type 0 where
  pub texts : List (List ℕ)
  pub products : List BuiltFile
  pub records : List RequestRecord

-- what no payloads stand for
abbrev pub bare_table : RecordTable
bare_table = record { texts = []; products = []; records = [] }

-- the same name and the same artefact
abbrev pub is_same_built : BuiltFile → BuiltFile → Bool
is_same_built a b = is_same_name a.name b.name && bytes_eq a.artefact b.artefact

-- a product whose parts are all empty, for a number that no product has
abbrev pub no_product : BuiltFile
no_product = record { name = record { library = []; path = [] }; artefact = [] }

-- the product of a number; the empty one where no product has it
abbrev pub product_at : List BuiltFile → ℕ → BuiltFile
product_at products number = slice_index_or products number no_product

-- the products with one that may be there already
abbrev pub with_built : List BuiltFile → BuiltFile → List BuiltFile
with_built products product = if list_any (is_same_built product) products then products else products ++ product ∷ []

-- the product of a draft
abbrev pub drafted_product : List (List ℕ) → ProductDraft → BuiltFile
drafted_product texts draft = record { name = draft.name; artefact = told_text texts draft.artefact }

-- a draft of a product that isn't there yet, of an artefact that is there or new
unfoldable pub is_new_product : RecordTable → ProductDraft → Bool
is_new_product table draft =
    has_name_sizes draft.name && (is_text_ref table.texts draft.artefact && (nat_le (length (told_text table.texts draft.artefact)) ARTEFACT_LIMIT && not (list_any (is_same_built (drafted_product table.texts draft)) table.products)))

-- one more product, with its artefact where that is new
abbrev pub with_product : RecordTable → ProductDraft → RecordTable
with_product table draft = record { texts = with_text table.texts draft.artefact; products = table.products ++ drafted_product table.texts draft ∷ []; records = table.records }

-- no two of the files have one name, and none has the name handed in
unfoldable pub are_apart : FileName → List BuiltFile → Bool
are_apart name [] = true
are_apart name (first ∷ rest) = not (is_same_name first.name name) && (list_all (λ other. not (is_same_name first.name other.name)) rest && are_apart name rest)

-- the artefact of a draft of a record; its text counts, where that is new
abbrev pub drafted_artefact : List (List ℕ) → RequestDraft → List ℕ
drafted_artefact texts draft = told_text (with_text texts draft.source) draft.artefact

-- A draft of a record: its texts are there or new, and so few products are there, of other files that have different names.
unfoldable pub is_request : RecordTable → RequestDraft → Bool
is_request table draft =
    has_name_sizes draft.name && (has_command_sizes draft.command && (is_text_ref table.texts draft.source && (nat_le (length (told_text table.texts draft.source)) TEXT_LIMIT && (is_text_ref (with_text table.texts draft.source) draft.artefact && (nat_le (length (drafted_artefact table.texts draft)) ARTEFACT_LIMIT && (nat_lt (length draft.deps) FILE_LIMIT && (list_all (λ dep. nat_lt dep (length table.products)) draft.deps && are_apart draft.name (map (product_at table.products) draft.deps))))))))

-- the record of a draft
abbrev pub drafted_record : RecordTable → RequestDraft → RequestRecord
drafted_record table draft = record { asked = record { command = draft.command; name = draft.name; text = told_text table.texts draft.source; below = map (product_at table.products) draft.deps }; artefact = drafted_artefact table.texts draft }

-- one more record, with its texts and its product where these aren't there
abbrev pub with_request : RecordTable → RequestDraft → RecordTable
with_request table draft = record { texts = with_text (with_text table.texts draft.source) draft.artefact; products = with_built table.products (record { name = draft.name; artefact = drafted_artefact table.texts draft }); records = table.records ++ drafted_record table draft ∷ [] }

-- one more payload, taken up only where what it adds is new and valid after those before it
unfoldable pub with_request_payload : RecordTable → RequestPayload → RecordTable
with_request_payload table (OfProduct draft) = if is_new_product table draft then with_product table draft else table
with_request_payload table (OfRequest draft) = if is_request table draft then with_request table draft else table

-- what payloads stand for after one more, which is given as bytes; bytes that spell none add nothing
unfoldable pub after_request_payload : RecordTable → List ℕ → RecordTable
after_request_payload table bytes = option_map_or (with_request_payload table) (request_payload_in bytes) table

-- what payloads stand for, taken up in order
unfoldable pub record_table_of : List (List ℕ) → RecordTable
record_table_of payloads = fold after_request_payload bare_table payloads

-- the records that payloads stand for, in order
abbrev pub requests_among : List (List ℕ) → List RequestRecord
requests_among payloads = (record_table_of payloads).records

-- A draft of a record is valid on a table: its parts are within their limits, its texts are there or new, and the products
-- below it are there, of other files with different names.
pub record IsRequest (table : RecordTable) (draft : RequestDraft) : Type 0 where
  pub name : FitsName draft.name
  pub command : FitsCommand draft.command
  pub source : is_text_ref table.texts draft.source ≡ true
  pub text_small : length (told_text table.texts draft.source) ≤ TEXT_LIMIT
  pub artefact : is_text_ref (with_text table.texts draft.source) draft.artefact ≡ true
  pub small : length (drafted_artefact table.texts draft) ≤ ARTEFACT_LIMIT
  pub few : length draft.deps < FILE_LIMIT
  pub there : All (λ dep. dep < length table.products) draft.deps
  pub apart : AllPairs (λ a b. a.name ≢ b.name) (map (product_at table.products) draft.deps)
  pub others : All (λ other. other.name ≢ draft.name) (map (product_at table.products) draft.deps)

-- A draft of a product is valid on a table: its parts are within their limits, its artefact is there or new, and no product
-- there is the same.
pub record IsNewProduct (table : RecordTable) (draft : ProductDraft) : Type 0 where
  pub name : FitsName draft.name
  pub artefact : is_text_ref table.texts draft.artefact ≡ true
  pub small : length (told_text table.texts draft.artefact) ≤ ARTEFACT_LIMIT
  pub new : list_any (is_same_built (drafted_product table.texts draft)) table.products ≡ false

-- No text occurs twice, and no product does.
pub record AreNumberedOnce (table : RecordTable) : Type 0 where
  pub texts : AllPairs (λ a b. a ≢ b) table.texts
  pub products : AllPairs (λ a b. a ≢ b) table.products
