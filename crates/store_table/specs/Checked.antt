-- Drafts whose parts are looked up among what is placed.
use Rattle.std.specs.Prelude.{◌≡◌, ◌≢◌, ℕ, ◌<◌, ◌≤◌, true, List, [], ◌∷◌, ◌++◌, if◌then◌else◌, length, map, All, AllPairs, slice_get, slice_index_or, Option, None, Some}
use Rattle.base.specs.declared.file.FileName.{FileName}
use Rattle.base.specs.declared.limits.TheConstants.{ARTEFACT_LIMIT, FILE_LIMIT, TEXT_LIMIT}
use Rattle.store_codec.specs.Forms.{ProductDraft, RequestDraft, RequestPayload}
use Rattle.base_bytes.specs.TextRefs.{TextRef, is_text_ref, told_text, with_text}
use Rattle.base_bytes.specs.TextRefs.TextRef.{ByNumber, InFull}
use Rattle.store_codec.specs.RecordTables.{IsNewProduct, IsRequest, RecordTable, drafted_artefact, with_request_payload}
use Rattle.store_table.specs.declared.products.ProductRow.{ProductRow}
use Rattle.store_table.specs.declared.checking.TextNumbers.{TextNumbers}
use Rattle.std.specs.List.{list_any}
use Rattle.store_table.specs.ProductRows.{is_same_product_row}
use Rattle.store_table.specs.declared.table.LocatedTable.{LocatedTable}
use Rattle.store_table.specs.Located.{IsTableLocated, no_row, located_table}

-- the number of a text that is there, or that a new one will have
abbrev pub ref_number : List (List ℕ) → TextRef → ℕ
ref_number texts (ByNumber number) = number
ref_number texts (InFull text) = length texts

-- the number of the text of a reference, or `None` if no text has the number or the text in full isn't new
abbrev pub IsRefNumber : List (List ℕ) → TextRef → Option ℕ → Type 0
IsRefNumber texts source None = ¬ (is_text_ref texts source ≡ true)
IsRefNumber texts source (Some number) = (is_text_ref texts source ≡ true) × (number ≡ ref_number texts source)

-- the texts of a draft of a record are there or new as it says, and have the sizes of a record
pub record HasRequestTexts (texts : List (List ℕ)) (draft : RequestDraft) : Type 0 where
  pub source : is_text_ref texts draft.source ≡ true
  pub text_small : length (told_text texts draft.source) ≤ TEXT_LIMIT
  pub artefact : is_text_ref (with_text texts draft.source) draft.artefact ≡ true
  pub small : length (drafted_artefact texts draft) ≤ ARTEFACT_LIMIT

-- the numbers of the texts of a draft of a record
pub record AreTextNumbers (texts : List (List ℕ)) (draft : RequestDraft) (numbers : TextNumbers) : Type 0 where
  pub text : numbers.text ≡ ref_number texts draft.source
  pub artefact : numbers.artefact ≡ ref_number (with_text texts draft.source) draft.artefact

-- the numbers of the texts of a record, or none where a text isn't there or new as it says, or is over its limit
abbrev pub AreRequestTexts : List (List ℕ) → RequestDraft → Option TextNumbers → Type 0
AreRequestTexts texts draft None = ¬ HasRequestTexts texts draft
AreRequestTexts texts draft (Some numbers) = HasRequestTexts texts draft × AreTextNumbers texts draft numbers

-- the numbers of the texts of a draft, or `None` if the draft isn't a record
abbrev pub IsCheckedRequest : RecordTable → RequestDraft → Option TextNumbers → Type 0
IsCheckedRequest table draft None = ¬ IsRequest table draft
IsCheckedRequest table draft (Some numbers) = IsRequest table draft × AreTextNumbers table.texts draft numbers

-- the number of the artefact of a draft, or `None` if the draft isn't a new product
abbrev pub IsCheckedProduct : RecordTable → ProductDraft → Option ℕ → Type 0
IsCheckedProduct table draft None = ¬ IsNewProduct table draft
IsCheckedProduct table draft (Some number) = IsNewProduct table draft × (number ≡ ref_number table.texts draft.artefact)

-- the numbers of the names of products
abbrev pub dep_names : List ProductRow → List ℕ → List ℕ
dep_names products deps = map (λ dep. (slice_index_or products dep no_row).name) deps

-- A record depends on fewer products than the limit, and all of them exist. They and the file of the record have distinct names.
pub record HasRowDeps (products : List ProductRow) (name : ℕ) (deps : List ℕ) : Type 0 where
  pub few : length deps < FILE_LIMIT
  pub there : All (λ dep. dep < length products) deps
  pub apart : AllPairs (λ a b. a ≢ b) (name ∷ dep_names products deps)

-- a name has a number
abbrev pub IsNameNumber : List FileName → FileName → ℕ → Type 0
IsNameNumber names name number = slice_get names number ≡ Some name

-- the number of a product among products, with it at the end where it wasn't there
pub record PutsProduct (row : ProductRow) (number : ℕ) (old new : List ProductRow) : Type 0 where
  pub more : List ProductRow
  pub grown : new ≡ old ++ more
  pub numbered : slice_get new number ≡ Some row
  pub new_is : new ≡ (if list_any (is_same_product_row row) old then old else old ++ row ∷ [])

-- A payload was taken up: the located table stands for the old table after that payload.
pub record Took (payloads : List (List ℕ)) (old : RecordTable) (new : LocatedTable) (payload : RequestPayload) : Type 0 where
  pub are : IsTableLocated payloads new
  pub is : located_table payloads new ≡ with_request_payload old payload
