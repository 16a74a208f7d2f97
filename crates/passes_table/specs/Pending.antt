-- The list of the files that tests run over, which may have texts that payloads lack.
use Rattle.std.specs.Prelude.{◌≡◌, ◌≢◌, ⊤, ℕ, suc, nat_lt, ◌+◌, ◌≤◌, List, [], ◌∷◌, ◌++◌, length, All, AllPairs, slice_index_or, Bool, true, false, Result, Ok, Err, if◌then◌else◌}
use Rattle.base.specs.declared.file.FileName.{FileName}
use Rattle.base.specs.declared.graph.BuiltFile.{BuiltFile}
use Rattle.base.specs.declared.limits.TheConstants.{FILE_LIMIT}
use Rattle.base_bytes.specs.TextRefs.{TextRef}
use Rattle.base_bytes.specs.TextRefs.TextRef.{ByNumber, InFull}
use Rattle.store_table.specs.Located.{AreTextsLocated, IsProductRow, located_texts, no_name, row_products}
use Rattle.store_table.specs.declared.products.ProductRow.{ProductRow}
use Rattle.passes_codec.specs.Forms.{FileDraft}
use Rattle.passes_codec.specs.Compaction.{FitsBuilt}
use Rattle.passes_table.specs.declared.pending.FreshTexts.{FreshTexts}
use Rattle.passes_table.specs.declared.pending.PendingList.{PendingList}

-- how many texts are there after a row, which may have the next one
abbrev pub known_after : ℕ → ProductRow → ℕ
known_after known row = if nat_lt row.text known then known else suc known

-- how many texts are there after rows
unfoldable pub all_known : ℕ → List ProductRow → ℕ
all_known known [] = known
all_known known (row ∷ rows) = all_known (known_after known row) rows

-- each row has a known text, or the next one
unfoldable pub AreInOrder : ℕ → List ProductRow → Type 0
AreInOrder known [] = ⊤
AreInOrder known (row ∷ rows) = (row.text ≤ known) × AreInOrder (known_after known row) rows

-- the text of a row: by its number if it is known, or else in full
abbrev pub row_ref : List (List ℕ) → ℕ → ProductRow → TextRef
row_ref texts known row = if nat_lt row.text known then ByNumber row.text else InFull (slice_index_or texts row.text [])

-- a row as a file of a new list
abbrev pub row_draft : List FileName → List (List ℕ) → ℕ → ProductRow → FileDraft
row_draft names texts known row = record { name = slice_index_or names row.name no_name; artefact = row_ref texts known row }

-- rows as the files of a new list, each text in full at its first file
unfoldable pub row_drafts : List FileName → List (List ℕ) → ℕ → List ProductRow → List FileDraft
row_drafts names texts known [] = []
row_drafts names texts known (row ∷ rows) = row_draft names texts known row ∷ row_drafts names texts (known_after known row) rows

-- the texts that payloads lack
abbrev pub fresh_in : FreshTexts → List (List ℕ)
fresh_in fresh = located_texts fresh.held.segments fresh.texts

-- all texts of files: first the texts of the payloads, then the new ones
abbrev pub all_texts : List (List ℕ) → PendingList → List (List ℕ)
all_texts texts list = texts ++ fresh_in list.fresh

-- The list is of names and texts that are there, within its limits, and each text that payloads lack comes first in order.
pub record IsPending (names : List FileName) (texts : List (List ℕ)) (list : PendingList) : Type 0 where
  pub located : AreTextsLocated list.fresh.held.segments list.fresh.texts
  pub apart : AllPairs (λ a b. a ≢ b) (all_texts texts list)
  pub rows : All (IsProductRow names (all_texts texts list)) list.row.files
  pub in_order : AreInOrder (length texts) list.row.files
  pub all : all_known (length texts) list.row.files ≡ length texts + length (fresh_in list.fresh)
  pub few : length list.row.files ≤ FILE_LIMIT
  pub fits : All FitsBuilt (row_products names (all_texts texts list) list.row.files)

-- the built files of the list, over names and the texts of payloads
abbrev pub pending_files : List FileName → List (List ℕ) → PendingList → List BuiltFile
pending_files names texts list = row_products names (all_texts texts list) list.row.files

-- a file was added at the end, or after a fault none was
abbrev pub IsWithFile : {T E : Type 0} → Result T E → List FileName → List (List ℕ) → BuiltFile → (old new : PendingList) → Type 0
IsWithFile (Ok value) names texts file old new = IsPending names texts new × (pending_files names texts new ≡ pending_files names texts old ++ file ∷ [])
IsWithFile (Err fault) names texts file old new = IsPending names texts new × (pending_files names texts new ≡ pending_files names texts old)

-- the copies after a list was put: none after a new list, and unchanged after an earlier one
abbrev pub IsRenewed : Bool → (old new : PendingList) → Type 0
IsRenewed true old new = AreTextsLocated new.fresh.held.segments new.fresh.texts × (fresh_in new.fresh ≡ []) × (new.row ≡ old.row)
IsRenewed false old new = new ≡ old
