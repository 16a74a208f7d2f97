-- What one payload adds to a table.
use Rattle.std.specs.Prelude.{◌≡◌, ⊤, ℕ, ◌+◌, ◌≤◌, Bool, true, false, List, [], ◌∷◌, ◌++◌, length, All, Option, Some, None}
use Rattle.base.specs.Names.{FitsCommand}
use Rattle.base.specs.declared.file.FileName.{FileName}
use Rattle.base.specs.declared.limits.TheConstants.{ARTEFACT_LIMIT, FILE_LIMIT}
use Rattle.base_bytes.specs.TextRefs.{TextRef, is_text_ref, told_text, with_text}
use Rattle.store_table.specs.Checked.{ref_number}
use Rattle.store_table.specs.declared.texts.LocatedTexts.{LocatedTexts}
use Rattle.store_table.specs.Located.{AreTextsLocated, IsProductRow, located_texts, row_products}
use Rattle.testbench_runs.specs.Runs.{FitsRun}
use Rattle.testbench_runs.specs.declared.ends.TheConstants.{SHOWN_LIMIT}
use Rattle.passes_codec.specs.Forms.{FileDraft, ListRef, PassDraft}
use Rattle.passes_codec.specs.Forms.ListRef.{KnownList, NewList}
use Rattle.passes_codec.specs.PassTables.{IsListRef, IsValidPass, PassTable, are_listed_files, drafted_files, is_listed_file, with_list, with_list_texts, with_texts_of}
use Rattle.passes_codec.specs.Ranges.{HasFilesAt, list_in_range, pass_in_ranges}
use Rattle.passes_codec.specs.declared.reading.PassRanges.{PassRanges}
use Rattle.passes_table.specs.declared.lists.ListRow.{ListRow}
use Rattle.passes_table.specs.declared.additions.FoundList.{FoundList}
use Rattle.passes_table.specs.declared.additions.ListPart.{ListPart}
use Rattle.passes_table.specs.declared.additions.ListPart.TheVariants.{Known, New}
use Rattle.passes_table.specs.declared.additions.PassAddition.{PassAddition}
use Rattle.passes_table.specs.declared.checking.ListSoFar.{ListSoFar}

-- Rows are those of the files of a new list, over the texts with its new artefacts.
pub record AreRowsOf (names : List FileName) (texts : List (List ℕ)) (files : List FileDraft) (list : ListRow) : Type 0 where
  pub rows : All (IsProductRow names (with_list_texts texts files)) list.files
  pub are : row_products names (with_list_texts texts files) list.files ≡ drafted_files texts files

-- the number of an earlier list, or the rows of a new one
abbrev pub IsListPart : List FileName → List (List ℕ) → ListRef → ListPart → Type 0
IsListPart names texts (KnownList number) (Known found) = found ≡ number
IsListPart names texts (NewList files) (New list) = AreRowsOf names texts files list
IsListPart names texts (KnownList number) (New list) = ⊥
IsListPart names texts (NewList files) (Known found) = ⊥

-- a list is a new one
abbrev pub is_new : ListPart → Bool
is_new (Known number) = false
is_new (New list) = true

-- A list of a payload is found: what stands for it, and how many texts it adds.
pub record IsFoundList (names : List FileName) (texts : List (List ℕ)) (list : ListRef) (found : FoundList) : Type 0 where
  pub part : IsListPart names texts list found.part
  pub count : length (with_texts_of texts list) ≡ length texts + found.count

-- a list of a payload is valid and found, or it isn't valid
abbrev pub IsCheckedList : PassTable → List FileName → ListRef → Option FoundList → Type 0
IsCheckedList table names list None = ¬ IsListRef table list
IsCheckedList table names list (Some found) = IsListRef table list × IsFoundList names table.texts list found

-- the files of a new list are valid; an earlier list is by its number
abbrev pub HasListedFiles : List (List ℕ) → ListRef → Type 0
HasListedFiles texts (KnownList number) = ⊤
HasListedFiles texts (NewList files) = are_listed_files texts files ≡ true

-- the table with the list of a pass and the artefacts of that list, if these are new
abbrev pub with_list_of : PassTable → ListRef → PassTable
with_list_of table list = record { texts = with_texts_of table.texts list; lists = with_list table list; passes = table.passes }

-- The parts of a pass but its list are within their limits.
pub record HasSmallParts (draft : PassDraft) : Type 0 where
  pub run : FitsRun draft.run
  pub simulator : FitsCommand draft.simulator
  pub output : length draft.output ≤ SHOWN_LIMIT

-- The payload of a valid pass, the ranges of its parts, and its list.
pub record IsAddition (table : PassTable) (names : List FileName) (segment : List ℕ) (addition : PassAddition) : Type 0 where
  pub valid : IsValidPass table (pass_in_ranges segment addition.draft)
  pub files : HasFilesAt segment addition.draft.list
  pub list : IsFoundList names table.texts (list_in_range segment addition.draft.list) addition.list

-- a payload is that of a valid pass, of which this is known, or its pass isn't valid
abbrev pub IsCheckedPass : PassTable → List FileName → List ℕ → PassRanges → Option PassAddition → Type 0
IsCheckedPass table names segment draft None = ¬ IsValidPass table (pass_in_ranges segment draft)
IsCheckedPass table names segment draft (Some addition) = IsAddition table names segment addition × (addition.draft ≡ draft)

-- The files of a new list so far are valid, and these are their rows and their new texts.
pub record AreListed (segments : List (List ℕ)) (names : List FileName) (texts : List (List ℕ)) (files : List FileDraft) (list : ListSoFar) : Type 0 where
  pub valid : are_listed_files texts files ≡ true
  pub fresh : AreTextsLocated segments list.fresh
  pub texts_are : with_list_texts texts files ≡ texts ++ located_texts segments list.fresh
  pub rows : All (IsProductRow names (with_list_texts texts files)) list.rows
  pub are : row_products names (with_list_texts texts files) list.rows ≡ drafted_files texts files

-- The text of a file of a new list is valid over texts and new ones, among which it is now; with its number.
pub record IsArtefact (segments texts : List (List ℕ)) (old new : LocatedTexts) (source : TextRef) (number : ℕ) : Type 0 where
  pub there : is_text_ref (texts ++ located_texts segments old) source ≡ true
  pub small : length (told_text (texts ++ located_texts segments old) source) ≤ ARTEFACT_LIMIT
  pub is : number ≡ ref_number (texts ++ located_texts segments old) source
  pub located : AreTextsLocated segments new
  pub texts_are : texts ++ located_texts segments new ≡ with_text (texts ++ located_texts segments old) source

-- the number of the text of a file of a new list, or the text isn't valid
abbrev pub IsCheckedArtefact : (segments texts : List (List ℕ)) → (old new : LocatedTexts) → TextRef → Option ℕ → Type 0
IsCheckedArtefact segments texts old new source None = (is_text_ref (texts ++ located_texts segments old) source ≡ true) → ¬ (length (told_text (texts ++ located_texts segments old) source) ≤ ARTEFACT_LIMIT)
IsCheckedArtefact segments texts old new source (Some number) = IsArtefact segments texts old new source number

-- one more file of a new list is valid and listed, or it isn't valid
abbrev pub IsListedNext : Bool → (segments : List (List ℕ)) → List FileName → List (List ℕ) → List FileDraft → FileDraft → ListSoFar → Type 0
IsListedNext true segments names texts files file list = AreListed segments names texts (files ++ file ∷ []) list
IsListedNext false segments names texts files file list = is_listed_file (with_list_texts texts files) file ≡ false

-- the files of a new list are few, valid and listed, or they aren't few and valid
abbrev pub IsListedWhole : (segments : List (List ℕ)) → List FileName → List (List ℕ) → List FileDraft → Option ListSoFar → Type 0
IsListedWhole segments names texts files None = (length files ≤ FILE_LIMIT) → are_listed_files texts files ≡ false
IsListedWhole segments names texts files (Some list) = (length files ≤ FILE_LIMIT) × AreListed segments names texts files list
