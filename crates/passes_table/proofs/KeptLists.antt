-- Writing a list that is kept, file by file.
use Rattle.std.proofs.Common.{◌≡◌, ℕ, suc, ◌+◌, ◌<◌, ◌≤◌, List, [], ◌∷◌, ◌++◌, length, map, drop, get_or, refl, sym, ap, subst, ◌∙◌, append_assoc, arith}
use Rattle.std.specs.List.{flat_map}
use Rattle.std.proofs.Math.Seq.{drop-cons}
use Rattle.std.proofs.Math.ListN.{drop_of_length-le}
use Rattle.std.specs.Prelude.{All, Some, slice_get}
use Rattle.std.proofs.lemmas.List.{append-nil, get_or-map, length-map}
use Rattle.std.proofs.lemmas.Option.{get_or_from_slice_get, slice_get_within}
use Rattle.base.specs.Bytes.{number_bytes}
use Rattle.base.specs.declared.file.FileName.{FileName}
use Rattle.base.specs.declared.graph.BuiltFile.{BuiltFile}
use Rattle.base.specs.declared.limits.TheConstants.{FILE_LIMIT}
use Rattle.base_collections.specs.Numbers.{NumbersBelow}
use Rattle.store_codec.specs.Compaction.{compacted_ref, with_compacted_text}
use Rattle.store_table.specs.NumberSets.{AreNumbers}
use Rattle.store_table.specs.Located.{located_texts, no_row, row_product, row_products}
use Rattle.store_table.specs.declared.products.ProductRow.{ProductRow}
use Rattle.passes_codec.specs.Compaction.{FitsBuilt, spelled_files}
use Rattle.passes_codec.specs.Forms.{FileDraft, file_bytes, files_bytes, list_ref_bytes}
use Rattle.passes_codec.specs.Forms.ListRef.{NewList}
use Rattle.passes_codec.specs.PassTables.{PassTable, with_list_texts}
use Rattle.passes_codec.proofs.SpelledPasses.{files_counted}
use Rattle.passes_codec.proofs.TablePasses.{FitsList, all_lists_fit}
use Rattle.passes_table.specs.declared.lists.ListRow.{ListRow}
use Rattle.passes_table.specs.declared.table.LocatedPasses.{LocatedPasses}
use Rattle.passes_table.specs.Located.{ArePassesHeld, listed_files, located_passes}
use Rattle.passes_table.specs.Kept.{numbered_texts}

module _ (names : List FileName) (texts : List (List ℕ)) (rows : List ProductRow) where
  abbrev files : List ProductRow → List BuiltFile
  files some = row_products names texts some

  -- the bytes of files over texts, and the texts after them
  abbrev written : List (List ℕ) → List ProductRow → List ℕ
  written now some = flat_map file_bytes (spelled_files now (files some))

  abbrev texts_after : List (List ℕ) → List ProductRow → List (List ℕ)
  texts_after now some = with_list_texts now (spelled_files now (files some))

  -- Files are written up to an index, and the others follow.
  pub record IsWritten (start : List ℕ) (first : NumbersBelow) (index : ℕ) (out : List ℕ) (set : NumbersBelow) : Type 0 where
    pub are : AreNumbers (length texts) set
    pub bytes : out ++ written (numbered_texts texts set.numbers) (drop index rows) ≡ start ++ written (numbered_texts texts first.numbers) rows
    pub kept : texts_after (numbered_texts texts set.numbers) (drop index rows) ≡ texts_after (numbered_texts texts first.numbers) rows

  pub written_first : (start : List ℕ) (first : NumbersBelow) → AreNumbers (length texts) first → IsWritten start first 0 start first
  written_first start first are = record { are = are; bytes = refl; kept = refl }

  -- a file as it is spelled
  abbrev pub spelled_row : NumbersBelow → ProductRow → FileDraft
  spelled_row set row = record { name = (row_product names texts row).name; artefact = compacted_ref (numbered_texts texts set.numbers) (row_product names texts row).artefact }

  pub written_next : (start : List ℕ) (first : NumbersBelow) (index : ℕ) (out next : List ℕ) (set more : NumbersBelow) (row : ProductRow) → index < length rows → get_or rows index no_row ≡ row → IsWritten start first index out set → AreNumbers (length texts) more → next ≡ out ++ file_bytes (spelled_row set row) → numbered_texts texts more.numbers ≡ with_compacted_text (numbered_texts texts set.numbers) (row_product names texts row).artefact → IsWritten start first (index + 1) next more
  unfolding spelled_files with_list_texts
  written_next start first index out next set more row low here is are put kept =
      let rest : List ProductRow = drop (suc index) rows in
      let now : List (List ℕ) = numbered_texts texts set.numbers in
      let after : List (List ℕ) = with_compacted_text now (row_product names texts row).artefact in
      let cut : drop index rows ≡ row ∷ rest = drop-cons rows index no_row low ∙ ap (λ (r : ProductRow). r ∷ rest) here in
      let next_is : index + 1 ≡ suc index = omega arith in
      let one : drop (index + 1) rows ≡ rest = ap (λ (n : ℕ). drop n rows) next_is in
      record {
        are = are;
        bytes =
            ap (λ (rs : List ProductRow). next ++ written (numbered_texts texts more.numbers) rs) one
            ∙ ap (λ (o : List ℕ). o ++ written (numbered_texts texts more.numbers) rest) put
            ∙ append_assoc out (file_bytes (spelled_row set row)) (written (numbered_texts texts more.numbers) rest)
            ∙ ap (λ (ts : List (List ℕ)). out ++ (file_bytes (spelled_row set row) ++ written ts rest)) kept
            ∙ ap (λ (rs : List ProductRow). out ++ written now rs) (sym cut)
            ∙ is.bytes;
        kept =
            ap (λ (rs : List ProductRow). texts_after (numbered_texts texts more.numbers) rs) one
            ∙ ap (λ (ts : List (List ℕ)). texts_after ts rest) kept
            ∙ ap (λ (rs : List ProductRow). texts_after now rs) (sym cut)
            ∙ is.kept;
      }

  module _ (start : List ℕ) (first : NumbersBelow) (index : ℕ) (out : List ℕ) (set : NumbersBelow) (all : length rows ≤ index) (is : IsWritten start first index out set) where
    none : drop index rows ≡ []
    none = drop_of_length-le rows all

    pub written_all : out ≡ start ++ written (numbered_texts texts first.numbers) rows
    unfolding spelled_files
    written_all = sym (append-nil out) ∙ ap (λ (rs : List ProductRow). out ++ written (numbered_texts texts set.numbers) rs) (sym none) ∙ is.bytes

    pub kept_all : numbered_texts texts set.numbers ≡ texts_after (numbered_texts texts first.numbers) rows
    unfolding spelled_files with_list_texts
    kept_all = ap (λ (rs : List ProductRow). texts_after (numbered_texts texts set.numbers) rs) (sym none) ∙ is.kept

  -- a list as it is written: its tag, the count of its files, and its files
  pub list_written : (old : List ℕ) (now : List (List ℕ)) (built : List BuiltFile) → built ≡ files rows → (old ++ 1 ∷ number_bytes (length rows)) ++ written now rows ≡ old ++ list_ref_bytes (NewList (spelled_files now built))
  unfolding list_ref_bytes files_bytes
  list_written old now built is =
      append_assoc old (1 ∷ number_bytes (length rows)) (written now rows)
      ∙ ap (λ (n : ℕ). old ++ (1 ∷ (number_bytes n ++ written now rows))) (sym (files_counted now (files rows) ∙ length-map rows (row_product names texts)))
      ∙ ap (λ (b : List BuiltFile). old ++ (1 ∷ (number_bytes (length (spelled_files now b)) ++ flat_map file_bytes (spelled_files now b)))) (sym is)

-- a list of a table is that of its rows, and within the limits
listed_row : (segments : List (List ℕ)) (table : LocatedPasses) (list : ℕ) (row : ListRow) → ArePassesHeld segments table → slice_get table.lists.keys list ≡ Some row → (get_or (located_passes segments table).lists list [] ≡ row_products table.names.keys (located_texts segments table.texts) row.files) × FitsList (row_products table.names.keys (located_texts segments table.texts) row.files)
listed_row segments table list row held is =
    let f : ListRow → List BuiltFile = listed_files table.names.keys (located_texts segments table.texts) in
    let low : list < length table.lists.keys = slice_get_within table.lists.keys list row is in
    let here : get_or (map f table.lists.keys) list [] ≡ f row = get_or-map f table.lists.keys list row [] low ∙ ap f (get_or_from_slice_get table.lists.keys list row row is) in
    let fit : All FitsList (located_passes segments table).lists = subst (λ (t : PassTable). All FitsList t.lists) (sym held.is) (all_lists_fit segments) in
    (here, subst FitsList here (fit list [] (omega (arith, low, length-map table.lists.keys f))))

-- the rows of a list as a loop has them
pub listed_rows : (segments : List (List ℕ)) (table : LocatedPasses) (list : ℕ) (row : ListRow) (rows : List ProductRow) → ArePassesHeld segments table → slice_get table.lists.keys list ≡ Some row → rows ≡ row.files → (get_or (located_passes segments table).lists list [] ≡ row_products table.names.keys (located_texts segments table.texts) rows) × FitsList (row_products table.names.keys (located_texts segments table.texts) rows)
listed_rows segments table list row rows held is same = subst (λ (rs : List ProductRow). (get_or (located_passes segments table).lists list [] ≡ row_products table.names.keys (located_texts segments table.texts) rs) × FitsList (row_products table.names.keys (located_texts segments table.texts) rs)) (sym same) (listed_row segments table list row held is)

-- there are few, and each is within the limits
pub few_rows : (names : List FileName) (texts : List (List ℕ)) (rows : List ProductRow) → FitsList (row_products names texts rows) → length rows ≤ FILE_LIMIT
few_rows names texts rows fits = omega (arith, fits.0, length-map rows (row_product names texts))

pub fits_at : (names : List FileName) (texts : List (List ℕ)) (rows : List ProductRow) (index : ℕ) → FitsList (row_products names texts rows) → index < length rows → FitsBuilt (row_product names texts (get_or rows index no_row))
fits_at names texts rows index fits low = subst FitsBuilt (get_or-map (row_product names texts) rows index no_row (row_product names texts no_row) low) (fits.1 index (row_product names texts no_row) (omega (arith, low, length-map rows (row_product names texts))))
