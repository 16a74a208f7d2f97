-- The bytes of the files of the list that tests run over, row by row.
use Rattle.std.proofs.Common.{◌≡◌, ℕ, zero, suc, ◌+◌, ◌<◌, ◌≤◌, List, [], ◌∷◌, ◌++◌, length, take, get_or, refl, sym, ap, subst, ◌∙◌, arith}
use Rattle.std.specs.Prelude.{Contains}
use Rattle.std.specs.List.{flat_map}
use Rattle.std.proofs.lemmas.List.{append-nil, get_or-map, get_or_default, length-map, take_more}
use Rattle.std.proofs.lemmas.List.Concat.{flat_map-append}
use Rattle.base.specs.declared.file.FileName.{FileName}
use Rattle.store_table.specs.Located.{IsProductRow, row_product}
use Rattle.store_table.specs.declared.products.ProductRow.{ProductRow}
use Rattle.passes_codec.specs.Forms.{FileDraft, file_bytes}
use Rattle.passes_table.specs.declared.pending.PendingList.{PendingList}
use Rattle.passes_codec.specs.Compaction.{FitsBuilt}
use Rattle.passes_table.specs.Pending.{AreInOrder, IsPending, all_known, all_texts, known_after, row_draft, row_drafts}
use Rattle.passes_table.proofs.PendingFiles.{known_push}
use Rattle.passes_table.proofs.RowDrafts.{drafts_push}

-- a row of the list is of a name and a text that are there, and is within its limits
pub pending_row : (names : List FileName) (texts : List (List ℕ)) (list : PendingList) (row : ProductRow) → IsPending names texts list → Contains list.row.files row → IsProductRow names (all_texts texts list) row × FitsBuilt (row_product names (all_texts texts list) row)
pending_row names texts list row is has =
    let k : ℕ = has.0 in (
      subst (IsProductRow names (all_texts texts list)) has.2 (is.rows k row has.1),
      subst FitsBuilt (get_or-map (row_product names (all_texts texts list)) list.row.files k row (row_product names (all_texts texts list) row) has.1 ∙ ap (row_product names (all_texts texts list)) has.2) (is.fits k (row_product names (all_texts texts list) row) (omega (arith, has.1, length-map list.row.files (row_product names (all_texts texts list))))),
    )

order_at : (known : ℕ) (rows : List ProductRow) (i : ℕ) (d : ProductRow) → AreInOrder known rows → i < length rows → (get_or rows i d).text ≤ all_known known (take i rows)
unfolding all_known AreInOrder
order_at known [] i d is low = absurd (omega (arith, low))
order_at known (r ∷ rows) zero d is low = is.0
order_at known (r ∷ rows) (suc i) d is low = order_at (known_after known r) rows i d is.1 (omega arith)

pub none_known : (known : ℕ) → known ≡ all_known known []
unfolding all_known
none_known known = refl

pub no_drafts : (names : List FileName) (all : List (List ℕ)) (known : ℕ) → [] ≡ flat_map file_bytes (row_drafts names all known [])
unfolding row_drafts
no_drafts names all known = refl

abbrev pub no_product : ProductRow
no_product = record { name = 0; text = 0 }

-- one row more
module _ (names : List FileName) (all : List (List ℕ)) (known : ℕ) (rows : List ProductRow) (i : ℕ) (row : ProductRow) (low : i < length rows) (is : get_or rows i row ≡ row) where
  taken : take (i + 1) rows ≡ take i rows ++ row ∷ []
  taken = take_more rows i row low ∙ ap (λ (r : ProductRow). take i rows ++ r ∷ []) is

  next_known : all_known known (take (i + 1) rows) ≡ known_after (all_known known (take i rows)) row
  next_known = ap (all_known known) taken ∙ known_push known (take i rows) row

  next_bytes : flat_map file_bytes (row_drafts names all known (take (i + 1) rows)) ≡ flat_map file_bytes (row_drafts names all known (take i rows)) ++ file_bytes (row_draft names all (all_known known (take i rows)) row)
  next_bytes =
      let draft : FileDraft = row_draft names all (all_known known (take i rows)) row in
      let before : List FileDraft = row_drafts names all known (take i rows) in
      ap (λ (rs : List ProductRow). flat_map file_bytes (row_drafts names all known rs)) taken
      ∙ ap (flat_map file_bytes) (drafts_push names all known (take i rows) row)
      ∙ flat_map-append file_bytes before (draft ∷ [])
      ∙ ap (λ (bs : List ℕ). flat_map file_bytes before ++ bs) (append-nil (file_bytes draft))

-- a loop over the rows of the list, with how many texts are known so far
module _ (names : List FileName) (all : List (List ℕ)) (first : ℕ) (files rows : List ProductRow) (same : rows ≡ files) (i known : ℕ) (low : i < length rows) (so_far : known ≡ all_known first (take i files)) where
  abbrev here : ProductRow
  here = get_or rows i no_product

  low_here : i < length files
  low_here = omega (arith, low, ap length same)

  is_here : get_or files i here ≡ here
  is_here = get_or_default files i here no_product low_here ∙ ap (λ (rs : List ProductRow). get_or rs i no_product) (sym same)

  pub has_row : Contains files here
  has_row = (i, low_here, is_here)

  pub row_in_order : AreInOrder first files → here.text ≤ known
  row_in_order order = omega (arith, order_at first files i no_product order low_here, ap (λ (rs : List ProductRow). (get_or rs i no_product).text) same, so_far)

  pub known_next : known_after known here ≡ all_known first (take (i + 1) files)
  known_next = ap (λ (n : ℕ). known_after n here) so_far ∙ sym (next_known names all first files i here low_here is_here)

  pub bytes_next : flat_map file_bytes (row_drafts names all first (take (i + 1) files)) ≡ flat_map file_bytes (row_drafts names all first (take i files)) ++ file_bytes (row_draft names all known here)
  bytes_next = next_bytes names all first files i here low_here is_here ∙ ap (λ (n : ℕ). flat_map file_bytes (row_drafts names all first (take i files)) ++ file_bytes (row_draft names all n here)) (sym so_far)
