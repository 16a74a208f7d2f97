-- The files of the list that tests run over as those of a new list.
use Rattle.std.proofs.Common.{◌≡◌, ◌≢◌, ℕ, suc, ◌+◌, ◌<◌, ◌≤◌, nat_lt, Bool, true, false, List, [], ◌∷◌, ◌++◌, length, take, get_or, refl, sym, ap, ◌∙◌, arith, length-take}
use Rattle.std.specs.Prelude.{All, AllPairs, Contains}
use Rattle.std.proofs.lemmas.Bool.{ltb-false, ltb-true}
use Rattle.std.proofs.lemmas.Bool.Decides.{Decides-ltb}
use Rattle.std.proofs.lemmas.List.{get_or-take, get_or_default, take_more}
use Rattle.base.specs.declared.file.FileName.{FileName}
use Rattle.base.specs.declared.graph.BuiltFile.{BuiltFile}
use Rattle.base.specs.declared.limits.TheConstants.{ARTEFACT_LIMIT}
use Rattle.base_bytes.specs.TextRefs.{is_text_ref, told_text, with_text}
use Rattle.base_bytes.proofs.Sized.{name_sizes-Decides, nat_le-Decides}
use Rattle.store_table.specs.Located.{IsProductRow, no_name, row_product, row_products}
use Rattle.store_table.specs.declared.products.ProductRow.{ProductRow}
use Rattle.store_table.proofs.Finding.{new_is}
use Rattle.passes_codec.specs.Forms.{FileDraft}
use Rattle.passes_codec.specs.PassTables.{are_listed_files, drafted_files, is_listed_file, with_list_texts}
use Rattle.passes_codec.specs.Compaction.{FitsBuilt}
use Rattle.passes_table.specs.Pending.{AreInOrder, all_known, known_after, row_draft, row_drafts, row_ref}

module _ (names : List FileName) (all : List (List ℕ)) where
  -- one row more
  pub drafts_push : (known : ℕ) (rows : List ProductRow) (row : ProductRow) → row_drafts names all known (rows ++ row ∷ []) ≡ row_drafts names all known rows ++ row_draft names all (all_known known rows) row ∷ []
  unfolding row_drafts all_known
  drafts_push known [] row = refl
  drafts_push known (r ∷ rows) row = ap (λ (ds : List FileDraft). row_draft names all known r ∷ ds) (drafts_push (known_after known r) rows row)

  pub drafts_length : (known : ℕ) (rows : List ProductRow) → length (row_drafts names all known rows) ≡ length rows
  unfolding row_drafts
  drafts_length known [] = refl
  drafts_length known (r ∷ rows) = ap suc (drafts_length (known_after known r) rows)

  -- the text of a row, over the texts that are there
  module _ (known : ℕ) (row : ProductRow) (low : row.text ≤ known) (there : row.text < length all) where
    at_known : nat_lt row.text known ≡ false → row.text ≡ known
    at_known e = omega (arith, low, ltb-false row.text known e)

    pub step_texts : with_text (take known all) (row_ref all known row) ≡ take (known_after known row) all
    step_texts = by (nat_lt row.text known) refl
      where
        by : (b : Bool) → nat_lt row.text known ≡ b → with_text (take known all) (row_ref all known row) ≡ take (known_after known row) all
        by true e = rw (e) refl
        by false e =
            let same : row.text ≡ known = at_known e in
            let more : known + 1 ≡ suc known = omega arith in
            rw (e) (ap (λ (n : ℕ). take known all ++ get_or all n [] ∷ []) same ∙ sym (take_more all known [] (omega (arith, same, there))) ∙ ap (λ (n : ℕ). take n all) more)

    pub step_told : known ≤ length all → told_text (take known all) (row_ref all known row) ≡ get_or all row.text []
    step_told within = by (nat_lt row.text known) refl
      where
        by : (b : Bool) → nat_lt row.text known ≡ b → told_text (take known all) (row_ref all known row) ≡ get_or all row.text []
        by true e = rw (e) (get_or-take known all row.text [] (ltb-true row.text known e))
        by false e = rw (e) refl

    pub step_ref : known ≤ length all → AllPairs (λ a b. a ≢ b) all → is_text_ref (take known all) (row_ref all known row) ≡ true
    step_ref within apart = by (nat_lt row.text known) refl
      where
        by : (b : Bool) → nat_lt row.text known ≡ b → is_text_ref (take known all) (row_ref all known row) ≡ true
        by true e = rw (e) ((Decides-ltb row.text (length (take known all))).1 (omega (arith, ltb-true row.text known e, length-take known all, within)))
        by false e =
            let same : row.text ≡ known = at_known e in
            let text : List ℕ = get_or all row.text [] in
            let never : ¬ Contains (take known all) (get_or all row.text []) = λ has.
            (let k : ℕ = has.0 in
            let low_k : k < known = omega (arith, has.1, length-take known all) in
            let here : get_or all k text ≡ get_or all row.text text = sym (get_or-take known all k text low_k) ∙ has.2 ∙ get_or_default all row.text [] text there in
            apart k row.text text (omega (arith, low_k, same)) there here) in
            rw (e) (new_is (take known all) text never)

  -- rows in order, over the first texts
  after_low : (known : ℕ) (row : ProductRow) → row.text ≤ known → row.text < length all → known ≤ length all → known_after known row ≤ length all
  after_low known row low there within = by (nat_lt row.text known) refl
    where
      by : (b : Bool) → nat_lt row.text known ≡ b → known_after known row ≤ length all
      by true e = rw (e) within
      by false e = rw (e) (omega (arith, ltb-false row.text known e, low, there))

  pub drafts_texts : (known : ℕ) (rows : List ProductRow) → AreInOrder known rows → All (IsProductRow names all) rows → with_list_texts (take known all) (row_drafts names all known rows) ≡ take (all_known known rows) all
  unfolding with_list_texts row_drafts all_known AreInOrder
  drafts_texts known [] is are = refl
  drafts_texts known (row ∷ rows) is are =
      let one : IsProductRow names all row = are 0 row (omega arith) in
      ap (λ (ts : List (List ℕ)). with_list_texts ts (row_drafts names all (known_after known row) rows)) (step_texts known row is.0 one.text) ∙ drafts_texts (known_after known row) rows is.1 (λ k d l. are (suc k) d (omega arith))

  pub drafts_files : (known : ℕ) (rows : List ProductRow) → known ≤ length all → AreInOrder known rows → All (IsProductRow names all) rows → drafted_files (take known all) (row_drafts names all known rows) ≡ row_products names all rows
  unfolding drafted_files row_drafts AreInOrder
  drafts_files known [] within is are = refl
  drafts_files known (row ∷ rows) within is are =
      let one : IsProductRow names all row = are 0 row (omega arith) in
      let rest : List FileDraft = row_drafts names all (known_after known row) rows in
      ap (λ (a : List ℕ). record { name = get_or names row.name no_name; artefact = a } ∷ drafted_files (with_text (take known all) (row_ref all known row)) rest) (step_told known row is.0 one.text within)
      ∙ ap (λ (ts : List (List ℕ)). row_product names all row ∷ drafted_files ts rest) (step_texts known row is.0 one.text)
      ∙ ap (λ (fs : List BuiltFile). row_product names all row ∷ fs) (drafts_files (known_after known row) rows (after_low known row is.0 one.text within) is.1 (λ k d l. are (suc k) d (omega arith)))

  one_valid : (known : ℕ) (row : ProductRow) → known ≤ length all → row.text ≤ known → IsProductRow names all row → AllPairs (λ a b. a ≢ b) all → FitsBuilt (row_product names all row) → is_listed_file (take known all) (row_draft names all known row) ≡ true
  one_valid known row within low one apart fits =
      let told = step_told known row low one.text within in
      rw (
        (name_sizes-Decides (get_or names row.name no_name)).1 fits.name,
        step_ref known row low one.text within apart,
        (nat_le-Decides (length (told_text (take known all) (row_ref all known row))) ARTEFACT_LIMIT).1 (omega (arith, fits.artefact, ap length told)),
      ) refl

  pub drafts_valid : (known : ℕ) (rows : List ProductRow) → known ≤ length all → AreInOrder known rows → All (IsProductRow names all) rows → AllPairs (λ a b. a ≢ b) all → All FitsBuilt (row_products names all rows) → are_listed_files (take known all) (row_drafts names all known rows) ≡ true
  unfolding are_listed_files row_drafts AreInOrder
  drafts_valid known [] within is are apart fits = refl
  drafts_valid known (row ∷ rows) within is are apart fits =
      let one : IsProductRow names all row = are 0 row (omega arith) in
      let first = one_valid known row within is.0 one apart (fits 0 (row_product names all row) (omega arith)) in
      let rest = drafts_valid (known_after known row) rows (after_low known row is.0 one.text within) is.1 (λ k d l. are (suc k) d (omega arith)) apart (λ k d l. fits (suc k) d (omega arith)) in
      rw (first) (ap (λ (ts : List (List ℕ)). are_listed_files ts (row_drafts names all (known_after known row) rows)) (step_texts known row is.0 one.text) ∙ rest)
