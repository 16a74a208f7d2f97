-- A list of products contains a product exactly if the list of rows contains its row.
use Rattle.std.proofs.Common.{◌≡◌, ◌≢◌, ℕ, ◌<◌, Bool, true, false, List, [], ◌∷◌, ◌++◌, length, get_or, Some, length-append, refl, sym, ap, subst, ◌∙◌, arith}
use Rattle.std.specs.Prelude.{All, AllPairs, Contains, slice_get}
use Rattle.std.specs.Bool.{one_answer}
use Rattle.std.specs.List.{list_any}
use Rattle.std.proofs.lemmas.Bool.{ltb-true}
use Rattle.std.proofs.lemmas.List.{append-nil, get_or-map, get_or_at, get_or_default, length-map}
use Rattle.std.proofs.lemmas.Option.{get_or_from_slice_get, slice_get-get_or, slice_get_within}
use Rattle.base.specs.declared.file.FileName.{FileName}
use Rattle.base.specs.declared.graph.BuiltFile.{BuiltFile}
use Rattle.base_collections.specs.declared.splits.Split.{Split}
use Rattle.base_collections.specs.Splits.{AreSplit}
use Rattle.base_bytes.specs.TextRefs.{TextRef, is_text_ref, told_text}
use Rattle.base_bytes.specs.TextRefs.TextRef.{ByNumber, InFull}
use Rattle.store_codec.specs.RecordTables.{is_same_built}
use Rattle.store_codec.proofs.Deciding.{same_built-Decides}
use Rattle.store_table.specs.declared.products.ProductRow.{ProductRow}
use Rattle.store_table.specs.Checked.{IsNameNumber, PutsProduct, ref_number}
use Rattle.store_table.specs.Located.{IsProductRow, no_name, row_product, row_products}
use Rattle.store_table.specs.ProductRows.{is_same_product_row, product_rows_decide}
use Rattle.store_table.proofs.Finding.{any_decides, is_new, once_at, ref_old, texts_once}

row_by : ℕ → ℕ → ProductRow
row_by name text = record { name = name; text = text }

same_rows : (a b : ProductRow) → a.name ≡ b.name → a.text ≡ b.text → a ≡ b
same_rows a b e f = ap (λ (n : ℕ). record { name = n; text = a.text }) e ∙ ap (λ (n : ℕ). record { name = b.name; text = n }) f

module _ (names : List FileName) (texts : List (List ℕ)) (splits : List Split) (rows : List ProductRow) (once : AllPairs (λ a b. a ≢ b) names) (split : AreSplit texts splits) (are : All (IsProductRow names texts) rows) where
  -- the product of a row among those of rows
  row_there : (row : ProductRow) → Contains rows row → Contains (row_products names texts rows) (row_product names texts row)
  row_there row has =
      let k : ℕ = has.0 in (
        k,
        omega (arith, has.1, length-map rows (row_product names texts)),
        get_or-map (row_product names texts) rows k row (row_product names texts row) has.1 ∙ ap (row_product names texts) has.2,
      )

  -- a product with the text of a draft, whose row is there
  pub draft_there : (name : FileName) (number : ℕ) (source : TextRef) (row : ProductRow) → IsNameNumber names name number → row.name ≡ number → row.text ≡ ref_number texts source → Contains rows row → list_any (is_same_built (record { name = name; artefact = told_text texts source })) (row_products names texts rows) ≡ true
  draft_there name number source row named name_is text_is has =
      let there : IsProductRow names texts row = subst (IsProductRow names texts) has.2 (are has.0 row has.1) in
      let told : told_text texts source ≡ get_or texts row.text [] = ref_old texts source (omega (arith, there.text, text_is)) ∙ ap (λ (n : ℕ). get_or texts n []) (sym text_is) in
      let own : get_or names row.name no_name ≡ name = ap (λ (n : ℕ). get_or names n no_name) name_is ∙ get_or_from_slice_get names number name no_name named in
      let same : row_product names texts row ≡ record { name = name; artefact = told_text texts source } =
      ap (λ (n : FileName). record { name = n; artefact = get_or texts row.text [] }) own ∙ ap (λ (a : List ℕ). record { name = name; artefact = a }) (sym told) in
      (any_decides same_built-Decides (row_products names texts rows) (record { name = name; artefact = told_text texts source })).1 (subst (Contains (row_products names texts rows)) same (row_there row has))

  -- the row of a product that is there
  pub row_of_draft : (name : FileName) (number : ℕ) (source : TextRef) (row : ProductRow) → IsNameNumber names name number → row.name ≡ number → row.text ≡ ref_number texts source → is_text_ref texts source ≡ true → Contains (row_products names texts rows) (record { name = name; artefact = told_text texts source }) → Contains rows row
  row_of_draft name number source row named name_is text_is is has =
      let k : ℕ = has.0 in
      let low : k < length rows = omega (arith, has.1, length-map rows (row_product names texts)) in
      let a : ProductRow = get_or rows k row in
      let there : IsProductRow names texts a = are k row low in
      let same : row_product names texts a ≡ record { name = name; artefact = told_text texts source } = sym (get_or-map (row_product names texts) rows k row (record { name = name; artefact = told_text texts source }) low) ∙ has.2 in
      let own : get_or names a.name no_name ≡ get_or names number no_name = ap (λ (f : BuiltFile). f.name) same ∙ sym (get_or_from_slice_get names number name no_name named) in
      let names_same : a.name ≡ row.name = once_at names no_name once a.name number there.name (slice_get_within names number name named) own ∙ sym name_is in
      let texts_same : a.text ≡ row.text = by source text_is is (ap (λ (f : BuiltFile). f.artefact) same) in
      (k, low, same_rows a row names_same texts_same)
    where
      by : (source : TextRef) → row.text ≡ ref_number texts source → is_text_ref texts source ≡ true → get_or texts (get_or rows has.0 row).text [] ≡ told_text texts source → (get_or rows has.0 row).text ≡ row.text
      by (ByNumber n) text_is is e = texts_once texts splits split (get_or rows has.0 row).text n (are has.0 row (omega (arith, has.1, length-map rows (row_product names texts)))).text (ltb-true _ _ is) e ∙ sym text_is
      by (InFull text) text_is is e = absurd (is_new texts text is ((get_or rows has.0 row).text, (are has.0 row (omega (arith, has.1, length-map rows (row_product names texts)))).text, get_or_default texts (get_or rows has.0 row).text text [] (are has.0 row (omega (arith, has.1, length-map rows (row_product names texts)))).text ∙ e))

  -- a product whose row isn't there
  pub no_draft_there : (name : FileName) (number : ℕ) (source : TextRef) (row : ProductRow) → IsNameNumber names name number → row.name ≡ number → row.text ≡ ref_number texts source → is_text_ref texts source ≡ true → (¬ Contains rows row) → list_any (is_same_built (record { name = name; artefact = told_text texts source })) (row_products names texts rows) ≡ false
  no_draft_there name number source row named name_is text_is is never = by (list_any (is_same_built (record { name = name; artefact = told_text texts source })) (row_products names texts rows)) refl
    where
      by : (b : Bool) → list_any (is_same_built (record { name = name; artefact = told_text texts source })) (row_products names texts rows) ≡ b → b ≡ false
      by true e = absurd (never (row_of_draft name number source row named name_is text_is is ((any_decides same_built-Decides (row_products names texts rows) (record { name = name; artefact = told_text texts source })).0 e)))
      by false e = refl

  -- the two tests are the same
  pub same_test : (name : FileName) (number : ℕ) (source : TextRef) (row : ProductRow) → IsNameNumber names name number → row.name ≡ number → row.text ≡ ref_number texts source → is_text_ref texts source ≡ true → list_any (is_same_product_row row) rows ≡ list_any (is_same_built (record { name = name; artefact = told_text texts source })) (row_products names texts rows)
  same_test name number source row named name_is text_is is =
      let built : BuiltFile = record { name = name; artefact = told_text texts source } in
      let one = any_decides product_rows_decide rows row in
      let two = any_decides same_built-Decides (row_products names texts rows) built in
      one_answer (list_any (is_same_product_row row) rows) (list_any (is_same_built built) (row_products names texts rows)) one (
        λ e. row_of_draft name number source row named name_is text_is is (two.0 e),
        λ has. draft_there name number source row named name_is text_is has,
      )

-- a row that is there, and one that is put at the end
pub puts_old : (row : ProductRow) (number : ℕ) (rows : List ProductRow) → slice_get rows number ≡ Some row → PutsProduct row number rows rows
puts_old row number rows found = record {
  more = [];
  grown = sym (append-nil rows);
  numbered = found;
  new_is = rw ((any_decides product_rows_decide rows row).1 (number, slice_get_within rows number row found, get_or_from_slice_get rows number row row found)) refl;
}

none_any : (rows : List ProductRow) (row : ProductRow) → (¬ Contains rows row) → list_any (is_same_product_row row) rows ≡ false
none_any rows row never = by (list_any (is_same_product_row row) rows) refl
  where
    by : (b : Bool) → list_any (is_same_product_row row) rows ≡ b → b ≡ false
    by true e = absurd (never ((any_decides product_rows_decide rows row).0 e))
    by false e = refl

pub puts_new : (row : ProductRow) (number : ℕ) (rows now : List ProductRow) → (¬ Contains rows row) → number ≡ length rows → now ≡ rows ++ row ∷ [] → PutsProduct row number rows now
puts_new row number rows now never at e = record {
  more = row ∷ [];
  grown = e;
  numbered = ap (λ (rs : List ProductRow). slice_get rs number) e ∙ slice_get-get_or (rows ++ row ∷ []) number row (omega (arith, at, length-append rows (row ∷ []))) ∙ ap Some (get_or_at rows row [] row number (sym at));
  new_is = rw (none_any rows row never) e;
}
