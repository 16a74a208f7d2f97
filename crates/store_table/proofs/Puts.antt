-- One more record or product on a table.
use Rattle.std.proofs.Common.{◌≡◌, ◌≢◌, ℕ, ◌<◌, Bool, true, false, List, [], ◌∷◌, ◌++◌, length, map, get_or, refl, sym, ap, subst, ◌∙◌, arith}
use Rattle.std.specs.Prelude.{All, AllPairs, if◌then◌else◌}
use Rattle.std.specs.List.{list_any}
use Rattle.std.proofs.lemmas.List.{get_or-map, length-map, map-append}
use Rattle.std.proofs.lemmas.List.Elements.{All-push}
use Rattle.std.proofs.lemmas.Option.{get_or_from_slice_get, slice_get_within}
use Rattle.base.specs.declared.file.FileName.{FileName}
use Rattle.base.specs.declared.graph.BuiltFile.{BuiltFile}
use Rattle.base_collections.specs.declared.splits.Split.{Split}
use Rattle.base_collections.specs.Splits.{AreSplit}
use Rattle.store_codec.specs.Forms.{ProductDraft, RequestDraft}
use Rattle.base_bytes.specs.TextRefs.{TextRef, is_text_ref, told_text, with_text}
use Rattle.outside.specs.Records.{Record as RequestRecord}
use Rattle.base_bytes.specs.Ranges.{counted_numbers, counted_words}
use Rattle.store_codec.specs.RecordTables.{IsNewProduct, IsRequest, RecordTable, drafted_artefact, drafted_product, drafted_record, no_product, product_at, with_built, with_product, with_request}
use Rattle.store_table.specs.declared.products.ProductRow.{ProductRow}
use Rattle.store_table.specs.declared.table.RecordRow.{RecordRow}
use Rattle.store_table.specs.ProductRows.{is_same_product_row}
use Rattle.store_table.specs.Checked.{AreTextNumbers, IsNameNumber, PutsProduct, ref_number}
use Rattle.store_table.specs.Located.{AreRowsLocated, IsProductRow, IsRecordRow, no_name, no_row, nth_payload, row_product, row_products, row_record, table_by}
use Rattle.store_table.specs.declared.checking.TextNumbers.{TextNumbers}
use Rattle.store_table.proofs.Finding.{ref_there, ref_told}
use Rattle.store_table.proofs.Keeping.{Keeps, below_still, keeps_both, keeps_more, keeps_self, keeps_text, located_still, product_row_still, products_still, records_still}
use Rattle.store_table.proofs.RowProducts.{same_test}

table_of_parts : List (List ℕ) → List BuiltFile → List RequestRecord → RecordTable
table_of_parts texts products records = record { texts = texts; products = products; records = records }

-- a product, with a name and a text that are there, is put
module _ (names : List FileName) (before texts : List (List ℕ)) (splits : List Split) (rows rows' : List ProductRow) (once : AllPairs (λ a b. a ≢ b) names) (split : AreSplit before splits) (are : All (IsProductRow names before) rows) (row : ProductRow) (number : ℕ) (puts : PutsProduct row number rows rows') (kept : Keeps before texts) (source : TextRef) (is : is_text_ref before source ≡ true) (texts_is : texts ≡ with_text before source) (name : FileName) (named : IsNameNumber names name row.name) (text_is : row.text ≡ ref_number before source) where
  own : BuiltFile
  own = record { name = name; artefact = told_text before source }

  own_row : row_product names texts row ≡ record { name = name; artefact = told_text before source }
  own_row =
      let n : get_or names row.name no_name ≡ name = get_or_from_slice_get names row.name name no_name named in
      let t : get_or texts row.text [] ≡ told_text before source = ap (λ (ts : List (List ℕ)). get_or ts row.text []) texts_is ∙ ap (λ (k : ℕ). get_or (with_text before source) k []) text_is ∙ ref_told before source in
      ap (λ (n : FileName). record { name = n; artefact = get_or texts row.text [] }) n ∙ ap (λ (a : List ℕ). record { name = name; artefact = a }) t

  -- the products are those with one that may be there
  pub products_put : row_products names texts rows' ≡ with_built (row_products names before rows) (record { name = name; artefact = told_text before source })
  products_put =
      let old : row_products names texts rows ≡ row_products names before rows = products_still names names before texts rows (keeps_self names) kept are in
      let test = same_test names before splits rows once split are name row.name source row named refl text_is is in
      ap (row_products names texts) puts.new_is
      ∙ by (list_any (is_same_product_row row) rows) old
      ∙ ap (λ (b : Bool). if b then row_products names before rows else row_products names before rows ++ record { name = name; artefact = told_text before source } ∷ []) test
    where
      by : (b : Bool) → row_products names texts rows ≡ row_products names before rows → row_products names texts (if b then rows else rows ++ row ∷ []) ≡ (if b then row_products names before rows else row_products names before rows ++ record { name = name; artefact = told_text before source } ∷ [])
      by true old = old
      by false old = map-append (row_product names texts) rows (row ∷ []) ∙ ap (λ (ps : List BuiltFile). ps ++ row_product names texts row ∷ []) old ∙ ap (λ (p : BuiltFile). row_products names before rows ++ p ∷ []) own_row

  row_is : IsProductRow names texts row
  row_is = record {
    name = slice_get_within names row.name name named;
    text = omega (arith, ref_there before source is, text_is, ap length texts_is);
  }

  pub rows_put : All (IsProductRow names texts) rows'
  rows_put =
      subst (All (IsProductRow names texts)) (sym puts.new_is) (by (list_any (is_same_product_row row) rows) (λ k d l. product_row_still [] [] names names before texts (keeps_self []) (keeps_self names) kept (get_or rows k d) (are k d l)))
    where
      by : (b : Bool) → All (IsProductRow names texts) rows → All (IsProductRow names texts) (if b then rows else rows ++ row ∷ [])
      by true all = all
      by false all = All-push (IsProductRow names texts) rows row all row_is

  pub put_at : get_or (row_products names texts rows') number no_product ≡ record { name = name; artefact = told_text before source }
  put_at =
      let low : number < length rows' = slice_get_within rows' number row puts.numbered in
      get_or-map (row_product names texts) rows' number row no_product low ∙ ap (row_product names texts) (get_or_from_slice_get rows' number row row puts.numbered) ∙ own_row

  pub put_low : number < length rows'
  put_low = slice_get_within rows' number row puts.numbered

-- a record is put, after its texts and its product
module _ (payloads : List (List ℕ)) (names : List FileName) (texts0 texts : List (List ℕ)) (splits0 splits1 : List Split) (rows rows' : List ProductRow) (records : List RecordRow) (once : AllPairs (λ a b. a ≢ b) names) (draft : RequestDraft) (are : AreRowsLocated payloads names texts0 rows records) (is : IsRequest (table_by payloads names texts0 rows records) draft) (split1 : AreSplit (with_text texts0 draft.source) splits1) (texts_is : texts ≡ with_text (with_text texts0 draft.source) draft.artefact) (row : RecordRow) (numbers : TextNumbers) (numbers_are : AreTextNumbers texts0 draft numbers) (named : IsNameNumber names draft.name row.name) (text_is : row.text ≡ numbers.text) (puts : PutsProduct (record { name = row.name; text = numbers.artefact }) row.product rows rows') (at : row.payload < length payloads) (words_are : counted_words (nth_payload payloads row.payload) row.words ≡ draft.command) (deps_are : counted_numbers (nth_payload payloads row.payload) row.deps ≡ draft.deps) where
  texts1 : List (List ℕ)
  texts1 = with_text texts0 draft.source

  kept0 : Keeps texts0 (with_text texts0 draft.source)
  kept0 = keeps_text texts0 draft.source

  kept1 : Keeps (with_text texts0 draft.source) texts
  kept1 = subst (Keeps (with_text texts0 draft.source)) (sym texts_is) (keeps_text (with_text texts0 draft.source) draft.artefact)

  kept : Keeps texts0 texts
  kept = keeps_both texts0 (with_text texts0 draft.source) texts kept0 kept1

  are1 : All (IsProductRow names (with_text texts0 draft.source)) rows
  are1 = λ k d l. product_row_still [] [] names names texts0 (with_text texts0 draft.source) (keeps_self []) (keeps_self names) kept0 (get_or rows k d) (are.products_are k d l)

  old_products : row_products names (with_text texts0 draft.source) rows ≡ row_products names texts0 rows
  old_products = products_still names names texts0 (with_text texts0 draft.source) rows (keeps_self names) kept0 are.products_are

  product_row : ProductRow
  product_row = record { name = row.name; text = numbers.artefact }

  products_now : row_products names texts rows' ≡ with_built (row_products names texts0 rows) (record { name = draft.name; artefact = drafted_artefact texts0 draft })
  products_now =
      products_put names (with_text texts0 draft.source) texts splits1 rows rows' once split1 are1 (record { name = row.name; text = numbers.artefact }) row.product puts kept1 draft.artefact is.artefact texts_is draft.name named numbers_are.artefact
      ∙ ap (λ (ps : List BuiltFile). with_built ps (record { name = draft.name; artefact = drafted_artefact texts0 draft })) old_products

  product_there : get_or (row_products names texts rows') row.product no_product ≡ record { name = draft.name; artefact = drafted_artefact texts0 draft }
  product_there = put_at names (with_text texts0 draft.source) texts splits1 rows rows' once split1 are1 (record { name = row.name; text = numbers.artefact }) row.product puts kept1 draft.artefact is.artefact texts_is draft.name named numbers_are.artefact

  kept_rows : Keeps rows rows'
  kept_rows = keeps_more rows puts.more rows' puts.grown

  kept_products : Keeps (row_products names texts0 rows) (row_products names texts rows')
  kept_products =
      let f = row_product names texts in
      keeps_more (row_products names texts0 rows) (map (row_product names texts) puts.more) (row_products names texts rows')
      (ap (row_products names texts) puts.grown ∙ map-append (row_product names texts) rows puts.more ∙ ap (λ (ps : List BuiltFile). ps ++ map (row_product names texts) puts.more) (products_still names names texts0 texts rows (keeps_self names) kept are.products_are))

  size : length (row_products names texts0 rows) ≡ length rows
  size = length-map rows (row_product names texts0)

  text_there : get_or texts row.text [] ≡ told_text texts0 draft.source
  text_there =
      ap (λ (n : ℕ). get_or texts n []) (text_is ∙ numbers_are.text)
      ∙ kept1.same (ref_number texts0 draft.source) [] (ref_there texts0 draft.source is.source)
      ∙ ref_told texts0 draft.source

  deps_below : map (product_at (row_products names texts rows')) (counted_numbers (nth_payload payloads row.payload) row.deps) ≡ map (product_at (row_products names texts0 rows)) draft.deps
  deps_below =
      ap (map (product_at (row_products names texts rows'))) deps_are
      ∙ below_still (row_products names texts0 rows) (row_products names texts rows') draft.deps kept_products is.there

  made : List (List ℕ) → FileName → List ℕ → List BuiltFile → List ℕ → RequestRecord
  made command name text below artefact = record { asked = record { command = command; name = name; text = text; below = below }; artefact = artefact }

  record_is : row_record payloads names texts (row_products names texts rows') row ≡ drafted_record (table_by payloads names texts0 rows records) draft
  unfolding made
  record_is =
      let ps : List BuiltFile = row_products names texts rows' in
      ap (λ (ws : List (List ℕ)). made ws (get_or names row.name no_name) (get_or texts row.text []) (map (product_at ps) (counted_numbers (nth_payload payloads row.payload) row.deps)) (product_at ps row.product).artefact) words_are
      ∙ ap (λ (n : FileName). made draft.command n (get_or texts row.text []) (map (product_at ps) (counted_numbers (nth_payload payloads row.payload) row.deps)) (product_at ps row.product).artefact) (get_or_from_slice_get names row.name draft.name no_name named)
      ∙ ap (λ (t : List ℕ). made draft.command draft.name t (map (product_at ps) (counted_numbers (nth_payload payloads row.payload) row.deps)) (product_at ps row.product).artefact) text_there
      ∙ ap (λ (b : List BuiltFile). made draft.command draft.name (told_text texts0 draft.source) b (product_at ps row.product).artefact) deps_below
      ∙ ap (λ (a : List ℕ). made draft.command draft.name (told_text texts0 draft.source) (map (product_at (row_products names texts0 rows)) draft.deps) a) (ap (λ (f : BuiltFile). f.artefact) product_there)

  old_records : map (row_record payloads names texts (row_products names texts rows')) records ≡ map (row_record payloads names texts0 (row_products names texts0 rows)) records
  old_records = records_still payloads payloads names names texts0 texts (keeps_self payloads) (keeps_self names) kept rows (row_products names texts0 rows) (row_products names texts rows') records row kept_products size are.rows_are

  pub request_put : table_by payloads names texts rows' (records ++ row ∷ []) ≡ with_request (table_by payloads names texts0 rows records) draft
  unfolding table_of_parts
  request_put =
      let now = row_record payloads names texts (row_products names texts rows') in
      let grown : map (row_record payloads names texts (row_products names texts rows')) (records ++ row ∷ []) ≡ map (row_record payloads names texts0 (row_products names texts0 rows)) records ++ drafted_record (table_by payloads names texts0 rows records) draft ∷ [] =
      map-append (row_record payloads names texts (row_products names texts rows')) records (row ∷ [])
      ∙ ap (λ (rs : List RequestRecord). rs ++ row_record payloads names texts (row_products names texts rows') row ∷ []) old_records
      ∙ ap (λ (r : RequestRecord). map (row_record payloads names texts0 (row_products names texts0 rows)) records ++ r ∷ []) record_is in
      ap (λ (ts : List (List ℕ)). table_of_parts ts (row_products names texts rows') (map (row_record payloads names texts (row_products names texts rows')) (records ++ row ∷ []))) texts_is
      ∙ ap (λ (ps : List BuiltFile). table_of_parts (with_text (with_text texts0 draft.source) draft.artefact) ps (map (row_record payloads names texts (row_products names texts rows')) (records ++ row ∷ []))) products_now
      ∙ ap (λ (rs : List RequestRecord). table_of_parts (with_text (with_text texts0 draft.source) draft.artefact) (with_built (row_products names texts0 rows) (record { name = draft.name; artefact = drafted_artefact texts0 draft })) rs) grown

  pub request_located : AreRowsLocated payloads names texts rows' (records ++ row ∷ [])
  request_located =
      let all = rows_put names (with_text texts0 draft.source) texts splits1 rows rows' once split1 are1 (record { name = row.name; text = numbers.artefact }) row.product puts kept1 draft.artefact is.artefact texts_is draft.name named numbers_are.artefact in
      let old = located_still payloads payloads names names texts0 texts (keeps_self payloads) (keeps_self names) kept rows rows' records kept_rows are all in
      let low : row.product < length rows' = slice_get_within rows' row.product _ puts.numbered in
      record {
        products_are = all;
        rows_are = All-push (IsRecordRow payloads names texts rows') records row old.rows_are (record {
          payload = at;
          name = slice_get_within names row.name draft.name named;
          text = omega (arith, ref_there texts0 draft.source is.source, kept1.longer, text_is, numbers_are.text);
          product = low;
          own = ap (λ (p : ProductRow). p.name) (get_or_from_slice_get rows' row.product (record { name = row.name; text = numbers.artefact }) no_row puts.numbered);
          deps = subst (All (λ (dep : ℕ). dep < length rows')) (sym deps_are) (λ k d l. (let under = is.there k d l in omega (arith, under, size, kept_rows.longer)));
        });
      }

-- a product is put, after its artefact
module _ (payloads : List (List ℕ)) (names : List FileName) (texts0 texts : List (List ℕ)) (splits0 : List Split) (rows rows' : List ProductRow) (records : List RecordRow) (once : AllPairs (λ a b. a ≢ b) names) (draft : ProductDraft) (are : AreRowsLocated payloads names texts0 rows records) (is : IsNewProduct (table_by payloads names texts0 rows records) draft) (split0 : AreSplit texts0 splits0) (texts_is : texts ≡ with_text texts0 draft.artefact) (name text number : ℕ) (named : IsNameNumber names draft.name name) (text_is : text ≡ ref_number texts0 draft.artefact) (puts : PutsProduct (record { name = name; text = text }) number rows rows') (other : RecordRow) where
  held : Keeps texts0 texts
  held = subst (Keeps texts0) (sym texts_is) (keeps_text texts0 draft.artefact)

  all_products : row_products names texts rows' ≡ row_products names texts0 rows ++ drafted_product texts0 draft ∷ []
  all_products =
      products_put names texts0 texts splits0 rows rows' once split0 are.products_are (record { name = name; text = text }) number puts held draft.artefact is.artefact texts_is draft.name named text_is
      ∙ ap (λ (b : Bool). if b then row_products names texts0 rows else row_products names texts0 rows ++ drafted_product texts0 draft ∷ []) is.new

  kept_all : Keeps (row_products names texts0 rows) (row_products names texts rows')
  kept_all = keeps_more (row_products names texts0 rows) (drafted_product texts0 draft ∷ []) (row_products names texts rows') all_products

  pub product_put : table_by payloads names texts rows' records ≡ with_product (table_by payloads names texts0 rows records) draft
  unfolding table_of_parts
  product_put =
      ap (λ (ts : List (List ℕ)). table_of_parts ts (row_products names texts rows') (map (row_record payloads names texts (row_products names texts rows')) records)) texts_is
      ∙ ap (λ (ps : List BuiltFile). table_of_parts (with_text texts0 draft.artefact) ps (map (row_record payloads names texts (row_products names texts rows')) records)) all_products
      ∙ ap (table_of_parts (with_text texts0 draft.artefact) (row_products names texts0 rows ++ drafted_product texts0 draft ∷ [])) (records_still payloads payloads names names texts0 texts (keeps_self payloads) (keeps_self names) held rows (row_products names texts0 rows) (row_products names texts rows') records other kept_all (length-map rows (row_product names texts0)) are.rows_are)

  pub product_located : AreRowsLocated payloads names texts rows' records
  product_located =
      located_still payloads payloads names names texts0 texts (keeps_self payloads) (keeps_self names) held rows rows' records (keeps_more rows puts.more rows' puts.grown) are
      (rows_put names texts0 texts splits0 rows rows' once split0 are.products_are (record { name = name; text = text }) number puts held draft.artefact is.artefact texts_is draft.name named text_is)

abbrev pub no_record : RecordRow
no_record = record { payload = 0; words = record { start = 0; count = 0 }; deps = record { start = 0; count = 0 }; name = 0; text = 0; product = 0 }
