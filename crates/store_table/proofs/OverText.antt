-- A record whose text was put first.
use Rattle.std.proofs.Common.{◌≡◌, ℕ, ◌≤◌, List, [], ◌∷◌, ◌++◌, length, map, refl, sym, ap, subst, ◌∙◌, arith, length-append}
use Rattle.std.proofs.lemmas.Bool.Decides.{nat_tests}
use Rattle.std.proofs.lemmas.List.{get_or_at, length-map}
use Rattle.store_codec.specs.Forms.{RequestDraft}
use Rattle.base_bytes.specs.TextRefs.TextRef.{ByNumber, InFull}
use Rattle.outside.specs.Records.{Record as RequestRecord}
use Rattle.base.specs.declared.graph.BuiltFile.{BuiltFile}
use Rattle.base.specs.declared.limits.TheConstants.{TEXT_LIMIT}
use Rattle.store_codec.specs.RecordTables.{IsRequest, RecordTable, with_built, with_request}
use Rattle.base_bytes.specs.TextRefs.{told_text, with_text}
use Rattle.store_table.specs.declared.checking.TextNumbers.{TextNumbers}
use Rattle.store_table.specs.declared.table.LocatedTable.{LocatedTable}
use Rattle.store_table.specs.declared.texts.LocatedTexts.{LocatedTexts}
use Rattle.store_table.specs.Checked.{AreTextNumbers}
use Rattle.store_table.specs.Cuts.{with_new_text, with_source}
use Rattle.store_table.specs.Located.{AreRowsLocated, AreTextsLocated, IsTableLocated, located_table, located_texts, row_product, row_products, row_record, table_by}
use Rattle.store_table.proofs.Keeping.{Keeps, keeps_more, keeps_self, located_still, product_row_still, products_still, records_still}
use Rattle.store_table.proofs.Puts.{no_record}

module _ (table : RecordTable) (text : List ℕ) (draft : RequestDraft) where
  told : told_text (table.texts ++ text ∷ []) (ByNumber (length table.texts)) ≡ text
  told = get_or_at table.texts text [] [] (length table.texts) refl

  pub request_over : IsRequest table (with_source (InFull text) draft) → IsRequest (with_new_text table text) (with_source (ByNumber (length table.texts)) draft)
  request_over is = record {
    name = is.name;
    command = is.command;
    source = (let more = length-append table.texts (text ∷ []) in grind (arith, nat_tests, more));
    text_small = subst (λ (t : List ℕ). length t ≤ TEXT_LIMIT) (sym told) is.text_small;
    artefact = is.artefact;
    small = is.small;
    few = is.few;
    there = is.there;
    apart = is.apart;
    others = is.others;
  }

  pub request_same : with_request (with_new_text table text) (with_source (ByNumber (length table.texts)) draft) ≡ with_request table (with_source (InFull text) draft)
  request_same =
      let artefact : List ℕ = told_text (table.texts ++ text ∷ []) draft.artefact in
      ap (λ (t : List ℕ). record { texts = with_text (table.texts ++ text ∷ []) draft.artefact; products = with_built table.products (record { name = draft.name; artefact = told_text (table.texts ++ text ∷ []) draft.artefact }); records = table.records ++ record { asked = record { command = draft.command; name = draft.name; text = t; below = _ }; artefact = told_text (table.texts ++ text ∷ []) draft.artefact } ∷ [] }) told

-- the numbers of the texts of a draft stay the same once its new source text is in the table
pub numbers_over : (texts : List (List ℕ)) (text : List ℕ) (draft : RequestDraft) (numbers : TextNumbers) → AreTextNumbers texts (with_source (InFull text) draft) numbers → AreTextNumbers (texts ++ text ∷ []) (with_source (ByNumber (length texts)) draft) numbers
numbers_over texts text draft numbers are = record { text = are.text; artefact = are.artefact }

-- a table with one more text is placed where it was, and has that text more
module _ (segments : List (List ℕ)) (table : LocatedTable) (texts : LocatedTexts) (text : List ℕ) (are : IsTableLocated segments table) (located : AreTextsLocated segments texts) (grown : located_texts segments texts ≡ located_texts segments table.texts ++ text ∷ []) where
  kept : Keeps (located_texts segments table.texts) (located_texts segments texts)
  kept = keeps_more (located_texts segments table.texts) (text ∷ []) (located_texts segments texts) grown

  pub rows_with_text : AreRowsLocated segments table.names.keys (located_texts segments texts) table.products.keys table.rows.items
  rows_with_text =
      let names = table.names.keys in
      let before : List (List ℕ) = located_texts segments table.texts in
      located_still segments segments names names before (located_texts segments texts) (keeps_self segments) (keeps_self names) kept table.products.keys table.products.keys table.rows.items (keeps_self table.products.keys) are.rows
      (λ k d l. product_row_still segments segments names names before (located_texts segments texts) (keeps_self segments) (keeps_self names) kept _ (are.rows.products_are k d l))

  pub table_with_text : table_by segments table.names.keys (located_texts segments texts) table.products.keys table.rows.items ≡ with_new_text (located_table segments table) text
  table_with_text =
      let names = table.names.keys in
      let before : List (List ℕ) = located_texts segments table.texts in
      let now : List (List ℕ) = located_texts segments texts in
      let products = row_products table.names.keys (located_texts segments table.texts) table.products.keys in
      ap (λ (ps : List BuiltFile). record { texts = located_texts segments texts; products = ps; records = map (row_record segments table.names.keys (located_texts segments texts) ps) table.rows.items }) (products_still names names before now table.products.keys (keeps_self names) kept are.rows.products_are)
      ∙ ap (λ (rs : List RequestRecord). record { texts = located_texts segments texts; products = row_products table.names.keys (located_texts segments table.texts) table.products.keys; records = rs })
      (records_still segments segments names names before now (keeps_self segments) (keeps_self names) kept table.products.keys products products table.rows.items no_record (keeps_self products) (length-map table.products.keys (row_product table.names.keys (located_texts segments table.texts))) are.rows.rows_are)
      ∙ ap (λ (ts : List (List ℕ)). record { texts = ts; products = row_products table.names.keys (located_texts segments table.texts) table.products.keys; records = (located_table segments table).records }) grown
