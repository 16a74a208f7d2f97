-- Payloads with more after them.
use Rattle.std.proofs.Common.{◌≡◌, ℕ, List, [], get_or, sym, ap, subst, ◌∙◌, arith}
use Rattle.std.proofs.lemmas.List.{length-map}
use Rattle.base_collections.specs.Splits.{AreSplit}
use Rattle.outside.specs.Records.{Record as RequestRecord}
use Rattle.base_bytes.specs.Ranges.{ranged}
use Rattle.store_table.specs.declared.table.LocatedTable.{LocatedTable}
use Rattle.store_table.specs.declared.texts.LocatedText.{LocatedText}
use Rattle.store_table.specs.declared.texts.LocatedTexts.{LocatedTexts}
use Rattle.store_table.specs.Located.{AreRowsLocated, AreTextsLocated, IsTableLocated, located_table, located_text, located_texts, row_product, row_products, table_by}
use Rattle.store_table.proofs.Keeping.{Keeps, keeps_self, map_same, located_still, records_still}
use Rattle.store_table.proofs.Puts.{no_record}

no_index : LocatedText
no_index = record { payload = 0; range = record { start = 0; count = 0 } }

pub texts_still : (payloads payloads' : List (List ℕ)) (texts : LocatedTexts) → Keeps payloads payloads' → AreTextsLocated payloads texts → located_texts payloads' texts ≡ located_texts payloads texts
texts_still payloads payloads' texts q are =
    map_same (located_text payloads') (located_text payloads) texts.indices.items no_index
    (λ k l. ap (λ (bs : List ℕ). ranged bs (get_or texts.indices.items k no_index).range) (q.same (get_or texts.indices.items k no_index).payload [] (are.within k no_index l)))

module _ (payloads payloads' : List (List ℕ)) (table : LocatedTable) (q : Keeps payloads payloads') (are : IsTableLocated payloads table) where
  pub table_located_still : IsTableLocated payloads' table
  table_located_still =
      let same : located_texts payloads' table.texts ≡ located_texts payloads table.texts = texts_still payloads payloads' table.texts q are.texts in
      record {
        texts = record {
          within = λ k d l. (let low = are.texts.within k d l in omega (arith, low, q.longer));
          split = subst (λ (ts : List (List ℕ)). AreSplit ts table.texts.index.splits) (sym same) are.texts.split;
        };
        rows = subst (λ (ts : List (List ℕ)). AreRowsLocated payloads' table.names.keys ts table.products.keys table.rows.items) (sym same)
            (located_still payloads payloads' table.names.keys table.names.keys (located_texts payloads table.texts) (located_texts payloads table.texts) q (keeps_self table.names.keys) (keeps_self (located_texts payloads table.texts)) table.products.keys table.products.keys table.rows.items (keeps_self table.products.keys) are.rows are.rows.products_are);
        names_once = are.names_once;
        latest = are.latest;
      }

  pub table_same_still : located_table payloads' table ≡ located_table payloads table
  table_same_still =
      let texts : List (List ℕ) = located_texts payloads table.texts in
      let products = row_products table.names.keys (located_texts payloads table.texts) table.products.keys in
      ap (λ (ts : List (List ℕ)). table_by payloads' table.names.keys ts table.products.keys table.rows.items) (texts_still payloads payloads' table.texts q are.texts)
      ∙ ap (λ (rs : List RequestRecord). record { texts = located_texts payloads table.texts; products = row_products table.names.keys (located_texts payloads table.texts) table.products.keys; records = rs })
      (records_still payloads payloads' table.names.keys table.names.keys texts texts q (keeps_self table.names.keys) (keeps_self texts) table.products.keys (row_products table.names.keys (located_texts payloads table.texts) table.products.keys) (row_products table.names.keys (located_texts payloads table.texts) table.products.keys) table.rows.items no_record (keeps_self (row_products table.names.keys (located_texts payloads table.texts) table.products.keys)) (length-map table.products.keys (row_product table.names.keys (located_texts payloads table.texts))) are.rows.rows_are)
