-- Whatever the payloads, what they stand for has its sizes.
use Rattle.std.proofs.Common.{◌≡◌, ℕ, ◌<◌, Bool, true, false, List, [], ◌∷◌, ◌++◌, length, get_or, Option, Some, None, refl, sym, subst, arith}
use Rattle.std.specs.Prelude.{All, if◌then◌else◌}
use Rattle.std.specs.List.{list_any}
use Rattle.std.proofs.lemmas.List.{get_or-map, length-map}
use Rattle.std.proofs.lemmas.List.Elements.{All-nil, All-push}
use Rattle.base.specs.declared.graph.BuiltFile.{BuiltFile}
use Rattle.store_codec.specs.Forms.{ProductDraft, RequestDraft}
use Rattle.store_codec.specs.RecordTables.{AreNumberedOnce, IsNewProduct, IsRequest, RecordTable, drafted_artefact, drafted_product, drafted_record, is_same_built, no_product, product_at, record_table_of, with_built, with_product, with_request}
use Rattle.store_codec.proofs.Once.{by_payloads, once_in_all}
use Rattle.store_table.specs.declared.table.LocatedTable.{LocatedTable}
use Rattle.store_table.specs.Located.{IsTableLocated, located_table}
use Rattle.store.specs.Kept.{IsKeptProduct, IsKeptRequest, IsKeptTable}
use Rattle.store.specs.Plans.{IsTableToCompact}

with_product_kept : (table : RecordTable) (draft : ProductDraft) → IsKeptTable table → IsNewProduct table draft → IsKeptTable (with_product table draft)
with_product_kept table draft kept is = record {
  products = All-push IsKeptProduct table.products (drafted_product table.texts draft) kept.products (record { name = is.name; small = is.small });
  records = kept.records;
}

built_kept : (products : List BuiltFile) (product : BuiltFile) → All IsKeptProduct products → IsKeptProduct product → All IsKeptProduct (with_built products product)
built_kept products product all one = by (list_any (is_same_built product) products)
  where
    by : (b : Bool) → All IsKeptProduct (if b then products else products ++ product ∷ [])
    by true = all
    by false = All-push IsKeptProduct products product all one

drafted_kept : (table : RecordTable) (draft : RequestDraft) → IsKeptTable table → IsRequest table draft → IsKeptRequest (drafted_record table draft)
drafted_kept table draft kept is = record {
  name = is.name;
  command = is.command;
  text = is.text_small;
  small = is.small;
  few = omega (arith, is.few, length-map draft.deps (product_at table.products));
  below = λ k d l. (let low : k < length draft.deps = omega (arith, l, length-map draft.deps (product_at table.products)) in
      subst IsKeptProduct (sym (get_or-map (product_at table.products) draft.deps k 0 d low)) (kept.products (get_or draft.deps k 0) no_product (is.there k 0 low)));
  apart = is.apart;
  others = is.others;
}

with_request_kept : (table : RecordTable) (draft : RequestDraft) → IsKeptTable table → IsRequest table draft → IsKeptTable (with_request table draft)
with_request_kept table draft kept is = record {
  products = built_kept table.products (record { name = draft.name; artefact = drafted_artefact table.texts draft }) kept.products (record { name = is.name; small = is.small });
  records = All-push IsKeptRequest table.records (drafted_record table draft) kept.records (drafted_kept table draft kept is);
}

pub table_kept : (payloads : List (List ℕ)) → IsKeptTable (record_table_of payloads)
table_kept = by_payloads IsKeptTable with_product_kept with_request_kept (record { products = All-nil IsKeptProduct; records = All-nil IsKeptRequest })

-- so a table that was taken up can be carried
pub to_compact : (segments payloads : List (List ℕ)) (table : LocatedTable) → IsTableLocated segments table → located_table segments table ≡ record_table_of payloads → IsTableToCompact segments table
to_compact segments payloads table located is = record {
  located = located;
  once = subst AreNumberedOnce (sym is) (once_in_all payloads);
  kept = subst IsKeptTable (sym is) (table_kept payloads);
}
