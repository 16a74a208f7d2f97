-- Lists that begin with others, and what rows stand for over them.
use Rattle.std.proofs.Common.{◌≡◌, ℕ, suc, ◌<◌, ◌≤◌, List, [], ◌∷◌, ◌++◌, length, map, get_or, refl, sym, ap, subst, ◌∙◌, arith, length-append}
use Rattle.std.specs.Prelude.{All}
use Rattle.std.proofs.lemmas.List.{get_or_append_left}
use Rattle.base.specs.declared.file.FileName.{FileName}
use Rattle.base.specs.declared.graph.BuiltFile.{BuiltFile}
use Rattle.base_bytes.specs.TextRefs.{TextRef, with_text}
use Rattle.base_bytes.specs.TextRefs.TextRef.{ByNumber, InFull}
use Rattle.outside.specs.Records.{Record as RequestRecord}
use Rattle.base_bytes.specs.Ranges.{counted_numbers, counted_words}
use Rattle.store_codec.specs.RecordTables.{no_product, product_at}
use Rattle.store_table.specs.declared.products.ProductRow.{ProductRow}
use Rattle.store_table.specs.declared.table.RecordRow.{RecordRow}
use Rattle.store_table.specs.Located.{AreRowsLocated, IsProductRow, IsRecordRow, no_name, no_row, nth_payload, row_deps, row_product, row_products, row_record}

-- the second list begins with the first
pub record Keeps {X : Type 0} (xs ys : List X) : Type 0 where
  pub longer : length xs ≤ length ys
  pub same : (k : ℕ) (d : X) → k < length xs → get_or ys k d ≡ get_or xs k d

pub keeps_self : {X : Type 0} (xs : List X) → Keeps xs xs
keeps_self xs = record { longer = omega arith; same = λ k d l. refl }

pub keeps_more : {X : Type 0} (xs more ys : List X) → ys ≡ xs ++ more → Keeps xs ys
keeps_more {X} xs more ys e = record {
  longer = omega (arith, ap length e, length-append xs more);
  same = λ k d l. ap (λ (zs : List X). get_or zs k d) e ∙ get_or_append_left xs more d k l;
}

pub keeps_both : {X : Type 0} (xs ys zs : List X) → Keeps xs ys → Keeps ys zs → Keeps xs zs
keeps_both xs ys zs a b = record {
  longer = omega (arith, a.longer, b.longer);
  same = λ k d l. b.same k d (omega (arith, l, a.longer)) ∙ a.same k d l;
}

pub keeps_text : (texts : List (List ℕ)) (source : TextRef) → Keeps texts (with_text texts source)
keeps_text texts (ByNumber number) = keeps_self texts
keeps_text texts (InFull text) = keeps_more texts (text ∷ []) (texts ++ text ∷ []) refl

pub map_same : {X Y : Type 0} (f g : X → Y) (xs : List X) (d : X) → ((k : ℕ) → k < length xs → f (get_or xs k d) ≡ g (get_or xs k d)) → map f xs ≡ map g xs
map_same f g [] d h = refl
map_same {Y = Y} f g (x ∷ xs) d h = ap (λ (y : Y). y ∷ map f xs) (h 0 (omega arith)) ∙ ap (λ (ys : List Y). g x ∷ ys) (map_same f g xs d (λ k l. h (suc k) (omega arith)))

product_of : FileName → List ℕ → BuiltFile
product_of name artefact = record { name = name; artefact = artefact }

pub product_still : (names names' : List FileName) (texts texts' : List (List ℕ)) (row : ProductRow) → Keeps names names' → Keeps texts texts' → IsProductRow names texts row → row_product names' texts' row ≡ row_product names texts row
product_still names names' texts texts' row n t is =
    ap (λ (name : FileName). record { name = name; artefact = get_or texts' row.text [] }) (n.same row.name no_name is.name)
    ∙ ap (λ (artefact : List ℕ). record { name = get_or names row.name no_name; artefact = artefact }) (t.same row.text [] is.text)

pub products_still : (names names' : List FileName) (texts texts' : List (List ℕ)) (products : List ProductRow) → Keeps names names' → Keeps texts texts' → All (IsProductRow names texts) products → row_products names' texts' products ≡ row_products names texts products
products_still names names' texts texts' products n t are =
    map_same (row_product names' texts') (row_product names texts) products no_row (λ k l. product_still names names' texts texts' (get_or products k no_row) n t (are k no_row l))

pub below_still : (products products' : List BuiltFile) (deps : List ℕ) → Keeps products products' → All (λ dep. dep < length products) deps → map (product_at products') deps ≡ map (product_at products) deps
below_still products products' deps p are =
    map_same (product_at products') (product_at products) deps 0 (λ k l. p.same (get_or deps k 0) no_product (are k 0 l))

-- a record of its parts
abbrev made : List ℕ → FileName → List ℕ → List BuiltFile → List ℕ → RecordRow → RequestRecord
made bytes name text below artefact row = record { asked = record { command = counted_words bytes row.words; name = name; text = text; below = below }; artefact = artefact }

module _ (payloads payloads' : List (List ℕ)) (names names' : List FileName) (texts texts' : List (List ℕ)) (q : Keeps payloads payloads') (n : Keeps names names') (t : Keeps texts texts') where
  pub record_still : (rows : List ProductRow) (products products' : List BuiltFile) (row : RecordRow) → Keeps products products' → length products ≡ length rows → IsRecordRow payloads names texts rows row → row_record payloads' names' texts' products' row ≡ row_record payloads names texts products row
  record_still rows products products' row p size is =
      let bytes : nth_payload payloads' row.payload ≡ nth_payload payloads row.payload = q.same row.payload [] is.payload in
      let deps : List ℕ = row_deps payloads row in
      let below : map (product_at products') deps ≡ map (product_at products) deps = below_still products products' deps p (λ k d l. (let low = is.deps k d l in omega (arith, low, size))) in
      let own : (product_at products' row.product).artefact ≡ (product_at products row.product).artefact = ap (λ (f : BuiltFile). f.artefact) (p.same row.product no_product (omega (arith, is.product, size))) in
      ap (λ (bs : List ℕ). made bs (get_or names' row.name no_name) (get_or texts' row.text []) (map (product_at products') (counted_numbers bs row.deps)) (product_at products' row.product).artefact row) bytes
      ∙ ap (λ (name : FileName). made (nth_payload payloads row.payload) name (get_or texts' row.text []) (map (product_at products') deps) (product_at products' row.product).artefact row) (n.same row.name no_name is.name)
      ∙ ap (λ (text : List ℕ). made (nth_payload payloads row.payload) (get_or names row.name no_name) text (map (product_at products') deps) (product_at products' row.product).artefact row) (t.same row.text [] is.text)
      ∙ ap (λ (files : List BuiltFile). made (nth_payload payloads row.payload) (get_or names row.name no_name) (get_or texts row.text []) files (product_at products' row.product).artefact row) below
      ∙ ap (λ (artefact : List ℕ). made (nth_payload payloads row.payload) (get_or names row.name no_name) (get_or texts row.text []) (map (product_at products) deps) artefact row) own

  pub records_still : (rows : List ProductRow) (products products' : List BuiltFile) (records : List RecordRow) (d : RecordRow) → Keeps products products' → length products ≡ length rows → All (IsRecordRow payloads names texts rows) records → map (row_record payloads' names' texts' products') records ≡ map (row_record payloads names texts products) records
  records_still rows products products' records d p size are =
      map_same (row_record payloads' names' texts' products') (row_record payloads names texts products) records d (λ k l. record_still rows products products' (get_or records k d) p size (are k d l))

  pub product_row_still : (row : ProductRow) → IsProductRow names texts row → IsProductRow names' texts' row
  product_row_still row is = record { name = omega (arith, is.name, n.longer); text = omega (arith, is.text, t.longer) }

  pub record_row_still : (rows rows' : List ProductRow) (row : RecordRow) → Keeps rows rows' → IsRecordRow payloads names texts rows row → IsRecordRow payloads' names' texts' rows' row
  record_row_still rows rows' row r is = record {
    payload = omega (arith, is.payload, q.longer);
    name = omega (arith, is.name, n.longer);
    text = omega (arith, is.text, t.longer);
    product = omega (arith, is.product, r.longer);
    own = ap (λ (p : ProductRow). p.name) (r.same row.product no_row is.product) ∙ is.own;
    deps = subst (λ (bs : List ℕ). All (λ (dep : ℕ). dep < length rows') (counted_numbers bs row.deps)) (sym (q.same row.payload [] is.payload)) (λ k d l. (let low = is.deps k d l in omega (arith, low, r.longer)));
  }

  pub located_still : (rows rows' : List ProductRow) (records : List RecordRow) → Keeps rows rows' → AreRowsLocated payloads names texts rows records → All (IsProductRow names' texts') rows' → AreRowsLocated payloads' names' texts' rows' records
  located_still rows rows' records r are all = record {
    products_are = all;
    rows_are = λ k d l. record_row_still rows rows' (get_or records k d) r (are.rows_are k d l);
  }
