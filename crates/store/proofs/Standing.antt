-- What the payloads of carried records stand for: these records, one after the other.
use Rattle.std.proofs.Common.{◌≡◌, ℕ, ◌<◌, Bool, true, false, List, [], ◌∷◌, ◌++◌, length, map, get_or, refl, sym, ap, subst, ◌∙◌, Option, Some, None, arith, length-append}
use Rattle.std.specs.Prelude.{All, Contains, if◌then◌else◌}
use Rattle.std.specs.List.{fold, list_any, position}
use Rattle.std.specs.Str.{bytes_eq}
use Rattle.std.proofs.lemmas.Bool.Decides.{nat_tests}
use Rattle.std.proofs.lemmas.List.{append-nil, append_assoc, get_or-map, get_or_at, get_or_default, length-map, same_lists}
use Rattle.std.proofs.lemmas.List.Elements.{All-cons, All-head, All-nil, All-tail}
use Rattle.std.proofs.lemmas.List.Sums.{fold_push}
use Rattle.std.proofs.lemmas.Option.{get_or_from_slice_get, slice_get_within}
use Rattle.std.proofs.lemmas.Slice.Eq.{bytes_eq-Decides}
use Rattle.base.specs.declared.graph.BuiltFile.{BuiltFile}
use Rattle.base_collections.specs.Numbers.{IsIndexOf}
use Rattle.outside.specs.Records.{Record as RequestRecord}
use Rattle.store_codec.specs.Forms.{IsSpellable, ProductDraft, RequestDraft, RequestPayload, request_payload_bytes}
use Rattle.store_codec.specs.Forms.RequestPayload.{OfProduct, OfRequest}
use Rattle.store_codec.specs.RecordTables.{IsNewProduct, IsRequest, RecordTable, after_request_payload, bare_table, drafted_product, drafted_record, is_same_built, no_product, product_at, record_table_of, with_built, with_request_payload}
use Rattle.base_bytes.specs.TextRefs.{is_text_ref, told_text}
use Rattle.store_codec.specs.Writing.{ref_or}
use Rattle.store_codec.specs.Compaction.{CompactedSoFar, compacted_draft, compacted_from, compacted_ref, compact_own, compact_product, compact_request, none_compacted, number_of_built, with_compacted_text}
use Rattle.store_codec.proofs.Deciding.{same_built-Decides}
use Rattle.store_codec.proofs.Spelling.{payload_again}
use Rattle.store_table.proofs.Finding.{any_decides, new_is}
use Rattle.store_table.proofs.Takes.{took_payload, took_product, took_request}
use Rattle.store.specs.Kept.{IsKeptProduct, IsKeptRequest}
use Rattle.store_table.proofs.Placing.{at_number, numbered, index_is, still_there}

-- a text by its index, where it is there, is there or new, and means itself
ref_there : (texts : List (List ℕ)) (text : List ℕ) (known : Option ℕ) → IsIndexOf texts text known → is_text_ref texts (ref_or known text) ≡ true
ref_there texts text None is = new_is texts text is
ref_there texts text (Some n) is = (let low : n < length texts = slice_get_within texts n text is in grind (arith, nat_tests, low))

ref_tells : (texts : List (List ℕ)) (text : List ℕ) (known : Option ℕ) → IsIndexOf texts text known → told_text texts (ref_or known text) ≡ text
ref_tells texts text None is = refl
ref_tells texts text (Some n) is = get_or_from_slice_get texts n text [] is

compacted_there : (texts : List (List ℕ)) (text : List ℕ) → is_text_ref texts (compacted_ref texts text) ≡ true
compacted_there texts text = ref_there texts text (position (λ other. bytes_eq other text) texts) (index_is bytes_eq bytes_eq-Decides texts text)

compacted_told : (texts : List (List ℕ)) (text : List ℕ) → told_text texts (compacted_ref texts text) ≡ text
compacted_told texts text = ref_tells texts text (position (λ other. bytes_eq other text) texts) (index_is bytes_eq bytes_eq-Decides texts text)

-- payloads taken up one after the other
abbrev pub table_by : List RequestPayload → RecordTable
table_by payloads = fold with_request_payload bare_table payloads

-- the texts and products so far, with some records
abbrev table_with : CompactedSoFar → List RequestRecord → RecordTable
table_with so_far records = record { texts = so_far.texts; products = so_far.products; records = records }

-- The payloads so far stand for the texts and products so far, and for some records.
abbrev pub StandsFor : CompactedSoFar → List RequestRecord → Type 0
StandsFor so_far records = table_by so_far.payloads ≡ table_with so_far records

-- one payload more
one_more : (payloads : List RequestPayload) (payload : RequestPayload) (now next : RecordTable) → table_by payloads ≡ now → next ≡ with_request_payload now payload → table_by (payloads ++ payload ∷ []) ≡ next
one_more payloads payload now next is made = fold_push with_request_payload bare_table payloads payload ∙ ap (λ (s : RecordTable). with_request_payload s payload) is ∙ sym made

-- a product that isn't there yet
module _ (so_far : CompactedSoFar) (records : List RequestRecord) (product : BuiltFile) (kept : IsKeptProduct product) where
  abbrev draft : ProductDraft
  draft = record { name = product.name; artefact = compacted_ref so_far.texts product.artefact }

  drafted : drafted_product so_far.texts draft ≡ product
  drafted = ap (λ (a : List ℕ). record { name = product.name; artefact = a }) (compacted_told so_far.texts product.artefact)

  new_product : list_any (is_same_built product) so_far.products ≡ false → IsNewProduct (table_with so_far records) draft
  new_product absent = record {
    name = kept.name;
    artefact = compacted_there so_far.texts product.artefact;
    small = rw (compacted_told so_far.texts product.artefact) kept.small;
    new = ap (λ (p : BuiltFile). list_any (is_same_built p) so_far.products) drafted ∙ absent;
  }

  product_put : list_any (is_same_built product) so_far.products ≡ false → record { texts = with_compacted_text so_far.texts product.artefact; products = so_far.products ++ product ∷ []; records = records } ≡ with_request_payload (table_with so_far records) (OfProduct draft)
  product_put absent =
      ap (λ (p : BuiltFile). record { texts = with_compacted_text so_far.texts product.artefact; products = so_far.products ++ p ∷ []; records = records }) (sym drafted)
      ∙ took_product (table_with so_far records) draft (new_product absent)

  abbrev added : CompactedSoFar
  added = record { texts = with_compacted_text so_far.texts product.artefact; products = so_far.products ++ product ∷ []; payloads = so_far.payloads ++ OfProduct (record { name = product.name; artefact = compacted_ref so_far.texts product.artefact }) ∷ [] }

  stands_by : (b : Bool) → list_any (is_same_built product) so_far.products ≡ b → StandsFor so_far records → StandsFor (if b then so_far else added) records
  stands_by true e stands = stands
  stands_by false e stands = one_more so_far.payloads (OfProduct draft) (table_with so_far records) (table_with added records) stands (product_put e)

  pub product_stands : StandsFor so_far records → StandsFor (compact_product so_far product) records
  unfolding compact_product
  product_stands stands = stands_by (list_any (is_same_built product) so_far.products) refl stands

-- a product is there once it was carried
module _ (so_far : CompactedSoFar) (product : BuiltFile) where
  abbrev with_it : CompactedSoFar
  with_it = record { texts = with_compacted_text so_far.texts product.artefact; products = so_far.products ++ product ∷ []; payloads = so_far.payloads ++ OfProduct (record { name = product.name; artefact = compacted_ref so_far.texts product.artefact }) ∷ [] }

  there_by : (b : Bool) → list_any (is_same_built product) so_far.products ≡ b → Contains (if b then so_far else with_it).products product
  there_by true e = (any_decides same_built-Decides so_far.products product).0 e
  there_by false e = (length so_far.products, omega (arith, length-append so_far.products (product ∷ [])), get_or_at so_far.products product [] product (length so_far.products) refl)

  compacted_product_there : Contains (compact_product so_far product).products product
  unfolding compact_product
  compacted_product_there = there_by (list_any (is_same_built product) so_far.products) refl

  keeps_by : (b : Bool) (other : BuiltFile) → Contains so_far.products other → Contains (if b then so_far else with_it).products other
  keeps_by true other has = has
  keeps_by false other has = still_there so_far.products (product ∷ []) other has

  compacted_product_keeps : (other : BuiltFile) → Contains so_far.products other → Contains (compact_product so_far product).products other
  unfolding compact_product
  compacted_product_keeps other has = keeps_by (list_any (is_same_built product) so_far.products) other has

all_keep : (so_far : CompactedSoFar) (below : List BuiltFile) (other : BuiltFile) → Contains so_far.products other → Contains (fold compact_product so_far below).products other
all_keep so_far [] other has = has
all_keep so_far (first ∷ rest) other has = all_keep (compact_product so_far first) rest other (compacted_product_keeps so_far first other has)

below_there : (so_far : CompactedSoFar) (below : List BuiltFile) → All (Contains (fold compact_product so_far below).products) below
below_there so_far [] = All-nil (Contains so_far.products)
below_there so_far (first ∷ rest) =
    All-cons (Contains (fold compact_product (compact_product so_far first) rest).products) first rest (all_keep (compact_product so_far first) rest first (compacted_product_there so_far first)) (below_there (compact_product so_far first) rest)

below_stand : (so_far : CompactedSoFar) (records : List RequestRecord) (below : List BuiltFile) → All IsKeptProduct below → StandsFor so_far records → StandsFor (fold compact_product so_far below) records
below_stand so_far records [] all stands = stands
below_stand so_far records (first ∷ rest) all stands =
    below_stand (compact_product so_far first) records rest (All-tail IsKeptProduct first rest all) (product_stands so_far records first (All-head IsKeptProduct first rest all) stands)

-- a record over products that are there
module _ (so_far : CompactedSoFar) (records : List RequestRecord) (kept : RequestRecord) (is : IsKeptRequest kept) (has : All (Contains so_far.products) kept.asked.below) where
  abbrev own : RequestDraft
  own = compacted_draft so_far kept

  abbrev below : List BuiltFile
  below = kept.asked.below

  abbrev numbers : List ℕ
  numbers = map (number_of_built so_far.products) below

  count : length numbers ≡ length below
  count = length-map below (number_of_built so_far.products)

  number_at : (k : ℕ) → k < length below → get_or numbers k 0 ≡ number_of_built so_far.products (get_or below k no_product)
  number_at k l = get_or-map (number_of_built so_far.products) below k no_product 0 l

  -- the numbers are those of the products that it stands over
  below_same : map (product_at so_far.products) numbers ≡ below
  below_same =
      same_lists (map (product_at so_far.products) numbers) below (length-map numbers (product_at so_far.products) ∙ count) (λ k d l.
      let m : k < length numbers = omega (arith, l, length-map numbers (product_at so_far.products)) in
      let n : k < length below = omega (arith, m, count) in
      let here : get_or below k no_product ≡ get_or below k d = get_or_default below k no_product d n in
      get_or-map (product_at so_far.products) numbers k 0 d m
      ∙ ap (product_at so_far.products) (number_at k n)
      ∙ at_number is_same_built same_built-Decides so_far.products (get_or below k no_product) no_product (numbered is_same_built same_built-Decides so_far.products (get_or below k no_product) (has k no_product n))
      ∙ here)

  numbers_low : All (λ dep. dep < length so_far.products) numbers
  numbers_low k d l =
      let n : k < length below = omega (arith, l, count) in
      let at : get_or numbers k d ≡ number_of_built so_far.products (get_or below k no_product) = get_or-map (number_of_built so_far.products) below k no_product d n in
      omega (arith, at, numbered is_same_built same_built-Decides so_far.products (get_or below k no_product) (has k no_product n))

  abbrev texts_after : List (List ℕ)
  texts_after = with_compacted_text so_far.texts kept.asked.text

  request : IsRequest (table_with so_far records) own
  request = record {
    name = is.name;
    command = is.command;
    source = compacted_there so_far.texts kept.asked.text;
    text_small = rw (compacted_told so_far.texts kept.asked.text) is.text;
    artefact = compacted_there texts_after kept.artefact;
    small = rw (compacted_told texts_after kept.artefact) is.small;
    few = omega (arith, count, is.few);
    there = numbers_low;
    apart = rw below_same is.apart;
    others = rw below_same is.others;
  }

  record_by : List ℕ → List BuiltFile → List ℕ → RequestRecord
  record_by text built artefact = record { asked = record { command = kept.asked.command; name = kept.asked.name; text = text; below = built }; artefact = artefact }

  recorded : drafted_record (table_with so_far records) own ≡ kept
  unfolding record_by
  recorded =
      ap (λ (t : List ℕ). record_by t (map (product_at so_far.products) numbers) (told_text texts_after (compacted_ref texts_after kept.artefact))) (compacted_told so_far.texts kept.asked.text)
      ∙ ap (λ (ps : List BuiltFile). record_by kept.asked.text ps (told_text texts_after (compacted_ref texts_after kept.artefact))) below_same
      ∙ ap (record_by kept.asked.text below) (compacted_told texts_after kept.artefact)

  own_put : table_with (compact_own so_far kept) (records ++ kept ∷ []) ≡ with_request_payload (table_with so_far records) (OfRequest own)
  unfolding compact_own
  own_put =
      let texts : List (List ℕ) = with_compacted_text texts_after kept.artefact in
      ap (λ (a : List ℕ). record { texts = texts; products = with_built so_far.products (record { name = kept.asked.name; artefact = a }); records = records ++ kept ∷ [] }) (sym (compacted_told texts_after kept.artefact))
      ∙ ap (λ (r : RequestRecord). record { texts = texts; products = with_built so_far.products (record { name = kept.asked.name; artefact = told_text texts_after (compacted_ref texts_after kept.artefact) }); records = records ++ r ∷ [] }) (sym recorded)
      ∙ took_request (table_with so_far records) own request

  pub own_stands : StandsFor so_far records → StandsFor (compact_own so_far kept) (records ++ kept ∷ [])
  unfolding compact_own
  own_stands stands = one_more so_far.payloads (OfRequest own) (table_with so_far records) (table_with (compact_own so_far kept) (records ++ kept ∷ [])) stands own_put

-- one record more
record_stands : (so_far : CompactedSoFar) (records : List RequestRecord) (kept : RequestRecord) → IsKeptRequest kept → StandsFor so_far records → StandsFor (compact_request so_far kept) (records ++ kept ∷ [])
unfolding compact_request
record_stands so_far records kept is stands =
    own_stands (fold compact_product so_far kept.asked.below) records kept is (below_there so_far kept.asked.below) (below_stand so_far records kept.asked.below is.below stands)

all_stand : (so_far : CompactedSoFar) (before records : List RequestRecord) → All IsKeptRequest records → StandsFor so_far before → StandsFor (compacted_from so_far records) (before ++ records)
unfolding compacted_from
all_stand so_far before [] all stands = subst (StandsFor so_far) (sym (append-nil before)) stands
all_stand so_far before (first ∷ rest) all stands =
    subst (StandsFor (compacted_from (compact_request so_far first) rest)) (append_assoc before (first ∷ []) rest)
    (all_stand (compact_request so_far first) (before ++ first ∷ []) rest (All-tail IsKeptRequest first rest all) (record_stands so_far before first (All-head IsKeptRequest first rest all) stands))

-- bytes of payloads that have a spelling stand for what the payloads stand for
spelled_by : (table : RecordTable) (payloads : List RequestPayload) → All IsSpellable payloads → fold after_request_payload table (map request_payload_bytes payloads) ≡ fold with_request_payload table payloads
spelled_by table [] all = refl
spelled_by table (first ∷ rest) all =
    ap (λ (s : RecordTable). fold after_request_payload s (map request_payload_bytes rest)) (sym (took_payload table (request_payload_bytes first) first (payload_again first (All-head IsSpellable first rest all))))
    ∙ spelled_by (with_request_payload table first) rest (All-tail IsSpellable first rest all)

-- the payloads that keep records stand for these
pub spelled_records : (records : List RequestRecord) → All IsKeptRequest records → All IsSpellable (compacted_from none_compacted records).payloads → (record_table_of (map request_payload_bytes (compacted_from none_compacted records).payloads)).records ≡ records
unfolding record_table_of
spelled_records records all spelled =
    ap (λ (s : RecordTable). s.records) (spelled_by bare_table (compacted_from none_compacted records).payloads spelled)
    ∙ ap (λ (s : RecordTable). s.records) (all_stand none_compacted [] records all refl)
