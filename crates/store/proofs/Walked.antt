-- How far the walks over products and over records have come.
use Rattle.std.proofs.Common.{◌≡◌, ℕ, ◌+◌, ◌-◌, ◌^◌, ◌<◌, ◌≤◌, min, Bool, true, false, not, List, [], ◌∷◌, length, map, get_or, drop, cond, refl, sym, ap, subst, ◌∙◌, arith, inl, inr, add-one, drop-cons}
use Rattle.std.specs.Prelude.{All, Contains}
use Rattle.std.specs.List.{fold}
use Rattle.std.proofs.lemmas.Bool.{cases_lt, cond-true, cond-false}
use Rattle.std.proofs.lemmas.List.{drop_all, get_or-map, length-map}
use Rattle.base.specs.declared.graph.BuiltFile.{BuiltFile}
use Rattle.outside.specs.Records.{Record as RequestRecord, is_replaced as is_overtaken, latest_alone as latest_requests}
use Rattle.store_codec.specs.RecordTables.{AreNumberedOnce, RecordTable, no_product, product_at}
use Rattle.store_codec.specs.Compaction.{CompactedSoFar, compacted_from, compact_own, compact_product, compact_request, none_compacted}
use Rattle.store.specs.declared.plan.CompactionPlan.{CompactionPlan}
use Rattle.store.specs.declared.plan.CompactionStep.{CompactionStep}
use Rattle.store.specs.Plans.{HasMoreNumbers, IsCounted, IsPlanIn, blank_request, blocks_length, compacted_by, numbered_products, table_record_at, step_payload, text_of}
use Rattle.store_table.proofs.Placing.{still_there}
use Rattle.store.proofs.Planned.{planned_there}

-- The first products of these numbers were planned.
pub record WalksBelow (table : RecordTable) (deps : List ℕ) (old now : CompactionPlan) (count : ℕ) : Type 0 where
  pub plan : IsPlanIn table now
  pub has : (k : ℕ) → k < count → Contains now.products.numbers (get_or deps k 0)
  pub kept_over : fold compact_product (compacted_by table now) (drop count (numbered_products table deps)) ≡ fold compact_product (compacted_by table old) (numbered_products table deps)
  pub counted : IsCounted table old → IsCounted table now

-- no product, and one more
pub below_none : (table : RecordTable) (deps : List ℕ) (old : CompactionPlan) → IsPlanIn table old → WalksBelow table deps old old 0
below_none table deps old is = record { plan = is; has = λ k l. absurd (omega arith); kept_over = refl; counted = λ counted. counted }

pub below_more : (table : RecordTable) (deps : List ℕ) (old now next : CompactionPlan) (count : ℕ) → WalksBelow table deps old now count → count < length deps → IsPlanIn table next → HasMoreNumbers now.products.numbers next.products.numbers → Contains next.products.numbers (get_or deps count 0)
    → compacted_by table next ≡ compact_product (compacted_by table now) (product_at table.products (get_or deps count 0)) → (IsCounted table now → IsCounted table next) → WalksBelow table deps old next (count + 1)
below_more table deps old now next count walks lt is more has keeps_over counts =
    let all : List BuiltFile = numbered_products table deps in
    let low : count < length (numbered_products table deps) = omega (arith, lt, length-map deps (product_at table.products)) in
    let here : get_or (numbered_products table deps) count no_product ≡ product_at table.products (get_or deps count 0) = get_or-map (product_at table.products) deps count 0 no_product lt in
    let rest : drop count all ≡ product_at table.products (get_or deps count 0) ∷ drop (count + 1) all =
    drop-cons all count no_product low ∙ ap (λ (n : ℕ). get_or all count no_product ∷ drop n all) (sym (add-one count)) ∙ ap (λ (p : BuiltFile). p ∷ drop (count + 1) all) here in
    record {
      plan = is;
      has = λ k l. elim (cases_lt k count) [
        | inl before ↦ subst (λ (ns : List ℕ). Contains ns (get_or deps k 0)) (sym more.grown) (still_there now.products.numbers more.more (get_or deps k 0) (walks.has k before))
        | inr after ↦ let same : count ≡ k = omega arith in subst (λ (i : ℕ). Contains next.products.numbers (get_or deps i 0)) same has
      ];
      kept_over = ap (λ (s : CompactedSoFar). fold compact_product s (drop (count + 1) all)) keeps_over ∙ ap (fold compact_product (compacted_by table now)) (sym rest) ∙ walks.kept_over;
      counted = λ counted. counts (walks.counted counted);
    }

-- all of them
pub below_has : (table : RecordTable) (once : AreNumberedOnce table) (deps : List ℕ) (old now : CompactionPlan) (count : ℕ) → length deps ≤ count → All (λ dep. dep < length table.products) deps → WalksBelow table deps old now count → All (Contains (compacted_by table now).products) (numbered_products table deps)
below_has table once deps old now count done low walks k d l =
    let m : k < length deps = omega (arith, l, length-map deps (product_at table.products)) in
    subst (Contains (compacted_by table now).products) (sym (get_or-map (product_at table.products) deps k 0 d m)) (planned_there table once now walks.plan (get_or deps k 0) (low k 0 m) (walks.has k (omega (arith, m, done))))

pub below_compacted : (table : RecordTable) (deps : List ℕ) (old now : CompactionPlan) (count : ℕ) → length deps ≤ count → WalksBelow table deps old now count → compacted_by table now ≡ fold compact_product (compacted_by table old) (numbered_products table deps)
below_compacted table deps old now count done walks = ap (fold compact_product (compacted_by table now)) (sym (drop_all count (numbered_products table deps) (omega (arith, done, length-map deps (product_at table.products))))) ∙ walks.kept_over

-- a record, over products that were planned
pub request_by : (kept : RequestRecord) (before others after : CompactedSoFar) → others ≡ fold compact_product before kept.asked.below → after ≡ compact_own others kept → after ≡ compact_request before kept
unfolding compact_request
request_by kept before others after first second = second ∙ ap (λ (s : CompactedSoFar). compact_own s kept) first

-- The latest of the first records were planned.
pub record WalksRecords (table : RecordTable) (now : CompactionPlan) (count : ℕ) : Type 0 where
  pub plan : IsPlanIn table now
  pub kept_over : compacted_from (compacted_by table now) (latest_requests (drop count table.records)) ≡ compacted_from none_compacted (latest_requests table.records)
  pub counted : IsCounted table now

-- the latest of the records from a number on
latest_from : (records : List RequestRecord) (n : ℕ) → n < length records → latest_requests (drop n records) ≡ cond (is_overtaken (drop (n + 1) records) (table_record_at records n)) (latest_requests (drop (n + 1) records)) (table_record_at records n ∷ latest_requests (drop (n + 1) records))
unfolding latest_requests
latest_from records n low = ap latest_requests (drop-cons records n blank_request low ∙ ap (λ (m : ℕ). get_or records n blank_request ∷ drop m records) (sym (add-one n)))

pub next_overtaken : (records : List RequestRecord) (n : ℕ) (so_far : CompactedSoFar) → n < length records → is_overtaken (drop (n + 1) records) (table_record_at records n) ≡ true → compacted_from so_far (latest_requests (drop (n + 1) records)) ≡ compacted_from so_far (latest_requests (drop n records))
next_overtaken records n so_far low is = ap (compacted_from so_far) (sym (latest_from records n low ∙ cond-true (is_overtaken (drop (n + 1) records) (table_record_at records n)) (latest_requests (drop (n + 1) records)) (table_record_at records n ∷ latest_requests (drop (n + 1) records)) is))

pub next_latest : (records : List RequestRecord) (n : ℕ) (so_far next : CompactedSoFar) → n < length records → is_overtaken (drop (n + 1) records) (table_record_at records n) ≡ false → next ≡ compact_request so_far (table_record_at records n) → compacted_from next (latest_requests (drop (n + 1) records)) ≡ compacted_from so_far (latest_requests (drop n records))
unfolding compacted_from
next_latest records n so_far next low is made =
    ap (λ (s : CompactedSoFar). compacted_from s (latest_requests (drop (n + 1) records))) made
    ∙ ap (compacted_from so_far) (sym (latest_from records n low ∙ cond-false (is_overtaken (drop (n + 1) records) (table_record_at records n)) (latest_requests (drop (n + 1) records)) (table_record_at records n ∷ latest_requests (drop (n + 1) records)) is))

pub not_false : (b : Bool) → not b ≡ false → b ≡ true
not_false true e = refl
not_false false e = absurd cc

pub not_true : (b : Bool) → not b ≡ true → b ≡ false
not_true true e = absurd cc
not_true false e = refl

-- after all records
pub walked_latest : (table : RecordTable) (now : CompactionPlan) (count : ℕ) → length table.records ≤ count → WalksRecords table now count → compacted_by table now ≡ compacted_from none_compacted (latest_requests table.records)
unfolding compacted_from latest_requests
walked_latest table now count le walks = ap (λ (rs : List RequestRecord). compacted_from (compacted_by table now) (latest_requests rs)) (sym (drop_all count table.records le)) ∙ walks.kept_over

-- no record, and one more
pub walks_none : (table : RecordTable) (plan : CompactionPlan) → length table.products ≤ plan.products.size → length table.texts ≤ plan.texts.size → plan.products.numbers ≡ [] → plan.texts.numbers ≡ [] → plan.steps.items ≡ [] → plan.len ≡ 0 → WalksRecords table plan 0
walks_none table plan products texts no_product no_text no_step len =
    let empty : compacted_by table plan ≡ none_compacted =
    ap (λ (ns : List ℕ). record { texts = map (text_of table.texts) ns; products = numbered_products table plan.products.numbers; payloads = map (step_payload table plan.products.numbers) plan.steps.items }) no_text
    ∙ ap (λ (ns : List ℕ). record { texts = []; products = numbered_products table ns; payloads = map (step_payload table plan.products.numbers) plan.steps.items }) no_product
    ∙ ap (λ (ss : List CompactionStep). record { texts = []; products = []; payloads = map (step_payload table plan.products.numbers) ss }) no_step in
    record {
      plan = record {
        products = record { room = products; below = rw no_product (λ k d l. absurd (omega arith)); once = rw no_product (λ i j other l m e. absurd (omega arith)) };
        texts = record { room = texts; below = rw no_text (λ k d l. absurd (omega arith)); once = rw no_text (λ i j other l m e. absurd (omega arith)) };
        steps = rw no_step (λ k d l. absurd (omega arith));
      };
      kept_over = ap (λ (s : CompactedSoFar). compacted_from s (latest_requests table.records)) empty;
      counted = len ∙ ap (λ (s : CompactedSoFar). min (2 ^ 64 - 1) (blocks_length s.payloads)) (sym empty);
    }

pub walks_next : (table : RecordTable) (now next : CompactionPlan) (count : ℕ) → WalksRecords table now count → IsPlanIn table next → compacted_from (compacted_by table next) (latest_requests (drop (count + 1) table.records)) ≡ compacted_from (compacted_by table now) (latest_requests (drop count table.records)) → (IsCounted table now → IsCounted table next) → WalksRecords table next (count + 1)
walks_next table now next count walks is kept_over counts = record { plan = is; kept_over = kept_over ∙ walks.kept_over; counted = counts walks.counted }
