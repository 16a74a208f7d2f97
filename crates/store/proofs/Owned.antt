-- A record that was taken is what is carried of it.
use Rattle.std.proofs.Common.{◌≡◌, ℕ, ◌<◌, Bool, true, false, List, [], ◌∷◌, ◌++◌, length, map, get_or, sym, ap, subst, ◌∙◌, arith}
use Rattle.std.specs.Prelude.{All, Contains}
use Rattle.std.specs.List.{list_any}
use Rattle.std.proofs.lemmas.List.{append-nil, map_push}
use Rattle.base.specs.declared.graph.BuiltFile.{BuiltFile}
use Rattle.base_collections.specs.Numbers.{IsAdded, NumbersBelow}
use Rattle.outside.specs.Records.{Record as RequestRecord, built_of_record}
use Rattle.store_codec.specs.Forms.{RequestDraft, RequestPayload}
use Rattle.base_bytes.specs.TextRefs.{TextRef}
use Rattle.store_codec.specs.Forms.RequestPayload.{OfRequest}
use Rattle.store_codec.specs.RecordTables.{AreNumberedOnce, RecordTable, is_same_built, product_at, with_built}
use Rattle.store_codec.specs.Compaction.{CompactedSoFar, compacted_draft, compacted_ref, compact_own, number_of_built, with_compacted_text}
use Rattle.store_codec.specs.Writing.{ref_or}
use Rattle.store_codec.proofs.Deciding.{same_built-Decides}
use Rattle.store_table.specs.declared.products.ProductRow.{ProductRow}
use Rattle.store_table.specs.declared.table.RecordRow.{RecordRow}
use Rattle.store_table.specs.declared.table.LocatedTable.{LocatedTable}
use Rattle.store_table.specs.Located.{IsTableLocated, no_row, located_table}
use Rattle.store_table.proofs.Puts.{no_record}
use Rattle.store_table.proofs.Finding.{any_decides}
use Rattle.store.specs.declared.plan.CompactionPlan.{CompactionPlan}
use Rattle.store.specs.declared.plan.RequestStep.{RequestStep}
use Rattle.store.specs.declared.plan.CompactionStep.TheVariants as steps
use Rattle.store_table.specs.NumberSets.{AreNumbers}
use Rattle.store.specs.Plans.{HasMoreNumbers, HasTakenRequest, IsCounted, IsPlanIn, IsRequestStep, compacted_by, draft_over, numbered_products, table_record_at, request_step_draft, step_payload, text_of, with_compacted_payload}
use Rattle.store_table.proofs.Numbered.{numbers_more}
use Rattle.store.proofs.Planned.{absent_any, counted_still, deps_grown, payloads_grown, planned_there, products_grown, steps_still, took_numbers, took_ref, took_texts}
use Rattle.store.proofs.LocatedRows.{product_artefact, product_text_low, products_count, record_artefact, record_built, record_text, records_count, row_here, row_is}
use Rattle.store_table.proofs.Placing.{still_there}

compacted_parts : List (List ℕ) → List BuiltFile → List RequestPayload → CompactedSoFar
compacted_parts texts products payloads = record { texts = texts; products = products; payloads = payloads }

module _ (table : RecordTable) (once : AreNumberedOnce table) (plan : CompactionPlan) (is : IsPlanIn table plan) (product : ℕ) (low : product < length table.products) where
  -- a number that may have been added
  pub added_more : (is_new : Bool) (new : NumbersBelow) → IsAdded is_new product plan.products new → HasMoreNumbers plan.products.numbers new.numbers
  added_more true new added = record { more = product ∷ []; grown = ap (λ (s : NumbersBelow). s.numbers) added.1 }
  added_more false new added = record { more = []; grown = ap (λ (s : NumbersBelow). s.numbers) added.1 ∙ sym (append-nil plan.products.numbers) }

  pub added_numbers : (is_new : Bool) (new : NumbersBelow) → IsAdded is_new product plan.products new → AreNumbers (length table.products) new
  added_numbers true new added = numbers_more (length table.products) plan.products new product is.products low added.0 added.1
  added_numbers false new added = subst (AreNumbers (length table.products)) (sym added.1) is.products

  -- is a product that may be there already
  pub added_products : (is_new : Bool) (new : NumbersBelow) → IsAdded is_new product plan.products new → numbered_products table new.numbers ≡ with_built (compacted_by table plan).products (product_at table.products product)
  added_products true new added =
      let grown : numbered_products table new.numbers ≡ (compacted_by table plan).products ++ product_at table.products product ∷ [] = ap (λ (s : NumbersBelow). numbered_products table s.numbers) added.1 ∙ map_push (product_at table.products) plan.products.numbers product in
      rw (absent_any table once plan is product low added.0) grown
  added_products false new added =
      let there : list_any (is_same_built (product_at table.products product)) (compacted_by table plan).products ≡ true = (any_decides same_built-Decides (compacted_by table plan).products (product_at table.products product)).1 (planned_there table once plan is product low added.0) in
      rw there (ap (λ (s : NumbersBelow). numbered_products table s.numbers) added.1)

-- A row of numbers is a record of a table.
pub record IsRecordOfRow (table : RecordTable) (rows : List ProductRow) (row : RecordRow) (number : ℕ) : Type 0 where
  pub low : row.product < length table.products
  pub text_low : row.text < length table.texts
  pub artefact_low : (get_or rows row.product no_row).text < length table.texts
  pub number_low : number < length table.records
  pub text_is : (table_record_at table.records number).asked.text ≡ text_of table.texts row.text
  pub artefact_is : (table_record_at table.records number).artefact ≡ text_of table.texts (get_or rows row.product no_row).text
  pub built_is : built_of_record (table_record_at table.records number) ≡ product_at table.products row.product

pub row_of : (payloads : List (List ℕ)) (table : LocatedTable) → IsTableLocated payloads table → (n : ℕ) → n < length table.rows.items → (row : RecordRow) → row ≡ get_or table.rows.items n row → IsRecordOfRow (located_table payloads table) table.products.keys row n
row_of payloads table located n low row is =
    let own = row_is payloads table located n low in
    subst (λ (r : RecordRow). IsRecordOfRow (located_table payloads table) table.products.keys r n) (sym (row_here payloads table located n low row is)) (record {
      low = omega (arith, own.product, products_count payloads table located);
      text_low = own.text;
      artefact_low = product_text_low payloads table located (get_or table.rows.items n no_record).product own.product;
      number_low = omega (arith, low, records_count payloads table located);
      text_is = record_text payloads table located n low;
      artefact_is = record_artefact payloads table located n low ∙ product_artefact payloads table located (get_or table.rows.items n no_record).product own.product;
      built_is = record_built payloads table located n low;
    })

module _ (table : RecordTable) (once : AreNumberedOnce table) (rows : List ProductRow) (row : RecordRow) (number : ℕ) (of : IsRecordOfRow table rows row number) (old new : CompactionPlan) (step : RequestStep) (is : IsPlanIn table old) (took : HasTakenRequest rows row number old new step) (below : All (Contains (compacted_by table old).products) (table_record_at table.records number).asked.below) where
  abbrev kept : RequestRecord
  kept = table_record_at table.records number

  abbrev so_far : CompactedSoFar
  so_far = compacted_by table old

  abbrev second : ℕ
  second = (get_or rows row.product no_row).text

  grows : HasMoreNumbers old.products.numbers new.products.numbers
  grows = added_more table once old is row.product of.low took.is_new new.products took.product

  between_are : AreNumbers (length table.texts) took.between
  between_are = took_numbers table once row.text of.text_low step.source old.texts took.between is.texts took.source

  pub request_plan : IsPlanIn table new
  request_plan = record {
    products = added_numbers table once old is row.product of.low took.is_new new.products took.product;
    texts = took_numbers table once second of.artefact_low step.artefact took.between new.texts between_are took.artefact;
    steps = steps_still table old new grows.more is grows.grown took.steps;
  }

  products_kept : numbered_products table new.products.numbers ≡ so_far.products ++ numbered_products table grows.more
  products_kept = ap (numbered_products table) grows.grown ∙ products_grown table old.products.numbers grows.more

  pub request_step : IsRequestStep table new.products.numbers step
  request_step = record {
    source_fits = took.source_fits;
    artefact_fits = took.artefact_fits;
    there = omega (arith, took.row_is, of.number_low);
    below = subst (λ (n : ℕ). All (Contains (numbered_products table new.products.numbers)) (table_record_at table.records n).asked.below) (sym took.row_is)
        (λ k d l. subst (λ (ps : List BuiltFile). Contains ps (get_or (table_record_at table.records number).asked.below k d)) (sym products_kept) (still_there so_far.products (numbered_products table grows.more) (get_or (table_record_at table.records number).asked.below k d) (below k d l)));
  }

  payloads_same : (compacted_by table new).payloads ≡ so_far.payloads
  payloads_same = payloads_grown table old new grows.more is grows.grown took.steps

  pub request_counted : IsCounted table old → IsCounted table new
  request_counted counted = counted_still table old new payloads_same took.len counted

  between_now : map (text_of table.texts) took.between.numbers ≡ with_compacted_text so_far.texts kept.asked.text
  between_now = took_texts table once row.text of.text_low step.source old.texts took.between is.texts took.source ∙ ap (with_compacted_text so_far.texts) (sym of.text_is)

  texts_now : (compacted_by table new).texts ≡ with_compacted_text (with_compacted_text so_far.texts kept.asked.text) kept.artefact
  texts_now =
      took_texts table once second of.artefact_low step.artefact took.between new.texts between_are took.artefact
      ∙ ap (with_compacted_text (map (text_of table.texts) took.between.numbers)) (sym of.artefact_is)
      ∙ ap (λ (ts : List (List ℕ)). with_compacted_text ts kept.artefact) between_now

  products_now : (compacted_by table new).products ≡ with_built so_far.products (built_of_record kept)
  products_now = added_products table once old is row.product of.low took.is_new new.products took.product ∙ ap (with_built so_far.products) (sym of.built_is)

  source_now : ref_or step.source kept.asked.text ≡ compacted_ref so_far.texts kept.asked.text
  source_now = rw of.text_is (sym (took_ref table once row.text of.text_low step.source old.texts took.between is.texts took.source))

  artefact_now : ref_or step.artefact kept.artefact ≡ compacted_ref (with_compacted_text so_far.texts kept.asked.text) kept.artefact
  artefact_now =
      let at : ref_or step.artefact kept.artefact ≡ compacted_ref (map (text_of table.texts) took.between.numbers) kept.artefact = rw of.artefact_is (sym (took_ref table once second of.artefact_low step.artefact took.between new.texts between_are took.artefact)) in
      at ∙ ap (λ (ts : List (List ℕ)). compacted_ref ts kept.artefact) between_now

  deps_now : map (number_of_built (numbered_products table new.products.numbers)) kept.asked.below ≡ map (number_of_built so_far.products) kept.asked.below
  deps_now = ap (λ (ns : List ℕ). map (number_of_built (numbered_products table ns)) kept.asked.below) grows.grown ∙ deps_grown table old.products.numbers grows.more kept.asked.below below

  draft_of : TextRef → List ℕ → TextRef → RequestDraft
  draft_of source deps artefact = record { name = kept.asked.name; command = kept.asked.command; source = source; deps = deps; artefact = artefact }

  draft_now : request_step_draft table (numbered_products table new.products.numbers) step ≡ compacted_draft so_far kept
  unfolding draft_of
  draft_now =
      let ps : List BuiltFile = numbered_products table new.products.numbers in
      ap (λ (n : ℕ). draft_over (table_record_at table.records n) (map (number_of_built ps) (table_record_at table.records n).asked.below) step) took.row_is
      ∙ ap (λ (deps : List ℕ). draft_of (ref_or step.source kept.asked.text) deps (ref_or step.artefact kept.artefact)) deps_now
      ∙ ap (λ (r : TextRef). draft_of r (map (number_of_built so_far.products) kept.asked.below) (ref_or step.artefact kept.artefact)) source_now
      ∙ ap (draft_of (compacted_ref so_far.texts kept.asked.text) (map (number_of_built so_far.products) kept.asked.below)) artefact_now

  pub request_compacted : (last : CompactionPlan) → compacted_by table last ≡ with_compacted_payload (compacted_by table new) (step_payload table new.products.numbers (steps.OfRequest step)) → compacted_by table last ≡ compact_own (compacted_by table old) (table_record_at table.records number)
  unfolding compact_own compacted_parts
  request_compacted last made =
      made
      ∙ ap (λ (ts : List (List ℕ)). compacted_parts ts (compacted_by table new).products ((compacted_by table new).payloads ++ OfRequest (request_step_draft table (numbered_products table new.products.numbers) step) ∷ [])) texts_now
      ∙ ap (λ (ps : List BuiltFile). compacted_parts (with_compacted_text (with_compacted_text so_far.texts kept.asked.text) kept.artefact) ps ((compacted_by table new).payloads ++ OfRequest (request_step_draft table (numbered_products table new.products.numbers) step) ∷ [])) products_now
      ∙ ap (λ (ps : List RequestPayload). compacted_parts (with_compacted_text (with_compacted_text so_far.texts kept.asked.text) kept.artefact) (with_built so_far.products (built_of_record kept)) (ps ++ OfRequest (request_step_draft table (numbered_products table new.products.numbers) step) ∷ [])) payloads_same
      ∙ ap (λ (d : RequestDraft). compacted_parts (with_compacted_text (with_compacted_text so_far.texts kept.asked.text) kept.artefact) (with_built so_far.products (built_of_record kept)) (so_far.payloads ++ OfRequest d ∷ [])) draft_now
