-- What a plan by numbers has carried is what is carried by texts and products.
use Rattle.std.proofs.Common.{◌≡◌, ℕ, ◌<◌, ◌^◌, ◌-◌, ◌+◌, min, Bool, true, false, List, [], ◌∷◌, ◌++◌, length, map, get_or, Option, Some, None, refl, sym, ap, subst, ◌∙◌, arith}
use Rattle.std.specs.Prelude.{All, Contains}
use Rattle.std.specs.List.{list_any}
use Rattle.std.specs.Str.{bytes_eq}
use Rattle.std.proofs.lemmas.List.{map-append, map_push}
use Rattle.std.proofs.lemmas.Slice.Eq.{bytes_eq-Decides}
use Rattle.base.specs.declared.graph.BuiltFile.{BuiltFile}
use Rattle.base_collections.specs.Numbers.{IsIndexOf, NumbersBelow}
use Rattle.store_journal.specs.Payloads.{block}
use Rattle.store_codec.specs.Forms.{ProductDraft, RequestPayload, request_payload_bytes}
use Rattle.base_bytes.specs.TextRefs.{TextRef, with_text}
use Rattle.store_codec.specs.Forms.RequestPayload.{OfProduct, OfRequest}
use Rattle.store_codec.specs.RecordTables.{AreNumberedOnce, RecordTable, is_same_built, no_product, product_at}
use Rattle.store_codec.specs.Compaction.{CompactedSoFar, compacted_ref, compact_product, number_of_built, with_compacted_text}
use Rattle.store_codec.specs.Writing.{ref_or}
use Rattle.store_codec.proofs.Deciding.{same_built-Decides}
use Rattle.store_table.specs.declared.products.ProductRow.{ProductRow}
use Rattle.store_table.specs.Located.{no_row}
use Rattle.store_table.proofs.Finding.{any_decides, once_at}
use Rattle.store_table.proofs.Keeping.{map_same}
use Rattle.store.specs.declared.plan.CompactionPlan.{CompactionPlan}
use Rattle.store.specs.declared.plan.ProductStep.{ProductStep}
use Rattle.store.specs.declared.plan.RequestStep.{RequestStep}
use Rattle.store.specs.declared.plan.CompactionStep.{CompactionStep}
use Rattle.store.specs.declared.plan.CompactionStep.TheVariants as steps
use Rattle.store_table.specs.NumberSets.{AreNumbers}
use Rattle.store.specs.Plans.{HasMoreNumbers, HasTakenProduct, IsCounted, IsPlanIn, IsPlanStep, IsProductStep, IsRequestStep, TookText, blocks_length, compacted_by, draft_over, numbered_products, product_step_draft, table_record_at, request_step_draft, step_payload, text_of, with_compacted_payload}
use Rattle.store.proofs.Counting.{blocks_more, counted_more}
use Rattle.store_table.proofs.Numbered.{number_last, number_there, numbers_more, thing_index, thing_there, things_once}
use Rattle.store_table.proofs.Placing.{number_grown, index_known, still_there}

-- what is not there is not found
pub not_any : (products : List BuiltFile) (product : BuiltFile) → (¬ Contains products product) → list_any (is_same_built product) products ≡ false
not_any products product never = by (list_any (is_same_built product) products) refl
  where
    by : (b : Bool) → list_any (is_same_built product) products ≡ b → b ≡ false
    by true e = absurd (never ((any_decides same_built-Decides products product).0 e))
    by false e = refl

-- steps of a plan where numbers come
module _ (table : RecordTable) (numbers more : List ℕ) where
  pub products_grown : numbered_products table (numbers ++ more) ≡ numbered_products table numbers ++ numbered_products table more
  products_grown = map-append (product_at table.products) numbers more

  pub deps_grown : (below : List BuiltFile) → All (Contains (numbered_products table numbers)) below → map (number_of_built (numbered_products table (numbers ++ more))) below ≡ map (number_of_built (numbered_products table numbers)) below
  deps_grown below has =
      ap (λ (ps : List BuiltFile). map (number_of_built ps) below) products_grown
      ∙ map_same (number_of_built (numbered_products table numbers ++ numbered_products table more)) (number_of_built (numbered_products table numbers)) below no_product
      (λ k l. number_grown is_same_built same_built-Decides (numbered_products table numbers) (numbered_products table more) (get_or below k no_product) (has k no_product l))

  pub request_grown : (step : RequestStep) → IsRequestStep table numbers step → request_step_draft table (numbered_products table (numbers ++ more)) step ≡ request_step_draft table (numbered_products table numbers) step
  request_grown step is =
      ap (λ (deps : List ℕ). draft_over (table_record_at table.records step.row) deps step) (deps_grown (table_record_at table.records step.row).asked.below is.below)

  pub step_grown : (step : CompactionStep) → IsPlanStep table numbers step → step_payload table (numbers ++ more) step ≡ step_payload table numbers step
  step_grown (steps.OfProduct step) is = refl
  step_grown (steps.OfRequest step) is = ap OfRequest (request_grown step is)

  pub step_still : (step : CompactionStep) → IsPlanStep table numbers step → IsPlanStep table (numbers ++ more) step
  step_still (steps.OfProduct step) is = is
  step_still (steps.OfRequest step) is = record {
    source_fits = is.source_fits;
    artefact_fits = is.artefact_fits;
    there = is.there;
    below = λ k d l. subst (λ (ps : List BuiltFile). Contains ps (get_or (table_record_at table.records step.row).asked.below k d)) (sym products_grown) (still_there (numbered_products table numbers) (numbered_products table more) (get_or (table_record_at table.records step.row).asked.below k d) (is.below k d l));
  }

-- an entry for no step
abbrev pub no_step : CompactionStep
no_step = steps.OfProduct (record { product = 0; text = None })

-- the planned payloads don't change if product numbers are added
pub payloads_grown : (table : RecordTable) (old new : CompactionPlan) (more : List ℕ) → IsPlanIn table old → new.products.numbers ≡ old.products.numbers ++ more → new.steps.items ≡ old.steps.items → (compacted_by table new).payloads ≡ (compacted_by table old).payloads
payloads_grown table old new more is grown steps_are =
    ap (map (step_payload table new.products.numbers)) steps_are
    ∙ ap (λ (ns : List ℕ). map (step_payload table ns) old.steps.items) grown
    ∙ map_same (step_payload table (old.products.numbers ++ more)) (step_payload table old.products.numbers) old.steps.items no_step (λ k l. step_grown table old.products.numbers more (get_or old.steps.items k no_step) (is.steps k no_step l))

pub steps_still : (table : RecordTable) (old new : CompactionPlan) (more : List ℕ) → IsPlanIn table old → new.products.numbers ≡ old.products.numbers ++ more → new.steps.items ≡ old.steps.items → All (IsPlanStep table new.products.numbers) new.steps.items
steps_still table old new more is grown steps_are = rw (steps_are, grown) (λ k d l. step_still table old.products.numbers more (get_or old.steps.items k d) (is.steps k d l))

-- what is counted stays so where no payload comes
pub counted_still : (table : RecordTable) (old new : CompactionPlan) → (compacted_by table new).payloads ≡ (compacted_by table old).payloads → new.len ≡ old.len → IsCounted table old → IsCounted table new
counted_still table old new payloads len counted = len ∙ counted ∙ ap (λ (ps : List RequestPayload). min (2 ^ 64 - 1) (blocks_length ps)) (sym payloads)

-- a text was taken
module _ (table : RecordTable) (once : AreNumberedOnce table) (text : ℕ) (low : text < length table.texts) where
  apart : (a b : ℕ) → a < length table.texts → b < length table.texts → text_of table.texts a ≡ text_of table.texts b → a ≡ b
  apart a b l m e = once_at table.texts [] once.texts a b l m e

  pub took_numbers : (known : Option ℕ) (old new : NumbersBelow) → AreNumbers (length table.texts) old → TookText text known old new → AreNumbers (length table.texts) new
  took_numbers None old new are took = numbers_more (length table.texts) old new text are low took.0 took.1
  took_numbers (Some found_index) old new are took = subst (AreNumbers (length table.texts)) (sym took.1) are

  was_located : (known : Option ℕ) (old new : NumbersBelow) → TookText text known old new → IsIndexOf old.numbers text known
  was_located None old new took = took.0
  was_located (Some found_index) old new took = took.0

  pub took_ref : (known : Option ℕ) (old new : NumbersBelow) → AreNumbers (length table.texts) old → TookText text known old new → compacted_ref (map (text_of table.texts) old.numbers) (text_of table.texts text) ≡ ref_or known (text_of table.texts text)
  took_ref known old new are took =
      let f = text_of table.texts in
      ap (λ (o : Option ℕ). ref_or o (text_of table.texts text))
      (index_known bytes_eq bytes_eq-Decides (map (text_of table.texts) old.numbers) (text_of table.texts text) known (things_once f (length table.texts) apart old.numbers are.below are.once) (thing_index f (length table.texts) apart old.numbers are.below text known low (was_located known old new took)))

  added_by : (known : Option ℕ) (old new : NumbersBelow) → TookText text known old new → map (text_of table.texts) new.numbers ≡ with_text (map (text_of table.texts) old.numbers) (ref_or known (text_of table.texts text))
  added_by None old new took = ap (λ (s : NumbersBelow). map (text_of table.texts) s.numbers) took.1 ∙ map_push (text_of table.texts) old.numbers text
  added_by (Some found_index) old new took = ap (λ (s : NumbersBelow). map (text_of table.texts) s.numbers) took.1

  pub took_texts : (known : Option ℕ) (old new : NumbersBelow) → AreNumbers (length table.texts) old → TookText text known old new → map (text_of table.texts) new.numbers ≡ with_compacted_text (map (text_of table.texts) old.numbers) (text_of table.texts text)
  took_texts known old new are took = added_by known old new took ∙ ap (λ (r : TextRef). with_text (map (text_of table.texts) old.numbers) r) (sym (took_ref known old new are took))

products_apart : (table : RecordTable) → AreNumberedOnce table → (a b : ℕ) → a < length table.products → b < length table.products → product_at table.products a ≡ product_at table.products b → a ≡ b
products_apart table once a b l m e = once_at table.products no_product once.products a b l m e

compacted_parts : List (List ℕ) → List BuiltFile → List RequestPayload → CompactedSoFar
compacted_parts texts products payloads = record { texts = texts; products = products; payloads = payloads }

-- a product whose number was planned is there, and one whose number wasn't is not
module _ (table : RecordTable) (once : AreNumberedOnce table) (plan : CompactionPlan) (is : IsPlanIn table plan) (product : ℕ) (low : product < length table.products) where
  pub planned_there : Contains plan.products.numbers product → Contains (compacted_by table plan).products (product_at table.products product)
  planned_there has = thing_there (product_at table.products) (length table.products) (products_apart table once) plan.products.numbers is.products.below product has

  pub planned_number : Contains (compacted_by table plan).products (product_at table.products product) → Contains plan.products.numbers product
  planned_number has = number_there (product_at table.products) (length table.products) (products_apart table once) plan.products.numbers is.products.below product low has

  pub again : Contains plan.products.numbers product → compacted_by table plan ≡ compact_product (compacted_by table plan) (product_at table.products product)
  unfolding compact_product
  again has = rw ((any_decides same_built-Decides (compacted_by table plan).products (product_at table.products product)).1 (planned_there has)) refl

  pub absent_any : (¬ Contains plan.products.numbers product) → list_any (is_same_built (product_at table.products product)) (compacted_by table plan).products ≡ false
  absent_any never = not_any (compacted_by table plan).products (product_at table.products product) (λ has. never (planned_number has))

-- a product was taken
module _ (table : RecordTable) (once : AreNumberedOnce table) (rows : List ProductRow) (product : ℕ) (low : product < length table.products) (text_low : (get_or rows product no_row).text < length table.texts) (text_is : (product_at table.products product).artefact ≡ text_of table.texts (get_or rows product no_row).text) (old new : CompactionPlan) (step : ProductStep) (is : IsPlanIn table old) (took : HasTakenProduct rows product old new step) (absent : ¬ Contains old.products.numbers product) where
  abbrev text : ℕ
  text = (get_or rows product no_row).text

  numbers_are : new.products.numbers ≡ old.products.numbers ++ product ∷ []
  numbers_are = ap (λ (s : NumbersBelow). s.numbers) took.products_are

  pub product_plan : IsPlanIn table new
  product_plan = record {
    products = numbers_more (length table.products) old.products new.products product is.products low absent took.products_are;
    texts = took_numbers table once text text_low step.text old.texts new.texts is.texts took.text;
    steps = steps_still table old new (product ∷ []) is numbers_are took.steps;
  }

  pub product_step : IsProductStep table step
  product_step = record { fits = took.fits; there = omega (arith, took.product_is, low) }

  pub product_more : HasMoreNumbers old.products.numbers new.products.numbers
  product_more = record { more = product ∷ []; grown = numbers_are }

  pub product_has : Contains new.products.numbers product
  product_has = subst (λ (ns : List ℕ). Contains ns product) (sym numbers_are) (number_last old.products.numbers product)

  payloads_same : (compacted_by table new).payloads ≡ (compacted_by table old).payloads
  payloads_same = payloads_grown table old new (product ∷ []) is numbers_are took.steps

  pub product_counted : IsCounted table old → IsCounted table new
  product_counted counted = counted_still table old new payloads_same took.len counted

  abbrev so_far : CompactedSoFar
  so_far = compacted_by table old

  abbrev mine : BuiltFile
  mine = product_at table.products product

  texts_now : (compacted_by table new).texts ≡ with_compacted_text so_far.texts mine.artefact
  texts_now = took_texts table once text text_low step.text old.texts new.texts is.texts took.text ∙ ap (with_compacted_text so_far.texts) (sym text_is)

  products_now : (compacted_by table new).products ≡ so_far.products ++ mine ∷ []
  products_now = ap (map (product_at table.products)) numbers_are ∙ map_push (product_at table.products) old.products.numbers product

  draft_now : product_step_draft table step ≡ record { name = mine.name; artefact = compacted_ref so_far.texts mine.artefact }
  draft_now =
      let ref : compacted_ref so_far.texts mine.artefact ≡ ref_or step.text mine.artefact = rw text_is (took_ref table once text text_low step.text old.texts new.texts is.texts took.text) in
      ap (λ (p : ℕ). record { name = (product_at table.products p).name; artefact = ref_or step.text (product_at table.products p).artefact }) took.product_is
      ∙ ap (λ (r : TextRef). record { name = mine.name; artefact = r }) (sym ref)

  pub product_compacted : (last : CompactionPlan) → compacted_by table last ≡ with_compacted_payload (compacted_by table new) (step_payload table new.products.numbers (steps.OfProduct step)) → compacted_by table last ≡ compact_product (compacted_by table old) (product_at table.products product)
  unfolding compact_product compacted_parts
  product_compacted last made =
      rw (absent_any table once old is product low absent)
      (made
      ∙ ap (λ (ts : List (List ℕ)). compacted_parts ts (compacted_by table new).products ((compacted_by table new).payloads ++ OfProduct (product_step_draft table step) ∷ [])) texts_now
      ∙ ap (λ (ps : List BuiltFile). compacted_parts (with_compacted_text so_far.texts mine.artefact) ps ((compacted_by table new).payloads ++ OfProduct (product_step_draft table step) ∷ [])) products_now
      ∙ ap (λ (ps : List RequestPayload). compacted_parts (with_compacted_text so_far.texts mine.artefact) (so_far.products ++ mine ∷ []) (ps ++ OfProduct (product_step_draft table step) ∷ [])) payloads_same
      ∙ ap (λ (d : ProductDraft). compacted_parts (with_compacted_text so_far.texts mine.artefact) (so_far.products ++ mine ∷ []) (so_far.payloads ++ OfProduct d ∷ [])) draft_now)

-- one step more, counted
pub added_counted : (table : RecordTable) (old new : CompactionPlan) (step : CompactionStep) (size : ℕ) → new.products.numbers ≡ old.products.numbers → new.steps.items ≡ old.steps.items ++ step ∷ [] → new.len ≡ min (2 ^ 64 - 1) (old.len + size) → size ≡ length (block (request_payload_bytes (step_payload table old.products.numbers step))) → IsCounted table old → IsCounted table new
added_counted table old new step size numbers steps_are len size_is counted =
    let f = step_payload table old.products.numbers in
    let payloads : (compacted_by table new).payloads ≡ (compacted_by table old).payloads ++ f step ∷ [] =
    ap (λ (ns : List ℕ). map (step_payload table ns) new.steps.items) numbers ∙ ap (map f) steps_are ∙ map_push f old.steps.items step in
    let more : blocks_length (compacted_by table new).payloads ≡ blocks_length (compacted_by table old).payloads + size = ap blocks_length payloads ∙ blocks_more (compacted_by table old).payloads (f step) ∙ ap (λ (n : ℕ). blocks_length (compacted_by table old).payloads + n) (sym size_is) in
    counted_more old.len size (blocks_length (compacted_by table old).payloads) new.len (blocks_length (compacted_by table new).payloads) counted more len
