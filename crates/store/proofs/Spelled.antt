-- The payloads of the first steps, and the new numbers of the first dependencies.
use Rattle.std.proofs.Common.{◌≡◌, ℕ, ◌+◌, ◌<◌, ◌^◌, List, [], ◌∷◌, ◌++◌, length, map, take, get_or, Option, Some, None, sym, ap, subst, ◌∙◌, arith}
use Rattle.std.specs.Prelude.{All, Contains, IfSome, IfOk, Result, Ok, Err, slice_get}
use Rattle.std.proofs.lemmas.List.{get_or-map, length-map, map_push, same_lists, take_more}
use Rattle.std.proofs.lemmas.List.Elements.{All-push}
use Rattle.base.specs.declared.graph.BuiltFile.{BuiltFile}
use Rattle.base_collections.specs.Numbers.{NumbersBelow}
use Rattle.store_codec.specs.Forms.{HasProductSpelling, HasRefSpelling, HasRequestSpelling, IsSpellable, request_payload_bytes}
use Rattle.outside.specs.Records.{Record as RequestRecord}
use Rattle.store_codec.specs.Compaction.{number_of_built}
use Rattle.store_codec.specs.RecordTables.{AreNumberedOnce, RecordTable, is_same_built, no_product, product_at}
use Rattle.store_codec.specs.Writing.{ref_or}
use Rattle.store_codec.proofs.Deciding.{same_built-Decides}
use Rattle.store_table.proofs.Finding.{once_at}
use Rattle.store.specs.declared.plan.CompactionStep.{CompactionStep}
use Rattle.store.specs.declared.plan.ProductStep.{ProductStep}
use Rattle.store.specs.declared.plan.RequestStep.{RequestStep}
use Rattle.store.specs.Kept.{IsKeptProduct, IsKeptRequest}
use Rattle.store_table.specs.NumberSets.{AreNumbers}
use Rattle.store.specs.Plans.{IsProductStep, draft_over, numbered_products, product_step_draft, step_payload}
use Rattle.store_table.proofs.Numbered.{number_there, thing_index, things_once}
use Rattle.store_table.proofs.Placing.{number_known}

pub record IsWritten (table : RecordTable) (numbers : List ℕ) (steps : List CompactionStep) (payloads : List (List ℕ)) (count : ℕ) : Type 0 where
  pub are : payloads ≡ map request_payload_bytes (map (step_payload table numbers) (take count steps))
  pub spelled : All IsSpellable (map (step_payload table numbers) (take count steps))

pub written_more : (table : RecordTable) (numbers : List ℕ) (list : List CompactionStep) (payloads more : List (List ℕ)) (bytes : List ℕ) (step : CompactionStep) (count : ℕ) → IsWritten table numbers list payloads count → count < length list → step ≡ get_or list count step → bytes ≡ request_payload_bytes (step_payload table numbers step) → IsSpellable (step_payload table numbers step) → more ≡ payloads ++ bytes ∷ [] → IsWritten table numbers list more (count + 1)
written_more table numbers list payloads more bytes step count so_far low is spells spelled grown =
    let next : map (step_payload table numbers) (take (count + 1) list) ≡ map (step_payload table numbers) (take count list) ++ step_payload table numbers step ∷ [] =
    ap (map (step_payload table numbers)) (take_more list count step low ∙ ap (λ (x : CompactionStep). take count list ++ x ∷ []) (sym is)) ∙ map_push (step_payload table numbers) (take count list) step in
    record {
      are = grown ∙ ap (λ (ps : List (List ℕ)). ps ++ bytes ∷ []) so_far.are
          ∙ ap (λ (b : List ℕ). map request_payload_bytes (map (step_payload table numbers) (take count list)) ++ b ∷ []) spells
          ∙ sym (map_push request_payload_bytes (map (step_payload table numbers) (take count list)) (step_payload table numbers step))
          ∙ ap (map request_payload_bytes) (sym next);
      spelled = subst (All IsSpellable) (sym next) (All-push IsSpellable (map (step_payload table numbers) (take count list)) (step_payload table numbers step) so_far.spelled spelled);
    }

pub record AreLocated (numbers deps located : List ℕ) (count : ℕ) : Type 0 where
  pub are : map (slice_get numbers) located ≡ map (λ dep. Some dep) (take count deps)
  pub fits : All (λ number. number < 2 ^ 64) located

pub located_more : (numbers deps located more : List ℕ) (number count : ℕ) → AreLocated numbers deps located count → count < length deps → slice_get numbers number ≡ Some (get_or deps count 0) → number < 2 ^ 64 → more ≡ located ++ number ∷ [] → AreLocated numbers deps more (count + 1)
located_more numbers deps located more number count so_far low is fits grown = record {
  are = ap (map (slice_get numbers)) grown ∙ map_push (slice_get numbers) located number
      ∙ ap (λ (os : List (Option ℕ)). os ++ slice_get numbers number ∷ []) so_far.are
      ∙ ap (λ (o : Option ℕ). map (λ (dep : ℕ). Some dep) (take count deps) ++ o ∷ []) is
      ∙ sym (map_push (λ (dep : ℕ). Some dep) (take count deps) (get_or deps count 0))
      ∙ ap (map (λ (dep : ℕ). Some dep)) (sym (take_more deps count 0 low));
  fits = subst (All (λ n. n < 2 ^ 64)) (sym grown) (All-push (λ n. n < 2 ^ 64) located number so_far.fits fits);
}

-- products by their new numbers
module _ (table : RecordTable) (once : AreNumberedOnce table) (products : NumbersBelow) (are : AreNumbers (length table.products) products) (deps : List ℕ) (low : All (λ dep. dep < length table.products) deps) where
  apart : (a b : ℕ) → a < length table.products → b < length table.products → product_at table.products a ≡ product_at table.products b → a ≡ b
  apart a b l m e = once_at table.products no_product once.products a b l m e

  -- their own numbers are those of the plan
  pub deps_planned : (below : List BuiltFile) → numbered_products table deps ≡ below → All (Contains (numbered_products table products.numbers)) below → All (Contains products.numbers) deps
  deps_planned below e has k d l =
      let m : k < length below = omega (arith, l, ap length e, length-map deps (product_at table.products)) in
      let here : get_or below k no_product ≡ product_at table.products (get_or deps k d) = ap (λ (ps : List BuiltFile). get_or ps k no_product) (sym e) ∙ get_or-map (product_at table.products) deps k d no_product l in
      number_there (product_at table.products) (length table.products) apart products.numbers are.below (get_or deps k d) (low k d l)
      (subst (Contains (numbered_products table products.numbers)) here (has k no_product m))

  pub deps_numbered : (numbers : List ℕ) (below : List BuiltFile) → numbered_products table deps ≡ below → map (slice_get products.numbers) numbers ≡ map (λ dep. Some dep) deps → numbers ≡ map (number_of_built (numbered_products table products.numbers)) below
  deps_numbered numbers below e located =
      let ps : List BuiltFile = numbered_products table products.numbers in
      let as_many : length numbers ≡ length deps = sym (length-map numbers (slice_get products.numbers)) ∙ ap length located ∙ length-map deps (λ (dep : ℕ). Some dep) in
      let size : length deps ≡ length below = sym (length-map deps (product_at table.products)) ∙ ap length e in
      same_lists numbers (map (number_of_built ps) below) (as_many ∙ size ∙ sym (length-map below (number_of_built ps))) (λ k d l.
      let m : k < length deps = omega (arith, l, as_many) in
      let n : k < length below = omega (arith, m, size) in
      let here : get_or below k no_product ≡ product_at table.products (get_or deps k 0) = ap (λ (fs : List BuiltFile). get_or fs k no_product) (sym e) ∙ get_or-map (product_at table.products) deps k 0 no_product m in
      let found_index : slice_get products.numbers (get_or numbers k d) ≡ Some (get_or deps k 0) =
      sym (get_or-map (slice_get products.numbers) numbers k d None l) ∙ ap (λ (os : List (Option ℕ)). get_or os k None) located ∙ get_or-map (λ (dep : ℕ). Some dep) deps k 0 None m in
      let known : number_of_built (numbered_products table products.numbers) (product_at table.products (get_or deps k 0)) ≡ get_or numbers k d =
      number_known is_same_built same_built-Decides ps (product_at table.products (get_or deps k 0)) (get_or numbers k d) (things_once (product_at table.products) (length table.products) apart products.numbers are.below are.once)
      (thing_index (product_at table.products) (length table.products) apart products.numbers are.below (get_or deps k 0) (Some (get_or numbers k d)) (low k 0 m) found_index) in
      sym known ∙ ap (number_of_built ps) (sym here) ∙ sym (get_or-map (number_of_built ps) below k no_product d n))

-- what has a spelling
ref_fits : (known : Option ℕ) (text : List ℕ) → IfSome known (λ (n : ℕ). n < 2 ^ 64) → length text < 2 ^ 32 → HasRefSpelling (ref_or known text)
ref_fits None text fits small = small
ref_fits (Some n) text fits small = fits

pub product_spelled : (table : RecordTable) (step : ProductStep) → IsProductStep table step → All IsKeptProduct table.products → HasProductSpelling (product_step_draft table step)
product_spelled table step is all =
    let kept = all step.product no_product is.there in
    record {
      name = record { library = omega (arith, kept.name.library.at_most); path = omega (arith, kept.name.path.at_most) };
      artefact = ref_fits step.text (product_at table.products step.product).artefact is.fits (omega (arith, kept.small));
    }

pub request_spelled : (kept : RequestRecord) (deps : List ℕ) (step : RequestStep) → IsKeptRequest kept → IfSome step.source (λ (n : ℕ). n < 2 ^ 64) → IfSome step.artefact (λ (n : ℕ). n < 2 ^ 64) → length deps ≡ length kept.asked.below → All (λ dep. dep < 2 ^ 64) deps → HasRequestSpelling (draft_over kept deps step)
request_spelled kept deps step is source artefact as_many fits = record {
  name = record { library = omega (arith, is.name.library.at_most); path = omega (arith, is.name.path.at_most) };
  count = omega (arith, is.command.count.at_most);
  words = λ k d l. (let small = is.command.words k d l in omega (arith, small));
  source = ref_fits step.source kept.asked.text source (omega (arith, is.text));
  few = omega (arith, as_many, is.few);
  deps = fits;
  artefact = ref_fits step.artefact kept.artefact artefact (omega (arith, is.small));
}

-- what holds whatever a call answers
pub if_ok : {T E : Type 0} (P : Type 0) (result : Result T E) → P → IfOk result (λ _. P)
if_ok P (Ok value) p = p
if_ok P (Err error) p = tt
