-- The payload of what would be asked for a file now.
use Rattle.std.proofs.Common.{◌≡◌, ◌≢◌, ℕ, zero, suc, ◌<◌, ◌≤◌, ◌^◌, List, [], ◌∷◌, ◌++◌, length, map, get_or, None, Some, Option, true, refl, sym, ap, subst, ◌∙◌, arith, inl, inr, length-append}
use Rattle.std.specs.Prelude.{All, AllPairs, IfSome, slice_get}
use Rattle.std.specs.Option.{option_map_or}
use Rattle.std.specs.List.Sorted.{IsStrictlyIncreasing}
use Rattle.std.proofs.lemmas.Bool.{cases_lt}
use Rattle.std.proofs.lemmas.Bool.Decides.{nat_tests}
use Rattle.std.proofs.lemmas.List.{get_or-map, get_or_append_left, get_or_default, length-map}
use Rattle.std.proofs.lemmas.List.Elements.{Contains-push_cases}
use Rattle.std.proofs.lemmas.List.Kept.{AllPairs-from_increasing}
use Rattle.std.proofs.lemmas.Option.{get_or_from_slice_get, slice_get-get_or, slice_get_within}
use Rattle.base.specs.Graphs.{IsEntryAt, IsGraph}
use Rattle.base.specs.declared.graph.BuiltFile.{BuiltFile}
use Rattle.base.specs.declared.graph.Entry.{Entry}
use Rattle.base.specs.declared.limits.TheConstants.{ARTEFACT_LIMIT}
use Rattle.outside.specs.Records.{deps_at}
use Rattle.base_collections.specs.Numbers.{IsIndexOf}
use Rattle.store_codec.specs.Forms.{HasRefSpelling, HasRequestSpelling}
use Rattle.outside.specs.Records.{Record as RequestRecord, built_of_record, latest as latest_request}
use Rattle.store_codec.specs.RecordTables.{IsRequest, RecordTable, drafted_record, no_product, product_at}
use Rattle.base_bytes.specs.TextRefs.{is_text_ref, told_text, with_text}
use Rattle.store_codec.specs.Writing.{ref_or}
use Rattle.store_table.proofs.Finding.{new_is}
use Rattle.store.specs.declared.asking.TextRefs.{TextRefs}
use Rattle.store.specs.Additions.{AreDeps, AreRefs, HasAskedSizes, IsRequestOver, asked_draft, record_over}
use Rattle.outside.specs.Records.{HasLatest, latest_built}
use Rattle.store.proofs.Latest.{latest_named}

pub is_ref : (texts : List (List ℕ)) (text : List ℕ) (known : Option ℕ) → IsIndexOf texts text known → is_text_ref texts (ref_or known text) ≡ true
is_ref texts text None is = new_is texts text is
is_ref texts text (Some n) is = (let low : n < length texts = slice_get_within texts n text is in grind (arith, nat_tests, low))

pub is_told : (texts : List (List ℕ)) (text : List ℕ) (known : Option ℕ) → IsIndexOf texts text known → told_text texts (ref_or known text) ≡ text
is_told texts text None is = refl
is_told texts text (Some n) is = get_or_from_slice_get texts n text [] is

-- the index of a text after another new one
pub index_after : (texts : List (List ℕ)) (new text : List ℕ) (item_index : Option ℕ) → new ≢ text → IsIndexOf texts text item_index → IsIndexOf (texts ++ new ∷ []) text item_index
index_after texts new text None other is = λ has. elim (Contains-push_cases texts new text has) [
  | inl old ↦ is old
  | inr same ↦ other same
]
index_after texts new text (Some n) other is =
    let low : n < length texts = slice_get_within texts n text is in
    slice_get-get_or (texts ++ new ∷ []) n [] (omega (arith, low, length-append texts (new ∷ [])))
    ∙ ap (λ (t : List ℕ). Some t) (get_or_append_left texts (new ∷ []) [] n low ∙ get_or_from_slice_get texts n text [] is)

ref_fits : (known : Option ℕ) (text : List ℕ) → IfSome known (λ (n : ℕ). n < 2 ^ 64) → length text < 2 ^ 32 → HasRefSpelling (ref_or known text)
ref_fits None text fits small = small
ref_fits (Some n) text fits small = fits

-- what would be asked for a file can be spelled
pub asked_spelled : (entry : Entry) (source : Option ℕ) (deps : List ℕ) (known : Option ℕ) (artefact : List ℕ) → HasAskedSizes entry deps artefact → IfSome source (λ (n : ℕ). n < 2 ^ 64) → IfSome known (λ (n : ℕ). n < 2 ^ 64) → ((i : ℕ) → get_or deps i 0 < 2 ^ 64) → HasRequestSpelling (asked_draft entry source deps known artefact)
asked_spelled entry source deps known artefact sizes source_low known_low deps_low = record {
  name = record { library = omega (arith, sizes.name.library.at_most); path = omega (arith, sizes.name.path.at_most) };
  count = omega (arith, sizes.command.count.at_most);
  words = λ k d l. (let fits = sizes.command.words k d l in omega (arith, fits));
  source = ref_fits source entry.text source_low (omega (arith, sizes.text));
  few = omega (arith, sizes.few);
  deps = λ k d l. rw (sym (get_or_default deps k 0 d l)) (deps_low k);
  artefact = ref_fits known artefact known_low (omega (arith, sizes.small));
}

module _ (positions : List ℕ) (rising : IsStrictlyIncreasing positions) where
  pub before_later : (i j : ℕ) → i < j → j < length positions → get_or positions i 0 < get_or positions j 0
  before_later i j a b = AllPairs-from_increasing positions rising i j 0 a b

  -- a position is at least its number
  index_le : (k : ℕ) → k < length positions → k ≤ get_or positions k 0
  index_le zero lt = omega arith
  index_le (suc k) lt = omega (arith, index_le k (omega arith), before_later k (suc k) (omega arith) lt)

  few : (n : ℕ) → All (λ p. p < n) positions → length positions ≤ n
  few n within = elim (cases_lt n (length positions)) [
    | inl l ↦ absurd (omega (arith, index_le n l, within n 0 l))
    | inr le ↦ le
  ]

module _ (table : RecordTable) (graph : List Entry) (is_graph : IsGraph graph) (at : ℕ) (entry : Entry) (found : slice_get graph at ≡ Some entry) where
  here : get_or graph at entry ≡ entry
  here = get_or_from_slice_get graph at entry entry found

  low : at < length graph
  low = slice_get_within graph at entry found

  pub before : All (λ dep. dep < at) entry.deps
  before = subst (λ (e : Entry). All (λ dep. dep < at) e.deps) here (is_graph.each at entry low).before

  pub rising : IsStrictlyIncreasing entry.deps
  rising = subst (λ (e : Entry). IsStrictlyIncreasing e.deps) here (is_graph.each at entry low).rising

  pub deps_are : deps_at graph at ≡ entry.deps
  deps_are = ap (λ (o : Option Entry). option_map_or (λ (e : Entry). e.deps) o []) found

  pub sizes : (deps artefact : List ℕ) → length deps ≡ length entry.deps → length artefact ≤ ARTEFACT_LIMIT → HasAskedSizes entry deps artefact
  sizes deps artefact as_many small =
      let is = subst (λ (e : Entry). IsEntryAt graph at e) here (is_graph.each at entry low) in
      record { name = is.name; command = is.command; text = is.text; few = omega (arith, as_many, few entry.deps rising at before, low, is_graph.few); small = small }

  -- a file that was built has the name of its file in the graph
  built_name : (p : ℕ) (other : Entry) → HasLatest (λ name. latest_request name table.records) graph p → (latest_built (λ name. latest_request name table.records) graph p).name ≡ (get_or graph p other).name
  built_name p other has =
      let is : latest_built (λ name. latest_request name table.records) graph p ≡ built_of_record has.kept = ap (λ (o : Option Entry). option_map_or (λ (f : Entry). option_map_or built_of_record (latest_request f.name table.records) no_product) o no_product) has.is_entry ∙ ap (λ (o : Option RequestRecord). option_map_or built_of_record o no_product) has.is in
      ap (λ (f : BuiltFile). f.name) is ∙ latest_named has.entry.name table.records has.kept has.is ∙ sym (ap (λ (e : Entry). e.name) (get_or_from_slice_get graph p has.entry other has.is_entry))

  module _ (deps : List ℕ) (are : AreDeps table graph at deps) where
    pub below : map (product_at table.products) deps ≡ map (latest_built (λ name. latest_request name table.records) graph) entry.deps
    below = are.built ∙ ap (map (latest_built (λ name. latest_request name table.records) graph)) deps_are

    latest : All (HasLatest (λ name. latest_request name table.records) graph) entry.deps
    latest = subst (λ (ps : List ℕ). All (HasLatest (λ name. latest_request name table.records) graph) ps) deps_are are.latest

    pub as_many : length deps ≡ length entry.deps
    as_many = sym (length-map deps (product_at table.products)) ∙ ap length below ∙ length-map entry.deps (latest_built (λ name. latest_request name table.records) graph)

    name_at : (k : ℕ) (d : BuiltFile) → k < length (map (product_at table.products) deps) → (get_or (map (product_at table.products) deps) k d).name ≡ (get_or graph (get_or entry.deps k 0) entry).name
    name_at k d l =
        let m : k < length entry.deps = omega (arith, l, as_many, length-map deps (product_at table.products)) in
        ap (λ (fs : List BuiltFile). (get_or fs k d).name) below ∙ ap (λ (f : BuiltFile). f.name) (get_or-map (latest_built (λ name. latest_request name table.records) graph) entry.deps k 0 d m) ∙ built_name (get_or entry.deps k 0) entry (latest k 0 m)

    apart : AllPairs (λ a b. a.name ≢ b.name) (map (product_at table.products) deps)
    apart i j d a b e =
        let m : j < length entry.deps = omega (arith, b, as_many, length-map deps (product_at table.products)) in
        let l : get_or entry.deps j 0 < at = before j 0 m in
        is_graph.distinct (get_or entry.deps i 0) (get_or entry.deps j 0) entry (before_later entry.deps rising i j a m) (omega (arith, l, low)) (sym (name_at i d (omega (arith, a, b))) ∙ e ∙ name_at j d b)

    others : All (λ other. other.name ≢ entry.name) (map (product_at table.products) deps)
    others k d l e =
        let m : k < length entry.deps = omega (arith, l, as_many, length-map deps (product_at table.products)) in
        is_graph.distinct (get_or entry.deps k 0) at entry (before k 0 m) low (sym (name_at k d l) ∙ e ∙ ap (λ (f : Entry). f.name) (sym here))

    -- the file with an artefact is a record over these products
    pub over : (artefact : List ℕ) → length artefact ≤ ARTEFACT_LIMIT → IsRequestOver table entry deps artefact
    over artefact small = record { sizes = sizes deps artefact as_many small; there = are.there; apart = apart; others = others }

module _ (table : RecordTable) (entry : Entry) (deps artefact : List ℕ) (over : IsRequestOver table entry deps artefact) (refs : TextRefs) (texts : AreRefs table.texts entry.text artefact refs) where
  pub request : IsRequest table (asked_draft entry refs.source deps refs.known artefact)
  request = record {
    name = over.sizes.name;
    command = over.sizes.command;
    source = is_ref table.texts entry.text refs.source texts.source;
    text_small = rw (is_told table.texts entry.text refs.source texts.source) over.sizes.text;
    artefact = is_ref (with_text table.texts (ref_or refs.source entry.text)) artefact refs.known texts.known;
    small = rw (is_told (with_text table.texts (ref_or refs.source entry.text)) artefact refs.known texts.known) over.sizes.small;
    few = over.sizes.few;
    there = over.there;
    apart = over.apart;
    others = over.others;
  }

  record_by : List ℕ → List ℕ → RequestRecord
  record_by text given = record { asked = record { command = entry.command; name = entry.name; text = text; below = map (product_at table.products) deps }; artefact = given }

  pub recorded : drafted_record table (asked_draft entry refs.source deps refs.known artefact) ≡ record_over table entry deps artefact
  unfolding record_by
  recorded =
      ap (λ (t : List ℕ). record_by t (told_text (with_text table.texts (ref_or refs.source entry.text)) (ref_or refs.known artefact))) (is_told table.texts entry.text refs.source texts.source)
      ∙ ap (λ (t : List ℕ). record_by entry.text t) (is_told (with_text table.texts (ref_or refs.source entry.text)) artefact refs.known texts.known)
