-- A record has what would be asked now exactly where its row has.
use Rattle.std.proofs.Common.{◌≡◌, ◌≢◌, ℕ, ◌<◌, List, [], length, map, get_or, None, Some, Option, refl, sym, ap, subst, ◌∙◌, arith}
use Rattle.std.specs.Prelude.{All, AllPairs, slice_get}
use Rattle.std.specs.Option.{option_map, option_map_or}
use Rattle.std.proofs.lemmas.List.{get_or-map, length-map, same_lists}
use Rattle.std.proofs.lemmas.Option.{get_or_from_slice_get, none-some, same_Some, slice_get-get_or, slice_get_within}
use Rattle.base.specs.declared.file.FileName.{FileName}
use Rattle.base.specs.declared.graph.BuiltFile.{BuiltFile}
use Rattle.base.specs.declared.graph.Entry.{Entry}
use Rattle.outside.specs.Records.{Asked, Record as RequestRecord, asked_of, built_of_record, latest as latest_request}
use Rattle.store_codec.specs.RecordTables.{RecordTable, no_product, product_at}
use Rattle.store_table.proofs.Finding.{once_at}
use Rattle.store.specs.declared.handles.RecordHandle.{RecordHandle}
use Rattle.outside.specs.Records.{IsRecorded as IsCurrentLatest, HasLatest, latest_built}
use Rattle.store.specs.LookedUp.{AreRecordHandles, IsRecordHandle, looked_up_product}
use Rattle.store_table.specs.Located.{no_name}
use Rattle.store.proofs.Latest.{latest_named}

abbrev pub no_entry : Entry
no_entry = record { name = no_name; command = []; text = []; deps = [] }

abbrev pub no_kept : RequestRecord
no_kept = record { asked = record { command = []; name = no_name; text = []; below = [] }; artefact = [] }

-- a position with a handle, whose product is what its latest record built
pub record IsBuiltAt (table : RecordTable) (graph : List Entry) (handles : List (Option RecordHandle)) (at : ℕ) : Type 0 where
  pub handle : RecordHandle
  pub found : get_or handles at None ≡ Some handle
  pub low : handle.product < length table.products
  pub is : product_at table.products handle.product ≡ latest_built (λ name. latest_request name table.records) graph at

module _ (table : RecordTable) (once : AllPairs (λ a b. a ≢ b) table.products) (graph : List Entry) (handles : List (Option RecordHandle)) (are : AreRecordHandles table graph handles) where
  abbrev latest_of : FileName → Option RequestRecord
  latest_of name = latest_request name table.records

  built_at : (at : ℕ) → HasLatest (λ name. latest_request name table.records) graph at → IsBuiltAt table graph handles at
  built_at at has =
      let low : at < length graph = slice_get_within graph at has.entry has.is_entry in
      let here : get_or graph at has.entry ≡ has.entry = get_or_from_slice_get graph at has.entry has.entry has.is_entry in
      by (get_or handles at None) refl (subst (λ (e : Entry). IsRecordHandle table e.name (get_or handles at None)) here (are.is at has.entry low))
    where
      by : (o : Option RecordHandle) → get_or handles at None ≡ o → IsRecordHandle table has.entry.name o → IsBuiltAt table graph handles at
      by None e is = absurd (none-some has.kept (sym is ∙ has.is))
      by (Some handle) e is = record {
        handle = handle;
        found = e;
        low = is.product;
        is = is.built has.kept (sym is.latest ∙ has.is)
            ∙ sym (ap (λ (o : Option Entry). option_map_or (λ (f : Entry). option_map_or built_of_record (latest_request f.name table.records) no_product) o no_product) has.is_entry ∙ ap (λ (o : Option RequestRecord). option_map_or built_of_record o no_product) has.is);
      }

  looked_up_is : (at : ℕ) (built : IsBuiltAt table graph handles at) → looked_up_product handles at ≡ Some built.handle.product
  looked_up_is at built = ap (λ (o : Option RecordHandle). option_map (λ s. s.product) o) built.found

  pub looked_up_there : (at : ℕ) → HasLatest (λ name. latest_request name table.records) graph at → looked_up_product handles at ≢ None
  looked_up_there at has e = none-some (built_at at has).handle.product (sym e ∙ looked_up_is at (built_at at has))

  pub looked_up_low : (numbers deps : List ℕ) → All (HasLatest (λ name. latest_request name table.records) graph) deps → map (λ n. Some n) numbers ≡ map (looked_up_product handles) deps → All (λ n. n < length table.products) numbers
  looked_up_low numbers deps built e k d l =
      let size : length numbers ≡ length deps = sym (length-map numbers (λ (n : ℕ). Some n)) ∙ ap length e ∙ length-map deps (looked_up_product handles) in
      let b : k < length deps = omega (arith, l, size) in
      let at = built_at (get_or deps k 0) (built k 0 b) in
      let same : Some (get_or numbers k d) ≡ Some at.handle.product =
      sym (get_or-map (λ (n : ℕ). Some n) numbers k d None l) ∙ ap (λ (os : List (Option ℕ)). get_or os k None) e ∙ get_or-map (looked_up_product handles) deps k 0 None b ∙ looked_up_is (get_or deps k 0) at in
      let is : get_or numbers k d ≡ at.handle.product = same_Some _ _ same in
      omega (arith, is, at.low)

  module _ (numbers deps : List ℕ) (there : All (λ n. n < length table.products) numbers) (built : All (HasLatest (λ name. latest_request name table.records) graph) deps) where
    pub below_to : map (λ n. Some n) numbers ≡ map (looked_up_product handles) deps → map (product_at table.products) numbers ≡ map (latest_built (λ name. latest_request name table.records) graph) deps
    below_to e =
        let size : length numbers ≡ length deps = sym (length-map numbers (λ (n : ℕ). Some n)) ∙ ap length e ∙ length-map deps (looked_up_product handles) in
        same_lists (map (product_at table.products) numbers) (map (latest_built (λ name. latest_request name table.records) graph) deps)
        (length-map numbers (product_at table.products) ∙ size ∙ sym (length-map deps (latest_built (λ name. latest_request name table.records) graph))) (λ k d l.
        let a : k < length numbers = omega (arith, l, length-map numbers (product_at table.products)) in
        let b : k < length deps = omega (arith, a, size) in
        let at = built_at (get_or deps k 0) (built k 0 b) in
        let same : Some (get_or numbers k 0) ≡ Some at.handle.product =
        sym (get_or-map (λ (n : ℕ). Some n) numbers k 0 None a) ∙ ap (λ (os : List (Option ℕ)). get_or os k None) e ∙ get_or-map (looked_up_product handles) deps k 0 None b ∙ looked_up_is (get_or deps k 0) at in
        get_or-map (product_at table.products) numbers k 0 d a ∙ ap (product_at table.products) (same_Some _ _ same) ∙ at.is ∙ sym (get_or-map (latest_built (λ name. latest_request name table.records) graph) deps k 0 d b))

    pub below_from : map (product_at table.products) numbers ≡ map (latest_built (λ name. latest_request name table.records) graph) deps → map (λ n. Some n) numbers ≡ map (looked_up_product handles) deps
    below_from e =
        let size : length numbers ≡ length deps = sym (length-map numbers (product_at table.products)) ∙ ap length e ∙ length-map deps (latest_built (λ name. latest_request name table.records) graph) in
        same_lists (map (λ n. Some n) numbers) (map (looked_up_product handles) deps)
        (length-map numbers (λ (n : ℕ). Some n) ∙ size ∙ sym (length-map deps (looked_up_product handles))) (λ k d l.
        let a : k < length numbers = omega (arith, l, length-map numbers (λ (n : ℕ). Some n)) in
        let b : k < length deps = omega (arith, a, size) in
        let at = built_at (get_or deps k 0) (built k 0 b) in
        let here : product_at table.products (get_or numbers k 0) ≡ product_at table.products at.handle.product =
        sym (get_or-map (product_at table.products) numbers k 0 no_product a) ∙ ap (λ (fs : List BuiltFile). get_or fs k no_product) e ∙ get_or-map (latest_built (λ name. latest_request name table.records) graph) deps k 0 no_product b ∙ sym at.is in
        let same : get_or numbers k 0 ≡ at.handle.product = once_at table.products no_product once (get_or numbers k 0) at.handle.product (there k 0 a) at.low here in
        get_or-map (λ (n : ℕ). Some n) numbers k 0 d a ∙ ap (λ (n : ℕ). Some n) same ∙ sym (looked_up_is (get_or deps k 0) at) ∙ sym (get_or-map (looked_up_product handles) deps k 0 d b))

  looked_up_at : (at : ℕ) (number : ℕ) (handle : Option RecordHandle) → at < length graph → get_or handles at None ≡ handle → Some number ≡ option_map (λ s. s.product) handle → IsRecordHandle table (get_or graph at no_entry).name handle → HasLatest (λ name. latest_request name table.records) graph at
  looked_up_at at number None low e is has = absurd (none-some number (sym is))
  looked_up_at at number (Some handle) low e is has = record {
    entry = get_or graph at no_entry;
    is_entry = slice_get-get_or graph at no_entry low;
    kept = get_or table.records handle.row no_kept;
    is = has.latest ∙ slice_get-get_or table.records handle.row no_kept has.row;
  }

  -- what has the product of a handle has a record
  pub built_from : (numbers deps : List ℕ) → All (λ dep. dep < length graph) deps → map (λ n. Some n) numbers ≡ map (looked_up_product handles) deps → All (HasLatest (λ name. latest_request name table.records) graph) deps
  built_from numbers deps low e k d l =
      let size : length numbers ≡ length deps = sym (length-map numbers (λ (n : ℕ). Some n)) ∙ ap length e ∙ length-map deps (looked_up_product handles) in
      let here : Some (get_or numbers k 0) ≡ looked_up_product handles (get_or deps k d) =
      sym (get_or-map (λ (n : ℕ). Some n) numbers k 0 None (omega (arith, l, size))) ∙ ap (λ (os : List (Option ℕ)). get_or os k None) e ∙ get_or-map (looked_up_product handles) deps k d None l in
      looked_up_at (get_or deps k d) (get_or numbers k 0) (get_or handles (get_or deps k d) None) (low k d l) refl here (are.is (get_or deps k d) no_entry (low k d l))

  asked_by : List (List ℕ) → FileName → List ℕ → List BuiltFile → Asked
  asked_by command name text below = record { command = command; name = name; text = text; below = below }

  kept_by : Asked → List ℕ → RequestRecord
  kept_by asked artefact = record { asked = asked; artefact = artefact }

  -- the record of a handle has what would be asked, part by part
  module _ (at : ℕ) (entry : Entry) (found : slice_get graph at ≡ Some entry) (kept : RequestRecord) (latest : latest_request entry.name table.records ≡ Some kept) (numbers : List ℕ) (there : All (λ n. n < length table.products) numbers) (below_is : kept.asked.below ≡ map (product_at table.products) numbers) (built : All (HasLatest (λ name. latest_request name table.records) graph) entry.deps) where
    pub fits_to : kept.asked.command ≡ entry.command → kept.asked.text ≡ entry.text → map (λ n. Some n) numbers ≡ map (looked_up_product handles) entry.deps → IsCurrentLatest (λ name. latest_request name table.records) graph at
    unfolding asked_by kept_by
    fits_to command text deps =
        let name : kept.asked.name ≡ entry.name = latest_named entry.name table.records kept latest in
        let below : kept.asked.below ≡ map (latest_built (λ name. latest_request name table.records) graph) entry.deps = below_is ∙ below_to numbers entry.deps there built deps in
        record {
          entry = entry;
          is_entry = found;
          built = built;
          artefact = kept.artefact;
          is = latest
              ∙ ap (λ (ws : List (List ℕ)). Some (kept_by (asked_by ws kept.asked.name kept.asked.text kept.asked.below) kept.artefact)) command
              ∙ ap (λ (n : FileName). Some (kept_by (asked_by entry.command n kept.asked.text kept.asked.below) kept.artefact)) name
              ∙ ap (λ (t : List ℕ). Some (kept_by (asked_by entry.command entry.name t kept.asked.below) kept.artefact)) text
              ∙ ap (λ (fs : List BuiltFile). Some (kept_by (asked_by entry.command entry.name entry.text fs) kept.artefact)) below;
        }

    same_kept : (fits : IsCurrentLatest (λ name. latest_request name table.records) graph at) → kept ≡ record { asked = asked_of entry (map (latest_built (λ name. latest_request name table.records) graph) entry.deps); artefact = fits.artefact }
    same_kept fits =
        let same : fits.entry ≡ entry = same_Some fits.entry entry (sym fits.is_entry ∙ found) in
        same_Some _ _ (sym latest ∙ subst (λ (e : Entry). latest_request e.name table.records ≡ Some (record { asked = asked_of e (map (latest_built (λ name. latest_request name table.records) graph) e.deps); artefact = fits.artefact })) same fits.is)

    pub is_command_within_limits : IsCurrentLatest (λ name. latest_request name table.records) graph at → kept.asked.command ≡ entry.command
    is_command_within_limits fits = ap (λ (r : RequestRecord). r.asked.command) (same_kept fits)

    pub fits_text : IsCurrentLatest (λ name. latest_request name table.records) graph at → kept.asked.text ≡ entry.text
    fits_text fits = ap (λ (r : RequestRecord). r.asked.text) (same_kept fits)

    pub fits_deps : IsCurrentLatest (λ name. latest_request name table.records) graph at → map (λ n. Some n) numbers ≡ map (looked_up_product handles) entry.deps
    fits_deps fits = below_from numbers entry.deps there built (sym below_is ∙ ap (λ (r : RequestRecord). r.asked.below) (same_kept fits))
