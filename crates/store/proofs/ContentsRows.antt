-- The records of a contents of nodes by their numbers, and the requests that stand for them.
use Rattle.std.proofs.Common.{◌≡◌, ◌≢◌, ℕ, ◌<◌, ◌≤◌, Bool, true, false, List, [], ◌∷◌, length, map, get_or, Option, Some, None, refl, sym, ap, subst, ◌∙◌, arith}
use Rattle.std.specs.Prelude.{All, AllPairs, is_some, if◌then◌else◌}
use Rattle.std.specs.List.{cons_option, filter_map, list_any}
use Rattle.std.proofs.lemmas.List.{get_or-map, length-map}
use Rattle.std.proofs.lemmas.Simd.{map-map}
use Rattle.std.proofs.lemmas.List.Elements.{All-head, All-tail}
use Rattle.base.specs.declared.file.FileName.{FileName}
use Rattle.base.specs.declared.limits.TheConstants.{ARTEFACT_LIMIT}
use Rattle.base.specs.Graphs.{IsGraph}
use Rattle.outside.specs.Records.{Record, is_of, latest_alone}
use Rattle.base_collections.specs.NameLaws.{names_decide}
use Rattle.store_form_2.specs.declared.kept_view.Record.{Record as ViewRecord}
use Rattle.store_form_2.specs.Nodes.{AreNodes}
use Rattle.store_form_2.specs.Rows.{IsTable}
use Rattle.store_form_2.specs.declared.records.RecordLocation.{RecordLocation}
use Rattle.store_form_2.specs.declared.contents.ContentsLocations.{ContentsLocations}
use Rattle.store_form_2.specs.Locations.{IsContents, record_in, contents_in, texts_in}
use Rattle.store_form_2.specs.ByNumber.{NodeRecord, unfolded_record}
use Rattle.store_form_2.specs.Migrating.{migrated_requests}
use Rattle.store_form_2.specs.NodeRows.{AreOfNodes, AreRecordRows}
use Rattle.store_form_2.proofs.Earlier.{built_before}
use Rattle.store_form_2.proofs.Picking.{AllPairs-head, AllPairs-tail}
use Rattle.store_form_2.proofs.Requests.{names_apart}
use Rattle.store_form_2.proofs.Sizes.{all_fit}
use Rattle.store.specs.Taking.{node_records, record_at_location}
use Rattle.store.proofs.Following.{AreSound}

abbrev no_location : RecordLocation
no_location = record { node = 0; payload = 0; artefact = record { start = 0; count = 0 } }

module _ (payloads : List (List ℕ)) (contents : ContentsLocations) (is : IsContents payloads contents) (nodes : AreNodes (texts_in payloads contents.texts) contents.table.nodes) where
  abbrev locations : List RecordLocation
  locations = contents.records.locations.items

  abbrev texts : List (List ℕ)
  texts = texts_in payloads contents.texts

  -- the nodes of the records have rows in the table
  pub rows_of : (numbers : List ℕ) → IsTable contents.table → numbers ≡ map (λ location. location.node) locations → AreRecordRows contents.table contents.records.names.fingerprints numbers
  rows_of numbers table are =
      let many : length numbers ≡ length locations = ap length are ∙ length-map locations (λ (p : RecordLocation). p.node) in
      let number_at : (k : ℕ) (d : ℕ) → k < length locations → get_or numbers k d ≡ (get_or locations k no_location).node = λ k d l. ap (λ (ns : List ℕ). get_or ns k d) are ∙ get_or-map (λ (p : RecordLocation). p.node) locations k no_location d l in
      record {
        once = table.rows.names_once;
        closed = λ n d l k e m. (let low = (nodes.each n d l).before k e m in omega (arith, low, l));
        there = λ k d l. subst (λ (n : ℕ). n < length contents.table.nodes) (sym (number_at k d (omega (arith, l, many)))) (is.records.kept k no_location (omega (arith, l, many))).node;
        as_many = is.records.as_many ∙ sym many;
        named = λ k l.
            is.records.named k no_location (omega (arith, l, many))
            ∙ ap (λ (n : ℕ). Some (get_or contents.table.nodes n (record { name = record { library = []; path = [] }; command = []; text = 0; deps = [] })).name) (sym (number_at k 0 (omega (arith, l, many))));
      }

  pub of_nodes : (numbers : List ℕ) → numbers ≡ map (λ location. location.node) locations → AreOfNodes numbers (node_records payloads contents)
  of_nodes numbers are = map-map (λ (kept : NodeRecord). kept.node) (record_at_location payloads) locations ∙ sym are

  pub views_are : map (unfolded_record texts contents.table.nodes) (node_records payloads contents) ≡ (contents_in payloads contents).records
  views_are = map-map (unfolded_record texts contents.table.nodes) (record_at_location payloads) locations

  graphs : All (λ kept. IsGraph kept.view) (map (record_in payloads texts contents.table.nodes) locations)
  graphs k d l =
      let m : k < length locations = omega (arith, l, length-map locations (record_in payloads texts contents.table.nodes)) in
      let location : RecordLocation = get_or locations k no_location in
      subst (λ (kept : ViewRecord). IsGraph kept.view) (sym (get_or-map (record_in payloads texts contents.table.nodes) locations k no_location d m))
      (nodes.each location.node (record { name = record { library = []; path = [] }; command = []; text = 0; deps = [] }) (is.records.kept k no_location m).node).unfolds

  small : All (λ kept. length kept.artefact ≤ ARTEFACT_LIMIT) (map (record_in payloads texts contents.table.nodes) locations)
  small k d l =
      let m : k < length locations = omega (arith, l, length-map locations (record_in payloads texts contents.table.nodes)) in
      subst (λ (kept : ViewRecord). length kept.artefact ≤ ARTEFACT_LIMIT) (sym (get_or-map (record_in payloads texts contents.table.nodes) locations k no_location d m)) (is.records.kept k no_location m).small

  -- what the laws of migration say of the requests
  pub sound : AreSound (migrated_requests (contents_in payloads contents).records)
  sound =
      let views = (contents_in payloads contents).records in
      record {
        distinct = names_apart views;
        names = λ i d l. (all_fit views graphs small i d l).name;
        commands = λ i d l. (all_fit views graphs small i d l).command;
        texts = λ i d l. (all_fit views graphs small i d l).text;
        artefacts = λ i d l. (all_fit views graphs small i d l).small;
        few = λ i d l. (all_fit views graphs small i d l).few;
        apart = λ i d l. (all_fit views graphs small i d l).apart;
        others = λ i d l. (all_fit views graphs small i d l).others;
        earlier = built_before views graphs;
      }

-- where each is there, what is picked is all
pub all_picked : {X Y : Type 0} (f : X → Option Y) (xs : List X) → All (λ x. is_some (f x) ≡ true) xs → map f xs ≡ map (λ y. Some y) (filter_map f xs)
all_picked f [] all = refl
all_picked {X = X} {Y = Y} f (x ∷ xs) all = by (f x) (All-head (λ (z : X). is_some (f z) ≡ true) x xs all) (all_picked f xs (All-tail (λ (z : X). is_some (f z) ≡ true) x xs all))
  where
    by : (here : Option Y) → is_some here ≡ true → map f xs ≡ map (λ y. Some y) (filter_map f xs) → here ∷ map f xs ≡ map (λ y. Some y) (cons_option here (filter_map f xs))
    by (Some y) there rest = ap (λ (os : List (Option Y)). Some y ∷ os) rest
    by None there rest = absurd (let nothing : ⊥ = cc in nothing)

none_of_name : (name : FileName) (records : List Record) → All (λ kept. kept.asked.name ≢ name) records → list_any (is_of name) records ≡ false
none_of_name name [] none = refl
none_of_name name (first ∷ rest) none = by (is_of name first) refl (none_of_name name rest (All-tail (λ (kept : Record). kept.asked.name ≢ name) first rest none))
  where
    by : (b : Bool) → is_of name first ≡ b → list_any (is_of name) rest ≡ false → list_any (is_of name) (first ∷ rest) ≡ false
    by true e later = absurd (none 0 first (omega arith) ((names_decide first.asked.name name).0 e))
    by false e later = rw (e, later) refl

-- the latest of records of different names are all
pub latest_all : (records : List Record) → AllPairs (λ a b. a.asked.name ≢ b.asked.name) records → latest_alone records ≡ records
unfolding latest_alone
latest_all [] apart = refl
latest_all (first ∷ rest) apart =
    let R = λ (a b : Record). a.asked.name ≢ b.asked.name in
    ap (λ (b : Bool). if b then latest_alone rest else first ∷ latest_alone rest) (none_of_name first.asked.name rest (λ k d l e. AllPairs-head R first rest apart k d l (sym e)))
    ∙ ap (λ (rs : List Record). first ∷ rs) (latest_all rest (AllPairs-tail R first rest apart))
