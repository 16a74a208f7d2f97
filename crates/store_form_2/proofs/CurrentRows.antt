-- The requests of the current rows, in order, are the requests that stand for the latest records.
use Rattle.std.proofs.Common.{◌≡◌, ℕ, ◌+◌, ◌<◌, ◌≤◌, Bool, true, false, not, ◌&&◌, List, [], ◌∷◌, ◌++◌, length, map, get_or, drop, Option, Some, None, refl, sym, ap, ◌∙◌, arith}
use Rattle.std.specs.Prelude.{All, is_some, if◌then◌else◌}
use Rattle.std.specs.List.{filter_map, cons_option, list_all}
use Rattle.std.specs.Option.{option_and_then, option_map}
use Rattle.std.proofs.lemmas.List.{append_assoc, append-nil, drop_all, drop_more}
use Rattle.std.proofs.lemmas.Option.{none-some}
use Rattle.std.proofs.lemmas.List.Elements.{All-drop, All-nil, All-push, filter_map-append}
use Rattle.std.proofs.lemmas.Bool.{and_parts}
use Rattle.outside.specs.Records.{Record}
use Rattle.store_form_2.specs.declared.kept_view.Record.{Record as ViewRecord}
use Rattle.store_form_2.specs.Nodes.{AreNodes, Node, node_file}
use Rattle.store_form_2.specs.Rows.{NodesByNumber}
use Rattle.store_form_2.specs.ViewRecords.{is_followed, latest_views}
use Rattle.store_form_2.specs.Migrating.{each_of, request_for, request_over}
use Rattle.store_form_2.specs.ByNumber.{NodeRecord, built_node, node_request, numbered_node, unfolded_record}
use Rattle.store_form_2.specs.NodeRows.{AreOfNodes, AreRecordRows, has_later, no_record, row_request, with_row}
use Rattle.store_form_2.proofs.RecordNodes.{count_of, node_at, nodes_below}
use Rattle.store_form_2.proofs.NodeRequests.{followed_alike, request_alike}

-- all values are there where each is
each_is_some : {X Y : Type 0} (f : X → Option Y) (xs : List X) → is_some (each_of (map f xs)) ≡ list_all (λ x. is_some (f x)) xs
unfolding each_of
each_is_some f [] = refl
each_is_some {X} {Y} f (x ∷ xs) = first (f x) ∙ ap (λ (b : Bool). is_some (f x) && b) (each_is_some f xs) where
  more : (y : Y) (rest : Option (List Y)) → is_some (option_map (λ ys. y ∷ ys) rest) ≡ is_some rest
  more y None = refl
  more y (Some ys) = refl

  first : (o : Option Y) → is_some (option_and_then (λ y. option_map (λ ys. y ∷ ys) (each_of (map f xs))) o) ≡ (is_some o && is_some (each_of (map f xs)))
  first None = refl
  first (Some y) = more y (each_of (map f xs))

map_is_some : {X Y : Type 0} (g : X → Y) (o : Option X) → is_some (option_map g o) ≡ is_some o
map_is_some g None = refl
map_is_some g (Some x) = refl

none_of : {X : Type 0} (o : Option X) → is_some o ≡ false → o ≡ None
none_of None e = refl
none_of (Some x) e = absurd (let nothing : ⊥ = cc in nothing)

some_of : {X : Type 0} (o : Option X) → is_some o ≡ true → (x : X) × (o ≡ Some x)
some_of None e = absurd (let nothing : ⊥ = cc in nothing)
some_of (Some x) e = (x, refl)

-- the requests of the records from a location on
abbrev pub from_location : List (List ℕ) → List Node → List NodeRecord → ℕ → List Record
from_location texts nodes records k = filter_map (request_for (map (unfolded_record texts nodes) records)) (latest_views (map (unfolded_record texts nodes) (drop k records)))

module _ (texts : List (List ℕ)) (nodes : List Node) (records : List NodeRecord) where
  abbrev stands_at : ℕ → Bool
  stands_at row = list_all (λ dep. is_some (built_node nodes records dep)) (numbered_node nodes (get_or records row no_record).node).deps

  request_is_some : (row : ℕ) → is_some (row_request texts nodes records row) ≡ stands_at row
  unfolding node_request
  request_is_some row =
      let kept : NodeRecord = get_or records row no_record in
      let node : Node = numbered_node nodes kept.node in
      map_is_some (request_over (node_file texts node) kept.artefact) (each_of (map (built_node nodes records) node.deps)) ∙ each_is_some (built_node nodes records) node.deps

module _ (texts : List (List ℕ)) (nodes : List Node) (are : AreNodes texts nodes) (records : List NodeRecord) (there : All (λ kept. kept.node < length nodes) records) where
  abbrev all_views : List ViewRecord
  all_views = map (unfolded_record texts nodes) records

  abbrev request_at : ℕ → Option Record
  request_at row = row_request texts nodes records row

  abbrev from_here : ℕ → List Record
  from_here k = from_location texts nodes records k

  choose : (followed : Bool) (first : ViewRecord) (rest : List ViewRecord)
      → filter_map (request_for all_views) (if followed then rest else first ∷ rest) ≡ (if followed then filter_map (request_for all_views) rest else cons_option (request_for all_views first) (filter_map (request_for all_views) rest))
  choose true first rest = refl
  choose false first rest = refl

  location_is : (k : ℕ) → k < length records
      → from_here k ≡ (if has_later nodes records k (get_or records k no_record).node then from_here (k + 1) else cons_option (request_at k) (from_here (k + 1)))
  unfolding latest_views
  location_is k l =
      let kept : NodeRecord = get_or records k no_record in
      let rest : List NodeRecord = drop (k + 1) records in
      let low : kept.node < length nodes = there k no_record l in
      ap (λ (xs : List NodeRecord). filter_map (request_for all_views) (latest_views (map (unfolded_record texts nodes) xs))) (drop_more records k no_record l)
      ∙ choose (is_followed (map (unfolded_record texts nodes) rest) (unfolded_record texts nodes kept)) (unfolded_record texts nodes kept) (latest_views (map (unfolded_record texts nodes) rest))
      ∙ ap (λ (b : Bool). if b then from_here (k + 1) else cons_option (request_for all_views (unfolded_record texts nodes kept)) (from_here (k + 1)))
      (followed_alike texts nodes are kept low rest (All-drop (λ (other : NodeRecord). other.node < length nodes) (k + 1) records there))
      ∙ ap (λ (o : Option Record). if has_later nodes records k kept.node then from_here (k + 1) else cons_option o (from_here (k + 1))) (request_alike texts nodes are records there kept low)

  shift : (xs rest : List Record) (m : Record) (here : Option Record) → here ≡ Some m → (xs ++ cons_option here []) ++ rest ≡ xs ++ cons_option here rest
  shift xs rest m (Some one) is = append_assoc xs (one ∷ []) rest
  shift xs rest m None is = absurd (none-some m is)

  one_more : (rows : List ℕ) (k : ℕ) (rest : List Record) (later stands : Bool) → is_some (request_at k) ≡ stands
      → filter_map request_at (with_row rows k (not later && stands)) ++ rest ≡ filter_map request_at rows ++ (if later then rest else cons_option (request_at k) rest)
  one_more rows k rest true stands is = refl
  one_more rows k rest false true is =
      let found = some_of (request_at k) is in
      ap (λ (xs : List Record). xs ++ rest) (filter_map-append request_at rows (k ∷ [])) ∙ shift (filter_map request_at rows) rest found.0 (request_at k) found.1
  one_more rows k rest false false is = ap (λ (o : Option Record). filter_map request_at rows ++ cons_option o rest) (sym (none_of (request_at k) is))

  -- one more row, where it is current
  pub one_row : (rows : List ℕ) (k : ℕ) → k < length records
      → filter_map request_at (with_row rows k (not (has_later nodes records k (get_or records k no_record).node) && stands_at texts nodes records k)) ++ from_here (k + 1) ≡ filter_map request_at rows ++ from_here k
  one_row rows k l =
      one_more rows k (from_here (k + 1)) (has_later nodes records k (get_or records k no_record).node) (stands_at texts nodes records k) (request_is_some texts nodes records k)
      ∙ sym (ap (λ (r : List Record). filter_map request_at rows ++ r) (location_is k l))

  -- past the last record, no request is left
  pub from_end : (n : ℕ) → length records ≤ n → from_here n ≡ []
  unfolding latest_views
  from_end n le = ap (λ (xs : List NodeRecord). filter_map (request_for all_views) (latest_views (map (unfolded_record texts nodes) xs))) (drop_all n records le)

-- whether a record is current, by the number of its node
abbrev pub is_current_at : List Node → List ℕ → List NodeRecord → ℕ → Bool
is_current_at nodes numbers records row =
    not (has_later nodes records row (get_or numbers row 0)) && list_all (λ dep. is_some (built_node nodes records dep)) (numbered_node nodes (get_or numbers row 0)).deps

-- The rows that are current before a location.
pub record AreCurrentTo (nodes : List Node) (numbers : List ℕ) (location : ℕ) (rows : List ℕ) : Type 0 where
  pub each : All (λ row. row < length numbers) rows
  pub there : (texts : List (List ℕ)) (records : List NodeRecord) → AreOfNodes numbers records → All (λ row. is_some (row_request texts nodes records row) ≡ true) rows
  pub is : (texts : List (List ℕ)) (records : List NodeRecord) → AreOfNodes numbers records → AreNodes texts nodes → filter_map (row_request texts nodes records) rows ++ from_location texts nodes records location ≡ from_location texts nodes records 0

pub none_yet : (nodes : List Node) (numbers : List ℕ) → AreCurrentTo nodes numbers 0 []
none_yet nodes numbers = record {
  each = All-nil (λ row. row < length numbers);
  there = λ texts records of. All-nil (λ row. is_some (row_request texts nodes records row) ≡ true);
  is = λ texts records of are. refl;
}

All-with_row : (P : ℕ → Type 0) (rows : List ℕ) (row : ℕ) (current : Bool) → All P rows → (current ≡ true → P row) → All P (with_row rows row current)
All-with_row P rows row true all one = All-push P rows row all (one refl)
All-with_row P rows row false all one = all

module _ (table : NodesByNumber) (fingerprints numbers : List ℕ) (are : AreRecordRows table fingerprints numbers) where
  abbrev is_at : List NodeRecord → ℕ → Bool
  is_at = is_current_at table.nodes numbers

  abbrev AreTo : ℕ → List ℕ → Type 0
  AreTo = AreCurrentTo table.nodes numbers

  module _ (records : List NodeRecord) (of : AreOfNodes numbers records) where
    in_records : (row : ℕ) → row < length numbers → row < length records
    in_records row l = omega (arith, l, count_of numbers records of)

    all_there : All (λ kept. kept.node < length table.nodes) records
    all_there = nodes_below numbers records of (length table.nodes) are.there

    stands : (texts : List (List ℕ)) (row : ℕ) → row < length numbers → is_at records row ≡ true → is_some (row_request texts table.nodes records row) ≡ true
    stands texts row l current =
        request_is_some texts table.nodes records row
        ∙ ap (λ (n : ℕ). list_all (λ dep. is_some (built_node table.nodes records dep)) (numbered_node table.nodes n).deps) (node_at numbers records of row l)
        ∙ (and_parts (not (has_later table.nodes records row (get_or numbers row 0))) (list_all (λ dep. is_some (built_node table.nodes records dep)) (numbered_node table.nodes (get_or numbers row 0)).deps) current).1

    next_is : (texts : List (List ℕ)) → AreNodes texts table.nodes → (rows : List ℕ) (row : ℕ) → row < length numbers
        → filter_map (row_request texts table.nodes records) (with_row rows row (is_at records row)) ++ from_location texts table.nodes records (row + 1) ≡ filter_map (row_request texts table.nodes records) rows ++ from_location texts table.nodes records row
    next_is texts nodes rows row l =
        ap (λ (n : ℕ). filter_map (row_request texts table.nodes records) (with_row rows row (not (has_later table.nodes records row n) && list_all (λ dep. is_some (built_node table.nodes records dep)) (numbered_node table.nodes n).deps)) ++ from_location texts table.nodes records (row + 1)) (sym (node_at numbers records of row l))
        ∙ one_row texts table.nodes nodes records all_there rows row (in_records row l)

  -- one record more
  next_row : (rows : List ℕ) (row : ℕ) (current : Bool) → row < length numbers → ((records : List NodeRecord) → AreOfNodes numbers records → current ≡ is_at records row)
      → AreTo row rows → AreTo (row + 1) (with_row rows row current)
  next_row rows row current l told before = record {
    each = All-with_row (λ n. n < length numbers) rows row current before.each (λ is. l);
    there = λ texts records of.
        All-with_row (λ n. is_some (row_request texts table.nodes records n) ≡ true) rows row current (before.there texts records of) (λ is. stands records of texts row l (sym (told records of) ∙ is));
    is = λ texts records of nodes.
        ap (λ (b : Bool). filter_map (row_request texts table.nodes records) (with_row rows row b) ++ from_location texts table.nodes records (row + 1)) (told records of)
        ∙ next_is records of texts nodes rows row l ∙ before.is texts records of nodes;
  }

  -- that is current
  pub row_more : (rows : List ℕ) (row : ℕ) → row < length numbers → ((records : List NodeRecord) → AreOfNodes numbers records → true ≡ is_at records row) → AreTo row rows → AreTo (row + 1) (rows ++ row ∷ [])
  row_more rows row l told before = next_row rows row true l told before

  -- that isn't
  pub row_passed : (rows : List ℕ) (row : ℕ) → row < length numbers → ((records : List NodeRecord) → AreOfNodes numbers records → false ≡ is_at records row) → AreTo row rows → AreTo (row + 1) rows
  row_passed rows row l told before = next_row rows row false l told before

  -- past the last record all are there
  pub all_current : (rows : List ℕ) (location : ℕ) → length numbers ≤ location → AreTo location rows → (texts : List (List ℕ)) (records : List NodeRecord) → AreOfNodes numbers records → AreNodes texts table.nodes
      → filter_map (row_request texts table.nodes records) rows ≡ filter_map (request_for (map (unfolded_record texts table.nodes) records)) (latest_views (map (unfolded_record texts table.nodes) records))
  all_current rows location le before texts records of nodes =
      let picked : List Record = filter_map (row_request texts table.nodes records) rows in
      sym (append-nil picked)
      ∙ sym (ap (λ (rest : List Record). picked ++ rest) (from_end texts table.nodes nodes records (all_there records of) location (omega (arith, le, count_of numbers records of))))
      ∙ before.is texts records of nodes
