-- The latest record of a name among records of nodes, by the last record that has the number of the name.
use Rattle.std.proofs.Common.{◌≡◌, ◌≢◌, ℕ, zero, suc, ◌+◌, ◌-◌, ◌<◌, ◌≤◌, Bool, true, false, not, cond, eqb, List, [], ◌∷◌, length, get_or, drop, Option, Some, None, refl, sym, ap, ◌∙◌, arith, inl, inr}
use Rattle.std.specs.Prelude.{slice_get, is_some}
use Rattle.std.specs.Option.{option_and_then, option_or}
use Rattle.std.proofs.lemmas.Bool.{cases_lt, cases_order, false_from_ne_true, eq-eqb, ne_eqb}
use Rattle.std.proofs.lemmas.List.{get_or-drop, get_or_default, length-drop}
use Rattle.std.proofs.lemmas.List.Folds.{list_any_at, list_any_none}
use Rattle.std.proofs.lemmas.Option.{same_Some, slice_get_within, get_or_from_slice_get}
use Rattle.base.specs.declared.file.FileName.{FileName}
use Rattle.base.specs.Names.{is_same_name}
use Rattle.base_collections.specs.Indexes.{IsLastWith}
use Rattle.store_form_2.specs.Nodes.{Node}
use Rattle.store_form_2.specs.Rows.{NodesByNumber}
use Rattle.store_form_2.specs.ByNumber.{NodeRecord, built_node, built_where_node, latest_node_record, named_by}
use Rattle.store_form_2.specs.NodeRows.{AreOfNodes, AreRecordRows, has_later, no_record}
use Rattle.store_form_2.proofs.RecordNodes.{count_of, node_at}
use Rattle.store_form_2.proofs.SameViews.{same_names}

abbrev is_named : List Node → FileName → NodeRecord → Bool
is_named nodes name kept = is_same_name (named_by nodes kept.node) name

-- none has the name
latest_nowhere : (nodes : List Node) (name : FileName) (records : List NodeRecord) → ((k : ℕ) → k < length records → is_named nodes name (get_or records k no_record) ≡ false) → latest_node_record nodes name records ≡ None
unfolding latest_node_record
latest_nowhere nodes name [] none = refl
latest_nowhere nodes name (first ∷ rest) none =
    ap (λ (o : Option NodeRecord). option_or o (cond (is_named nodes name first) (Some first) None)) (latest_nowhere nodes name rest (λ k l. none (suc k) (omega arith)))
    ∙ ap (λ (b : Bool). option_or None (cond b (Some first) None)) (none 0 (omega arith))

-- one has it, and none after it
latest_here : (nodes : List Node) (name : FileName) (records : List NodeRecord) (k : ℕ) → k < length records → is_named nodes name (get_or records k no_record) ≡ true
    → ((j : ℕ) → k < j → j < length records → is_named nodes name (get_or records j no_record) ≡ false) → latest_node_record nodes name records ≡ Some (get_or records k no_record)
unfolding latest_node_record
latest_here nodes name [] k l is after = absurd (omega arith)
latest_here nodes name (first ∷ rest) zero l is after =
    ap (λ (o : Option NodeRecord). option_or o (cond (is_named nodes name first) (Some first) None)) (latest_nowhere nodes name rest (λ j m. after (suc j) (omega arith) (omega arith)))
    ∙ ap (λ (b : Bool). option_or None (cond b (Some first) None)) is
latest_here nodes name (first ∷ rest) (suc k) l is after =
    ap (λ (o : Option NodeRecord). option_or o (cond (is_named nodes name first) (Some first) None)) (latest_here nodes name rest k (omega arith) is (λ j a b. after (suc j) (omega arith) (omega arith)))

some_if : {X : Type 0} (b : Bool) (x : X) → b ≡ is_some (cond b (Some x) None)
some_if true x = refl
some_if false x = refl

module _ (table : NodesByNumber) (fingerprints numbers : List ℕ) (are : AreRecordRows table fingerprints numbers) (records : List NodeRecord) (of : AreOfNodes numbers records) where
  size : length records ≡ length numbers
  size = count_of numbers records of

  number_at : (k : ℕ) → k < length records → (get_or records k no_record).node ≡ get_or numbers k 0
  number_at k l = node_at numbers records of k (omega (arith, l, size))

  name_at : (k : ℕ) → k < length records → slice_get table.names (get_or fingerprints k 0) ≡ Some (named_by table.nodes (get_or records k no_record).node)
  name_at k l = are.named k (omega (arith, size)) ∙ ap (λ (n : ℕ). Some (named_by table.nodes n)) (sym (number_at k l))

  module _ (name : FileName) (fingerprint : ℕ) (of_fingerprint : slice_get table.names fingerprint ≡ Some name) where
    same_fingerprint : (k : ℕ) → k < length records → get_or fingerprints k 0 ≡ fingerprint → is_named table.nodes name (get_or records k no_record) ≡ true
    same_fingerprint k l same =
        let name_k : FileName = named_by table.nodes (get_or records k no_record).node in
        let is : Some name_k ≡ Some name = sym (name_at k l) ∙ ap (slice_get table.names) same ∙ of_fingerprint in
        (same_names name_k name).1 (same_Some name_k name is)

    fingerprint_of_name : (k : ℕ) → k < length records → is_named table.nodes name (get_or records k no_record) ≡ true → get_or fingerprints k 0 ≡ fingerprint
    fingerprint_of_name k l named =
        let name_k : FileName = named_by table.nodes (get_or records k no_record).node in
        let m : ℕ = get_or fingerprints k 0 in
        let same : name_k ≡ name = (same_names name_k name).0 named in
        let mine : get_or table.names m name ≡ name = get_or_from_slice_get table.names m name_k name (name_at k l) ∙ same in
        let other : get_or table.names fingerprint name ≡ name = get_or_from_slice_get table.names fingerprint name name of_fingerprint in
        elim (cases_order m fingerprint) [
          | inl equal ↦ equal
          | inr (inl low) ↦ absurd (are.once m fingerprint name low (slice_get_within table.names fingerprint name of_fingerprint) (mine ∙ sym other))
          | inr (inr high) ↦ absurd (are.once fingerprint m name high (slice_get_within table.names m name_k (name_at k l)) (other ∙ sym mine))
        ]

    other_fingerprint : (k : ℕ) → k < length records → get_or fingerprints k 0 ≢ fingerprint → is_named table.nodes name (get_or records k no_record) ≡ false
    other_fingerprint k l differs = false_from_ne_true (is_named table.nodes name (get_or records k no_record)) (λ named. differs (fingerprint_of_name k l named))

    latest_some : (last : ℕ) → IsLastWith fingerprints fingerprint (length fingerprints) (Some last) → latest_node_record table.nodes name records ≡ Some (get_or records last no_record)
    latest_some last is =
        latest_here table.nodes name records last (omega (arith, is.0, size, are.as_many)) (same_fingerprint last (omega (arith, is.0, size, are.as_many)) is.1)
        (λ j a b. other_fingerprint j b (is.2 j a (omega (arith, b, size, are.as_many))))

    latest_none : IsLastWith fingerprints fingerprint (length fingerprints) None → latest_node_record table.nodes name records ≡ None
    latest_none is = latest_nowhere table.nodes name records (λ k l. other_fingerprint k l (is k (omega (arith, l, size, are.as_many))))

  -- a node is built exactly where the last record of its name is of it
  module _ (node fingerprint : ℕ) (of_fingerprint : slice_get table.names fingerprint ≡ Some (named_by table.nodes node)) where
    pub built_some : (last : ℕ) → IsLastWith fingerprints fingerprint (length fingerprints) (Some last) → eqb (get_or numbers last 0) node ≡ is_some (built_node table.nodes records node)
    unfolding built_node
    built_some last is =
        let kept : NodeRecord = get_or records last no_record in
        let latest : latest_node_record table.nodes (named_by table.nodes node) records ≡ Some kept = latest_some (named_by table.nodes node) fingerprint of_fingerprint last is in
        ap (λ (n : ℕ). eqb n node) (sym (number_at last (omega (arith, is.0, size, are.as_many))))
        ∙ some_if (eqb kept.node node) (record { name = named_by table.nodes node; artefact = kept.artefact })
        ∙ sym (ap (λ (o : Option NodeRecord). is_some (option_and_then (built_where_node table.nodes node) o)) latest)

    pub built_none : IsLastWith fingerprints fingerprint (length fingerprints) None → false ≡ is_some (built_node table.nodes records node)
    unfolding built_node
    built_none is = sym (ap (λ (o : Option NodeRecord). is_some (option_and_then (built_where_node table.nodes node) o)) (latest_none (named_by table.nodes node) fingerprint of_fingerprint is))

  -- a record is the latest of its name exactly where the last one is it
  module _ (number : ℕ) (low : number < length numbers) (fingerprint : ℕ) (of_fingerprint : slice_get table.names fingerprint ≡ Some (named_by table.nodes (get_or numbers number 0))) where
    abbrev name : FileName
    name = named_by table.nodes (get_or numbers number 0)

    in_records : number < length records
    in_records = omega (arith, low, size)

    own_named : is_named table.nodes name (get_or records number no_record) ≡ true
    own_named = (same_names (named_by table.nodes (get_or records number no_record).node) name).1 (ap (named_by table.nodes) (number_at number in_records))

    own_fingerprint : get_or fingerprints number 0 ≡ fingerprint
    own_fingerprint = fingerprint_of_name name fingerprint of_fingerprint number in_records own_named

    later_at : (k : ℕ) (d : NodeRecord) → number + 1 + k < length records → get_or (drop (number + 1) records) k d ≡ get_or records (number + 1 + k) no_record
    later_at k d l = get_or-drop (number + 1) records k d ∙ get_or_default records (number + 1 + k) d no_record l

    no_later : ((k : ℕ) → number < k → k < length records → get_or fingerprints k 0 ≢ fingerprint) → has_later table.nodes records number (get_or numbers number 0) ≡ false
    no_later others = list_any_none (is_named table.nodes name) (drop (number + 1) records) (λ k d l.
        let within : number + 1 + k < length records = omega (arith, l, length-drop (number + 1) records) in
        ap (is_named table.nodes name) (later_at k d within) ∙ other_fingerprint name fingerprint of_fingerprint (number + 1 + k) within (others (number + 1 + k) (omega arith) within))

    a_later : (last : ℕ) → number < last → last < length records → get_or fingerprints last 0 ≡ fingerprint → has_later table.nodes records number (get_or numbers number 0) ≡ true
    a_later last after within same =
        let k : ℕ = last - (number + 1) in
        let is : number + 1 + k ≡ last = omega arith in
        let there : k < length (drop (number + 1) records) = omega (arith, is, within, length-drop (number + 1) records) in
        list_any_at (is_named table.nodes name) (drop (number + 1) records) k no_record there
        (ap (is_named table.nodes name) (later_at k no_record (omega (arith, is, within)) ∙ ap (λ (j : ℕ). get_or records j no_record) is) ∙ same_fingerprint name fingerprint of_fingerprint last within same)

    pub latest_is : (last : ℕ) → IsLastWith fingerprints fingerprint (length fingerprints) (Some last) → eqb last number ≡ not (has_later table.nodes records number (get_or numbers number 0))
    latest_is last is =
        let within : last < length records = omega (arith, is.0, size, are.as_many) in
        elim (cases_lt number last) [
          | inl after ↦ ne_eqb last number (λ e. omega arith) ∙ sym (ap not (a_later last after within is.1))
          | inr before ↦
              let not_after : number ≤ last = elim (cases_lt last number) [
                | inl less ↦ absurd (is.2 number less (omega (arith, low, are.as_many)) own_fingerprint)
                | inr le ↦ omega arith
              ] in
              let same : last ≡ number = omega arith in
              eq-eqb last number same ∙ sym (ap not (no_later (λ k a b. is.2 k (omega (arith, same)) (omega (arith, b, size, are.as_many)))))
        ]

    pub latest_is_none : IsLastWith fingerprints fingerprint (length fingerprints) None → false ≡ not (has_later table.nodes records number (get_or numbers number 0))
    latest_is_none is = absurd (is number (omega (arith, low, are.as_many)) own_fingerprint)
