-- The request for a record of the view of a node is the one that is made by numbers.
use Rattle.std.proofs.Common.{◌≡◌, ℕ, ◌<◌, Bool, ◌||◌, true, false, cond, eqb, List, [], ◌∷◌, length, map, get_or, Option, Some, None, refl, sym, ap, subst, ◌∙◌, arith}
use Rattle.std.specs.Prelude.{All, Contains, slice_get}
use Rattle.std.specs.List.{list_any}
use Rattle.std.specs.Option.{option_and_then, option_map, option_map_or, option_or}
use Rattle.std.proofs.lemmas.Bool.{eq-eqb, eqb-true}
use Rattle.std.proofs.lemmas.List.{get_or_default}
use Rattle.std.proofs.lemmas.List.Elements.{All-head, All-tail, Contains-append_left}
use Rattle.std.proofs.lemmas.Option.{none-some, same_Some, slice_get-get_or}
use Rattle.base.specs.declared.file.FileName.{FileName}
use Rattle.base.specs.declared.graph.BuiltFile.{BuiltFile}
use Rattle.base.specs.declared.graph.Entry.{Entry}
use Rattle.base.specs.Names.{is_same_name}
use Rattle.base.specs.View.{rank_in, renumbered, viewed, view}
use Rattle.project_views.proofs.Parts.{map_map, map_same, no_entry}
use Rattle.project_views.proofs.ViewLaws.{viewed_of}
use Rattle.store_form_2.specs.declared.kept_view.Record.{Record as ViewRecord}
use Rattle.store_form_2.specs.Nodes.{AreNodes, Node, node_file, node_files, unfolded}
use Rattle.store_form_2.proofs.Closed.{IsClosed, Unfolds, file_of_part, get_or-rank, length-closed, rank_of, view_within}
use Rattle.store_form_2.proofs.Growing.{file_at, files_length, no_node}
use Rattle.store_form_2.proofs.Once.{nodes_unfold, one_number}
use Rattle.store_form_2.specs.ViewRecords.{ends_in, is_followed, is_same_view, latest_view}
use Rattle.store_form_2.specs.Migrating.{built_in, built_where, each_of, request_for, request_over}
use Rattle.store_form_2.specs.ByNumber.{NodeRecord, built_node, built_where_node, latest_node_record, named_by, node_request, numbered_node, unfolded_record, unnamed_node}
use Rattle.store_form_2.proofs.SameViews.{same_views}
use Rattle.store_form_2.proofs.ViewParts.{last_of_view}

pub same_answer : (a b : Bool) → (a ≡ true → b ≡ true) → (b ≡ true → a ≡ true) → a ≡ b
same_answer true b on back = sym (on refl)
same_answer false true on back = back refl
same_answer false false on back = refl

module _ (texts : List (List ℕ)) (nodes : List Node) (are : AreNodes texts nodes) where
  abbrev files : List Entry
  files = node_files texts nodes

  abbrev entry_of : ℕ → Entry
  entry_of number = node_file texts (numbered_node nodes number)

  entry_is : (number : ℕ) → number < length nodes → get_or files number no_entry ≡ entry_of number
  entry_is number l = file_at texts nodes number l ∙ ap (node_file texts) (get_or_default nodes number no_node unnamed_node l)

  found_at : (number : ℕ) → number < length nodes → slice_get files number ≡ Some (entry_of number)
  found_at number l = slice_get-get_or files number no_entry (omega (arith, files_length texts nodes, l)) ∙ ap (λ (e : Entry). Some e) (entry_is number l)

  unfolds : Unfolds files (length nodes)
  unfolds = nodes_unfold texts nodes are

  -- a record of a node is of the node's name
  ends_alike : (name : FileName) (kept : NodeRecord) → kept.node < length nodes → ends_in name (unfolded_record texts nodes kept) ≡ is_same_name (named_by nodes kept.node) name
  ends_alike name kept l = ap (λ (o : Option Entry). option_map_or (λ e. is_same_name e.name name) o false) (last_of_view files kept.node (entry_of kept.node) (found_at kept.node l))

  abbrev IsThereIn : NodeRecord → Type 0
  IsThereIn kept = kept.node < length nodes

  any_alike : (name : FileName) (later : List NodeRecord) → All IsThereIn later
      → list_any (ends_in name) (map (unfolded_record texts nodes) later) ≡ list_any (λ other. is_same_name (named_by nodes other.node) name) later
  any_alike name [] there = refl
  any_alike name (first ∷ rest) there =
      ap (λ (b : Bool). b || list_any (ends_in name) (map (unfolded_record texts nodes) rest)) (ends_alike name first (All-head IsThereIn first rest there))
      ∙ ap (λ (b : Bool). is_same_name (named_by nodes first.node) name || b) (any_alike name rest (All-tail IsThereIn first rest there))

  -- a record is followed where a later one is of a node of the same name
  pub followed_alike : (kept : NodeRecord) → kept.node < length nodes → (later : List NodeRecord) → All IsThereIn later
      → is_followed (map (unfolded_record texts nodes) later) (unfolded_record texts nodes kept) ≡ list_any (λ other. is_same_name (named_by nodes other.node) (named_by nodes kept.node)) later
  followed_alike kept l later there =
      ap (λ (o : Option Entry). option_map_or (λ e. list_any (ends_in e.name) (map (unfolded_record texts nodes) later)) o false) (last_of_view files kept.node (entry_of kept.node) (found_at kept.node l))
      ∙ any_alike (named_by nodes kept.node) later there

  -- the latest record of a name is the same
  latest_alike : (name : FileName) (records : List NodeRecord) → All IsThereIn records
      → latest_view name (map (unfolded_record texts nodes) records) ≡ option_map (unfolded_record texts nodes) (latest_node_record nodes name records)
  unfolding latest_view latest_node_record
  latest_alike name [] there = refl
  latest_alike name (first ∷ rest) there =
      ap (λ (o : Option ViewRecord). option_or o (cond (ends_in name (unfolded_record texts nodes first)) (Some (unfolded_record texts nodes first)) None)) (latest_alike name rest (All-tail IsThereIn first rest there))
      ∙ ap (λ (b : Bool). option_or (option_map (unfolded_record texts nodes) (latest_node_record nodes name rest)) (cond b (Some (unfolded_record texts nodes first)) None)) (ends_alike name first (All-head IsThereIn first rest there))
      ∙ both (latest_node_record nodes name rest) (is_same_name (named_by nodes first.node) name) where
        both : (o : Option NodeRecord) (b : Bool) → option_or (option_map (unfolded_record texts nodes) o) (cond b (Some (unfolded_record texts nodes first)) None) ≡ option_map (unfolded_record texts nodes) (option_or o (cond b (Some first) None))
        both (Some kept) b = refl
        both None true = refl
        both None false = refl

  latest_there : (name : FileName) (records : List NodeRecord) (kept : NodeRecord) → All IsThereIn records → latest_node_record nodes name records ≡ Some kept → kept.node < length nodes
  unfolding latest_node_record
  latest_there name [] kept there h = absurd (none-some kept h)
  latest_there name (first ∷ rest) kept there h = from (latest_node_record nodes name rest) (is_same_name (named_by nodes first.node) name) (All-head IsThereIn first rest there) (λ k g. latest_there name rest k (All-tail IsThereIn first rest there) g) h where
    from : (later : Option NodeRecord) (of : Bool) → first.node < length nodes → ((k : NodeRecord) → later ≡ Some k → k.node < length nodes) → option_or later (cond of (Some first) None) ≡ Some kept → kept.node < length nodes
    from (Some other) of one more h = more kept h
    from None true one more h = subst IsThereIn (same_Some first kept h) one
    from None false one more h = absurd (none-some kept h)

  -- two nodes have one view exactly where they have one number
  same_number : (m n : ℕ) → m < length nodes → n < length nodes → is_same_view (unfolded texts nodes m) (unfolded texts nodes n) ≡ eqb m n
  same_number m n l k =
      same_answer (is_same_view (unfolded texts nodes m) (unfolded texts nodes n)) (eqb m n)
      (λ t. eq-eqb m n (one_number texts nodes m n are l k ((same_views (unfolded texts nodes m) (unfolded texts nodes n)).0 t)))
      (λ t. (same_views (unfolded texts nodes m) (unfolded texts nodes n)).1 (ap (unfolded texts nodes) (eqb-true m n t)))

  module _ (records : List NodeRecord) (there : All IsThereIn records) where
    abbrev views : List ViewRecord
    views = map (unfolded_record texts nodes) records

    built_by_latest : (dep : ℕ) → dep < length nodes → (latest : Option NodeRecord) → latest_node_record nodes (named_by nodes dep) records ≡ latest
        → option_and_then (built_where (unfolded texts nodes dep) (entry_of dep)) (option_map (unfolded_record texts nodes) latest) ≡ option_and_then (built_where_node nodes dep) latest
    built_by_latest dep l None is = refl
    built_by_latest dep l (Some kept) is =
        ap (λ (b : Bool). cond b (Some (record { name = named_by nodes dep; artefact = kept.artefact })) None) (same_number kept.node dep (latest_there (named_by nodes dep) records kept there is) l)

    -- a file of the view of a node, by its number
    built_alike : (n : ℕ) → n < length nodes → (dep : ℕ) → Contains (viewed files n) dep → dep < length nodes
        → built_in views (view files n) (rank_in (viewed files n) dep) ≡ built_node nodes records dep
    unfolding built_in built_node
    built_alike n l dep has low =
        let positions : List ℕ = viewed files n in
        let closed : IsClosed files positions = unfolds.closed n l in
        let rank : ℕ = rank_in positions dep in
        let within : rank < length positions = omega (arith, rank_of positions closed.once dep has, has.1) in
        let in_view : rank < length (view files n) = omega (arith, within, length-closed files positions closed) in
        let file : slice_get (view files n) rank ≡ Some (renumbered positions (entry_of dep)) =
        slice_get-get_or (view files n) rank no_entry in_view
        ∙ ap (λ (e : Entry). Some e) (file_of_part files positions closed rank within)
        ∙ ap (λ (p : ℕ). Some (renumbered positions (get_or files p no_entry))) (get_or-rank positions closed.once dep has)
        ∙ ap (λ (e : Entry). Some (renumbered positions e)) (entry_is dep low) in
        let same : view (view files n) rank ≡ view files dep = view_within files (length nodes) n rank unfolds l within ∙ ap (view files) (get_or-rank positions closed.once dep has) in
        ap (λ (o : Option Entry). option_and_then (λ e. option_and_then (built_where (view (view files n) rank) e) (latest_view e.name views)) o) file
        ∙ ap (λ (v : List Entry). option_and_then (built_where v (entry_of dep)) (latest_view (named_by nodes dep) views)) same
        ∙ ap (option_and_then (built_where (view files dep) (entry_of dep))) (latest_alike (named_by nodes dep) records there)
        ∙ built_by_latest dep low (latest_node_record nodes (named_by nodes dep) records) refl

    pub request_alike : (kept : NodeRecord) → kept.node < length nodes → request_for views (unfolded_record texts nodes kept) ≡ node_request texts nodes records kept
    unfolding request_for node_request
    request_alike kept l =
        let n : ℕ = kept.node in
        let positions : List ℕ = viewed files n in
        let entry : Entry = entry_of n in
        let deps : List ℕ = entry.deps in
        let below : All (λ dep. dep < n) deps = subst (λ (e : Entry). All (λ dep. dep < n) e.deps) (entry_is n l) (unfolds.below n l) in
        let each : map (built_in views (view files n)) (map (rank_in positions) deps) ≡ map (built_node nodes records) deps =
        map_map (built_in views (view files n)) (rank_in positions) deps
        ∙ map_same (λ dep. built_in views (view files n) (rank_in positions dep)) (built_node nodes records) deps 0
        (λ k m.
        let has : Contains positions (get_or deps k 0) =
        subst (λ (ps : List ℕ). Contains ps (get_or deps k 0)) (sym (viewed_of files n entry (found_at n l)))
        (Contains-append_left deps (n ∷ []) (get_or deps k 0) (k, m, get_or_default deps k (get_or deps k 0) 0 m)) in
        built_alike n l (get_or deps k 0) has (omega (arith, below k 0 m, l))) in
        ap (option_and_then (λ e. option_map (request_over e kept.artefact) (each_of (map (built_in views (view files n)) e.deps)))) (last_of_view files n entry (found_at n l))
        ∙ ap (λ (bs : List (Option BuiltFile)). option_map (request_over entry kept.artefact) (each_of bs)) each
