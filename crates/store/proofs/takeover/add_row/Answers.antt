use Rattle.std.proofs.Common.{◌≡◌, ℕ, ◌<◌, List, [], ◌∷◌, ◌++◌, length, map, get_or, None, Some, sym, ap, subst, ◌∙◌, arith}
use Rattle.std.specs.Prelude.{OnOk, slice_get}
use Rattle.std.specs.Option.{option_map}
use Rattle.std.proofs.lemmas.List.{get_or-map, get_or_default}
use Rattle.std.proofs.lemmas.Option.{get_or_from_slice_get, same_Some, slice_get_within}
use Rattle.outside.specs.Records.{Record, built_of_record, latest}
use Rattle.store_form_2.specs.Nodes.{Node, node_file}
use Rattle.base_bytes.specs.Ranges.{ranged}
use Rattle.store_form_2.specs.declared.records.RecordLocation.{RecordLocation}
use Rattle.store_form_2.specs.declared.contents.ContentsLocations.{ContentsLocations}
use Rattle.store_form_2.specs.Locations.{artefact_in, texts_in}
use Rattle.store_form_2.specs.Rows.{node_in}
use Rattle.store_codec.specs.RecordTables.{record_table_of}
use Rattle.store.specs.Additions.{IsRequestOver, record_over}
use Rattle.store_form_2.specs.ByNumber.{named_by, node_request, numbered_node, unnamed_node}
use Rattle.store_form_2.specs.NodeRows.{no_record}
use Rattle.store.specs.Taking.{alone, node_records, record_at_location, request_at}
use Rattle.store.proofs.RowParts.{HasParts, is_new, over_products, parts_of, there_at}
use Rattle.store.proofs.takeover.add_row.Goals as goal

found : (payloads : List (List ℕ)) (locations : List RecordLocation) (number : ℕ) (location : RecordLocation) → number < length locations → location ≡ get_or locations number location → get_or (map (record_at_location payloads) locations) number no_record ≡ record_at_location payloads location
found payloads locations number location low is = get_or-map (record_at_location payloads) locations number location no_record low ∙ ap (record_at_location payloads) (sym is)

node_is : (nodes : List Node) (number : ℕ) (node : Node) → slice_get nodes number ≡ Some node → numbered_node nodes number ≡ node
node_is nodes number node is = get_or_from_slice_get nodes number node unnamed_node is

-- the parts of the request that stands for the record
parts_at : (payloads : List (List ℕ)) (contents : ContentsLocations) (number : ℕ) (location : RecordLocation) → number < length contents.records.locations.items → location ≡ get_or contents.records.locations.items number location → (new : Record) → request_at payloads contents number ≡ Some new
    → HasParts (texts_in payloads contents.texts) contents.table.nodes (node_records payloads contents) (record_at_location payloads location) new
parts_at payloads contents number location low index_is new is =
    let texts : List (List ℕ) = texts_in payloads contents.texts in
    parts_of (texts_in payloads contents.texts) contents.table.nodes (node_records payloads contents) (record_at_location payloads location) new
    (ap (node_request (texts_in payloads contents.texts) contents.table.nodes (node_records payloads contents)) (sym (found payloads contents.records.locations.items number location low index_is)) ∙ is)

-- its artefact
artefact_is : (payloads : List (List ℕ)) (location : RecordLocation) (bytes payload : List ℕ) → bytes ≡ ranged payload location.artefact → slice_get payloads location.payload ≡ Some payload → bytes ≡ artefact_in payloads location
artefact_is payloads location bytes payload is at = is ∙ ap (λ (p : List ℕ). ranged p location.artefact) (sym (get_or_from_slice_get payloads location.payload payload [] at))

pub products_of-requires-clause-within : goal.products_of-requires-clause-within
products_of-requires-clause-within c = λ k d l.
    let nodes : List Node = c.args.contents.now.table.nodes in
    let node : Node = node_in c.args.contents.now.table c.row-row.result.now in
    let low : c.index-location.result.now.node < length c.args.contents.now.table.nodes = slice_get_within nodes c.index-location.result.now.node node c.row-row.ensures.node in
    let each = (c.requires.nodes.each c.index-location.result.now.node node low).before in
    let same : get_or c.args.contents.now.table.nodes c.index-location.result.now.node node ≡ node = get_or_from_slice_get nodes c.index-location.result.now.node node node c.row-row.ensures.node in
    let deps : (get_or c.args.contents.now.table.nodes c.index-location.result.now.node node).deps ≡ c.as_slice.result.now = ap (λ (n : Node). n.deps) same ∙ sym c.as_slice.ensures in
    let below : get_or c.as_slice.result.now k d < c.index-location.result.now.node = subst (λ (ds : List ℕ). get_or ds k d < c.index-location.result.now.node) deps (each k d (omega (arith, ap length deps, l))) in
    omega (arith, below, low)

pub products_of-requires-clause-built : goal.products_of-requires-clause-built
products_of-requires-clause-built c = λ k d l none.
    let payloads : List (List ℕ) = c.args.segments.now.payloads in
    let nodes : List Node = c.args.contents.now.table.nodes in
    let node : Node = node_in c.args.contents.now.table c.row-row.result.now in
    let deps : c.as_slice.result.now ≡ (numbered_node c.args.contents.now.table.nodes c.index-location.result.now.node).deps = c.as_slice.ensures ∙ ap (λ (n : Node). n.deps) (sym (node_is nodes c.index-location.result.now.node node c.row-row.ensures.node)) in
    there_at (texts_in c.args.segments.now.payloads c.args.contents.now.texts) nodes (node_records c.args.segments.now.payloads c.args.contents.now) (record_at_location c.args.segments.now.payloads c.index-location.result.now) c.requires.next.0
    (parts_at payloads c.args.contents.now c.args.number c.index-location.result.now c.requires.number c.index-location.ensures c.requires.next.0 c.requires.next.1) (record_table_of c.args.held.now.payloads).records c.requires.next.2 k (omega (arith, ap length deps, l))
    (subst (λ (n : ℕ). latest (named_by c.args.contents.now.table.nodes n) (record_table_of c.args.held.now.payloads).records ≡ None) (get_or_default c.as_slice.result.now k d 0 l ∙ ap (λ (ds : List ℕ). get_or ds k 0) deps) none)

pub add-requires : goal.add-requires
add-requires c =
    let payloads : List (List ℕ) = c.args.segments.now.payloads in
    let texts : List (List ℕ) = texts_in c.args.segments.now.payloads c.args.contents.now.texts in
    let nodes : List Node = c.args.contents.now.table.nodes in
    let node : Node = node_in c.args.contents.now.table c.row-row.result.now in
    let same : numbered_node c.args.contents.now.table.nodes c.index-location.result.now.node ≡ node = node_is nodes c.index-location.result.now.node node c.row-row.ensures.node in
    let deps : c.as_slice.result.now ≡ (numbered_node c.args.contents.now.table.nodes c.index-location.result.now.node).deps = c.as_slice.ensures ∙ ap (λ (n : Node). n.deps) (sym same) in
    let contents = record_table_of c.args.held.now.payloads in
    subst (λ (ns : List ℕ). IsRequestOver (record_table_of c.args.held.now.payloads) c.in_ok-entry.entry ns c.bytes_in-artefact.result.now) (sym c.as_slice-2.ensures)
    (over_products texts nodes (node_records payloads c.args.contents.now) (record_at_location payloads c.index-location.result.now) c.requires.next.0
    (parts_at payloads c.args.contents.now c.args.number c.index-location.result.now c.requires.number c.index-location.ensures c.requires.next.0 c.requires.next.1) contents.records c.requires.next.2 contents c.in_ok-deps.deps
    (c.in_ok-deps.ensures.built ∙ ap (map (λ n. option_map built_of_record (latest (named_by nodes n) contents.records))) deps)
    c.in_ok-entry.entry c.bytes_in-artefact.result.now (c.in_ok-entry.ensures ∙ ap (λ (n : Node). alone (node_file texts n)) (sym same))
    (artefact_is payloads c.index-location.result.now c.bytes_in-artefact.result.now c.get.result.now c.bytes_in-artefact.ensures c.get.ensures) c.in_ok-deps.ensures.there)

pub returns : goal.returns
returns c = λ new is.
    let payloads : List (List ℕ) = c.args.segments.now.payloads in
    let texts : List (List ℕ) = texts_in c.args.segments.now.payloads c.args.contents.now.texts in
    let nodes : List Node = c.args.contents.now.table.nodes in
    let node : Node = node_in c.args.contents.now.table c.row-row.result.now in
    let same : numbered_node c.args.contents.now.table.nodes c.index-location.result.now.node ≡ node = node_is nodes c.index-location.result.now.node node c.row-row.ensures.node in
    let deps : c.as_slice.result.now ≡ (numbered_node c.args.contents.now.table.nodes c.index-location.result.now.node).deps = c.as_slice.ensures ∙ ap (λ (n : Node). n.deps) (sym same) in
    let contents = record_table_of c.args.held.now.payloads in
    let own : record_over (record_table_of c.args.held.now.payloads) c.in_ok-entry.entry c.in_ok-deps.deps c.bytes_in-artefact.result.now ≡ c.requires.next.0 =
    is_new texts nodes (node_records payloads c.args.contents.now) (record_at_location payloads c.index-location.result.now) c.requires.next.0
    (parts_at payloads c.args.contents.now c.args.number c.index-location.result.now c.requires.number c.index-location.ensures c.requires.next.0 c.requires.next.1) contents.records c.requires.next.2 contents c.in_ok-deps.deps
    (c.in_ok-deps.ensures.built ∙ ap (map (λ n. option_map built_of_record (latest (named_by nodes n) contents.records))) deps)
    c.in_ok-entry.entry c.bytes_in-artefact.result.now (c.in_ok-entry.ensures ∙ ap (λ (n : Node). alone (node_file texts n)) (sym same))
    (artefact_is payloads c.index-location.result.now c.bytes_in-artefact.result.now c.get.result.now c.bytes_in-artefact.ensures c.get.ensures) c.in_ok-deps.ensures.there in
    let made : record_over (record_table_of c.args.held.now.payloads) c.in_ok-entry.entry c.as_slice-2.result.now c.bytes_in-artefact.result.now ≡ new =
    ap (λ (ns : List ℕ). record_over (record_table_of c.args.held.now.payloads) c.in_ok-entry.entry ns c.bytes_in-artefact.result.now) c.as_slice-2.ensures ∙ own ∙ same_Some c.requires.next.0 new (sym c.requires.next.1 ∙ is) in
    subst (λ (r : Record). OnOk c.add.result ((record_table_of c.add.new.self.payloads).records ≡ (record_table_of c.args.held.now.payloads).records ++ r ∷ [])) made c.add.ensures
