use Rattle.std.proofs.Common.{◌≡◌, ℕ, List, map, Some, sym, ap, subst, ◌∙◌}
use Rattle.std.specs.List.{filter_map}
use Rattle.outside.specs.Records.{Record}
use Rattle.store_form_2.specs.Nodes.{AreNodes}
use Rattle.store_form_2.specs.NodeContents.{Contents, contents_of as node_contents_of}
use Rattle.store_form_2.proofs.TakingSteps.{nodes_of}
use Rattle.store_form_2.specs.declared.records.RecordLocation.{RecordLocation}
use Rattle.store_form_2.specs.declared.contents.ContentsLocations.{ContentsLocations}
use Rattle.store_form_2.specs.Locations.{IsContents, contents_in, texts_in}
use Rattle.store_form_2.specs.Migrating.{migrated_requests}
use Rattle.store.specs.Taking.{node_records, request_at}
use Rattle.store.proofs.Following.{each_next}
use Rattle.store.proofs.ContentsRows.{all_picked, of_nodes, rows_of, sound, views_are}
use Rattle.store.proofs.takeover.contents_requests.Goals as goal

nodes_in : (payloads : List (List ℕ)) (contents : ContentsLocations) → contents_in payloads contents ≡ node_contents_of payloads → AreNodes (texts_in payloads contents.texts) contents.table.nodes
nodes_in payloads contents is = subst (λ (s : Contents). AreNodes s.texts s.nodes) (sym is) (nodes_of payloads)

pub migrated_rows-requires : goal.migrated_rows-requires
migrated_rows-requires c =
    let payloads : List (List ℕ) = c.args.segments.now.payloads in
    let contents : ContentsLocations = c.args.contents.now in
    let is : IsContents c.args.segments.now.payloads c.args.contents.now = record { texts = c.requires.contents.texts; records = c.requires.contents.records } in
    rows_of payloads contents is (nodes_in payloads contents c.requires.is) c.as_slice-2.result.now c.len-nodes.ensures.table
    (c.as_slice-2.ensures ∙ c.in_ok-nodes.ensures ∙ ap (map (λ (location : RecordLocation). location.node)) c.as_slice.ensures.value)

pub requests_of-requires-clause-nodes : goal.requests_of-requires-clause-nodes
requests_of-requires-clause-nodes c = nodes_in c.args.segments.now.payloads c.args.contents.now c.requires.is

pub requests_of-requires-clause-each : goal.requests_of-requires-clause-each
requests_of-requires-clause-each c =
    let payloads : List (List ℕ) = c.args.segments.now.payloads in
    let contents : ContentsLocations = c.args.contents.now in
    let is : IsContents c.args.segments.now.payloads c.args.contents.now = record { texts = c.requires.contents.texts; records = c.requires.contents.records } in
    let nodes = nodes_in payloads contents c.requires.is in
    let numbers : c.as_slice-2.result.now ≡ map (λ location. location.node) c.args.contents.now.records.locations.items = c.as_slice-2.ensures ∙ c.in_ok-nodes.ensures ∙ ap (map (λ (location : RecordLocation). location.node)) c.as_slice.ensures.value in
    let of = of_nodes payloads contents is nodes c.as_slice-2.result.now numbers in
    let f = request_at c.args.segments.now.payloads c.args.contents.now in
    let picked : filter_map (request_at c.args.segments.now.payloads c.args.contents.now) c.in_ok-rows.rows ≡ migrated_requests (contents_in c.args.segments.now.payloads c.args.contents.now).records =
    c.in_ok-rows.ensures.is (texts_in payloads contents.texts) (node_records payloads contents) of nodes ∙ ap migrated_requests (views_are payloads contents is nodes) in (
      migrated_requests (contents_in payloads contents).records,
      ap (map f) c.as_slice-3.ensures ∙ all_picked f c.in_ok-rows.rows (c.in_ok-rows.ensures.there (texts_in payloads contents.texts) (node_records payloads contents) of) ∙ ap (map (λ (kept : Record). Some kept)) picked,
      each_next (migrated_requests (contents_in payloads contents).records) (sound payloads contents is nodes),
    )

pub returns : goal.returns
returns c =
    let payloads : List (List ℕ) = c.args.segments.now.payloads in
    let contents : ContentsLocations = c.args.contents.now in
    let is : IsContents c.args.segments.now.payloads c.args.contents.now = record { texts = c.requires.contents.texts; records = c.requires.contents.records } in
    let nodes = nodes_in payloads contents c.requires.is in
    let numbers : c.as_slice-2.result.now ≡ map (λ location. location.node) c.args.contents.now.records.locations.items = c.as_slice-2.ensures ∙ c.in_ok-nodes.ensures ∙ ap (map (λ (location : RecordLocation). location.node)) c.as_slice.ensures.value in
    let of = of_nodes payloads contents is nodes c.as_slice-2.result.now numbers in
    let f = request_at c.args.segments.now.payloads c.args.contents.now in
    let picked : filter_map (request_at c.args.segments.now.payloads c.args.contents.now) c.in_ok-rows.rows ≡ migrated_requests (contents_in c.args.segments.now.payloads c.args.contents.now).records =
    c.in_ok-rows.ensures.is (texts_in payloads contents.texts) (node_records payloads contents) of nodes ∙ ap migrated_requests (views_are payloads contents is nodes) in
    c.in_ok-held.ensures (migrated_requests (contents_in payloads contents).records)
    (ap (map f) c.as_slice-3.ensures ∙ all_picked f c.in_ok-rows.rows (c.in_ok-rows.ensures.there (texts_in payloads contents.texts) (node_records payloads contents) of) ∙ ap (map (λ (kept : Record). Some kept)) picked)
    ∙ ap (λ (s : Contents). migrated_requests s.records) c.requires.is
