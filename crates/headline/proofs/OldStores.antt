-- The records of a store of the earlier form are of graphs, whatever its payloads.
use Rattle.std.proofs.Common.{◌≡◌, ℕ, ◌<◌, Bool, true, false, nat_lt, List, [], ◌∷◌, length, Option, Some, None, refl, ap, arith}
use Rattle.std.specs.Prelude.{All, if◌then◌else◌}
use Rattle.std.specs.List.{fold}
use Rattle.std.specs.Option.{option_map_or}
use Rattle.std.proofs.lemmas.Bool.{and_parts}
use Rattle.std.proofs.lemmas.Bool.Decides.{nat_tests}
use Rattle.std.proofs.lemmas.List.Elements.{All-nil, All-push}
use Rattle.base.specs.Graphs.{IsGraph}
use Rattle.outside.specs.Disks.{Image}
use Rattle.store_form_2.specs.declared.kept_view.Record.{Record as ViewRecord}
use Rattle.store_form_2.specs.Forms.{NodePayload, node_payload_in}
use Rattle.store_form_2.specs.Forms.NodePayload.{OfNode, OfDraft, DraftAlone}
use Rattle.store_form_2.specs.Nodes.{unfolded}
use Rattle.store_form_2.specs.NodeContents.{Contents, after_payload, empty_contents, is_draft, contents_of, with_draft, with_node_record, with_payload}
use Rattle.store_form_2.proofs.TakingSteps.{HasNodes, is_new, taken_bytes}
use Rattle.store_journal.specs.Forms.{older_counts}
use Rattle.store_journal.specs.Payloads.{payloads}
use Rattle.store_form_2.specs.Migrating.{migrated_requests}
use Rattle.store.specs.Stored.{own_requests, requests_in}

abbrev OfGraph : ViewRecord → Type 0
OfGraph kept = IsGraph kept.view

abbrev AreOfGraphs : Contents → Type 0
AreOfGraphs contents = All OfGraph contents.records

by_test : (test : Bool) (x y : Contents) → (test ≡ true → AreOfGraphs x) → AreOfGraphs y → AreOfGraphs (if test then x else y)
by_test true x y one two = one refl
by_test false x y one two = two

low : (number size : ℕ) → nat_lt number size ≡ true → number < size
low number size is = grind (arith, nat_tests, is)

graphs_payload : (contents : Contents) (payload : NodePayload) → HasNodes contents → AreOfGraphs contents → AreOfGraphs (with_payload contents payload)
unfolding with_payload
graphs_payload contents (OfNode number artefact) nodes all =
    by_test _ (with_node_record contents number artefact) contents
    (λ is. All-push OfGraph contents.records (record { view = unfolded contents.texts contents.nodes number; artefact = artefact }) all
    (nodes.each number (record { name = record { library = []; path = [] }; command = []; text = 0; deps = [] }) (low number (length contents.nodes) (and_parts _ _ is).0)).unfolds)
    all
graphs_payload contents (OfDraft draft artefact) nodes all =
    by_test _ (with_node_record (with_draft contents draft) (length contents.nodes) artefact) contents
    (λ is. All-push OfGraph contents.records (record { view = unfolded (with_draft contents draft).texts (with_draft contents draft).nodes (length contents.nodes); artefact = artefact }) all (is_new contents draft (and_parts _ _ is).0).graph)
    all
graphs_payload contents (DraftAlone draft) nodes all = by_test (is_draft contents draft) (with_draft contents draft) contents (λ is. all) all

graphs_found : (contents : Contents) (found : Option NodePayload) → HasNodes contents → AreOfGraphs contents → AreOfGraphs (option_map_or (with_payload contents) found contents)
graphs_found contents None nodes all = all
graphs_found contents (Some payload) nodes all = graphs_payload contents payload nodes all

graphs_after : (contents : Contents) (bytes : List ℕ) → HasNodes contents → AreOfGraphs contents → AreOfGraphs (after_payload contents bytes)
unfolding after_payload
graphs_after contents bytes nodes all = graphs_found contents (node_payload_in bytes) nodes all

graphs_from : (contents : Contents) (all : List (List ℕ)) → HasNodes contents → AreOfGraphs contents → AreOfGraphs (fold after_payload contents all)
graphs_from contents [] nodes are = are
graphs_from contents (first ∷ rest) nodes are = graphs_from (after_payload contents first) rest (taken_bytes contents first nodes) (graphs_after contents first nodes are)

none_yet : HasNodes empty_contents
none_yet = record { texts_once = λ i j other l m same. absurd (omega (arith, l)); nodes_once = λ i j other l m same. absurd (omega (arith, l)); each = λ number other l. absurd (omega (arith, l)) }

pub graphs_of : (all : List (List ℕ)) → All (λ kept. IsGraph kept.view) (contents_of all).records
unfolding contents_of
graphs_of all = graphs_from empty_contents all none_yet (All-nil OfGraph)

-- where form 2 alone is live an image has the requests that stand for its records
pub taken_in : (image : Image) → older_counts 3 2 image ≡ true → requests_in image ≡ migrated_requests (contents_of (payloads 2 image)).records
taken_in image counts = ap (λ (b : Bool). if b then migrated_requests (contents_of (payloads 2 image)).records else own_requests image) counts
