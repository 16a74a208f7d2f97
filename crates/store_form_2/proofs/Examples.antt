-- The contents of two payloads, worked out by hand: a.vhd with the text x and the artefact y, and then b.vhd over it, of the
-- same text and with the artefact z.
use Rattle.std.proofs.Common.{◌≡◌, ℕ, List, [], ◌∷◌, refl}
use Rattle.base.specs.declared.graph.Entry.{Entry}
use Rattle.base.specs.View.{part, viewed}
use Rattle.store_form_2.specs.declared.kept_view.Record.{Record}
use Rattle.base_bytes.specs.Reading.{counted_at, many_at, text_at}
use Rattle.base_bytes.specs.Names.{name_at}
use Rattle.store_form_2.specs.Views.{all_pairs, fit_deps, is_graph, is_whole, stands}
use Rattle.store_form_2.specs.Nodes.{node_files}
use Rattle.store_form_2.specs.Forms.{draft_alone_in, draft_at, node_payload_by, node_payload_in, of_draft_in, of_node_in}
use Rattle.base_bytes.specs.TextRefs.{ref_by_number_at, ref_in_full_at, text_ref_at, text_ref_by}
use Rattle.store_form_2.specs.NodeContents.{after_payload, are_same_by, is_draft, is_same_node, contents_of, with_payload}

-- lib, the path, and cc
abbrev head : ℕ → List ℕ
head letter = 3 ∷ 0 ∷ 0 ∷ 0 ∷ 108 ∷ 105 ∷ 98 ∷ 5 ∷ 0 ∷ 0 ∷ 0 ∷ letter ∷ 46 ∷ 118 ∷ 104 ∷ 100 ∷ 1 ∷ 0 ∷ 0 ∷ 0 ∷ 2 ∷ 0 ∷ 0 ∷ 0 ∷ 99 ∷ 99 ∷ []

abbrev append : List ℕ → List ℕ → List ℕ
append [] ys = ys
append (x ∷ xs) ys = x ∷ append xs ys

abbrev first : List ℕ
first = 1 ∷ append (head 97) (1 ∷ 1 ∷ 0 ∷ 0 ∷ 0 ∷ 120 ∷ 0 ∷ 0 ∷ 0 ∷ 0 ∷ 1 ∷ 0 ∷ 0 ∷ 0 ∷ 121 ∷ [])

abbrev second : List ℕ
second = 1 ∷ append (head 98) (0 ∷ 0 ∷ 0 ∷ 0 ∷ 0 ∷ 0 ∷ 0 ∷ 0 ∷ 0 ∷ 1 ∷ 0 ∷ 0 ∷ 0 ∷ 0 ∷ 0 ∷ 0 ∷ 0 ∷ 0 ∷ 0 ∷ 0 ∷ 0 ∷ 1 ∷ 0 ∷ 0 ∷ 0 ∷ 122 ∷ [])

abbrev entry : ℕ → List ℕ → Entry
entry letter deps = record { name = record { library = 108 ∷ 105 ∷ 98 ∷ []; path = letter ∷ 46 ∷ 118 ∷ 104 ∷ 100 ∷ [] }; command = (99 ∷ 99 ∷ []) ∷ []; text = 120 ∷ []; deps = deps }

abbrev one : Record
one = record { view = entry 97 [] ∷ []; artefact = 121 ∷ [] }

abbrev two : Record
two = record { view = entry 97 [] ∷ entry 98 (0 ∷ []) ∷ []; artefact = 122 ∷ [] }

pub both : (contents_of (first ∷ second ∷ [])).records ≡ one ∷ two ∷ []
unfolding contents_of after_payload with_payload is_draft is_same_node are_same_by node_payload_in node_payload_by of_node_in of_draft_in draft_alone_in draft_at text_ref_at text_ref_by ref_by_number_at ref_in_full_at node_files part viewed name_at text_at counted_at many_at is_graph is_whole stands fit_deps all_pairs
both = refl

-- a payload that repeats a node stands for no record
pub repeated : (contents_of (first ∷ first ∷ [])).records ≡ one ∷ []
unfolding contents_of after_payload with_payload is_draft is_same_node are_same_by node_payload_in node_payload_by of_node_in of_draft_in draft_alone_in draft_at text_ref_at text_ref_by ref_by_number_at ref_in_full_at node_files part viewed name_at text_at counted_at many_at is_graph is_whole stands fit_deps all_pairs
repeated = refl

-- byte 2 adds the node alone
pub alone : (contents_of ((2 ∷ append (head 97) (1 ∷ 1 ∷ 0 ∷ 0 ∷ 0 ∷ 120 ∷ 0 ∷ 0 ∷ 0 ∷ 0 ∷ [])) ∷ second ∷ [])).records ≡ two ∷ []
unfolding contents_of after_payload with_payload is_draft is_same_node are_same_by node_payload_in node_payload_by of_node_in of_draft_in draft_alone_in draft_at text_ref_at text_ref_by ref_by_number_at ref_in_full_at node_files part viewed name_at text_at counted_at many_at is_graph is_whole stands fit_deps all_pairs
alone = refl
