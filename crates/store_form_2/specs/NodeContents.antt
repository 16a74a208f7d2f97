-- The texts, nodes and records that payloads stand for, taken up one after the other.
use Rattle.std.specs.Prelude.{ℕ, nat_le, nat_lt, Bool, true, false, not, ◌&&◌, ◌==◌, List, [], ◌∷◌, ◌++◌, length, if◌then◌else◌}
use Rattle.std.specs.List.{fold, list_all, list_any}
use Rattle.std.specs.Option.{option_map_or}
use Rattle.std.specs.Str.{bytes_eq}
use Rattle.base.specs.Names.{is_same_name}
use Rattle.base.specs.declared.limits.TheConstants.{ARTEFACT_LIMIT}
use Rattle.store_form_2.specs.declared.kept_view.Record.{Record}
use Rattle.store_form_2.specs.Views.{is_view}
use Rattle.store_form_2.specs.Nodes.{Node, unfolded}
use Rattle.base_bytes.specs.TextRefs.{TextRef, is_text_ref, with_text}
use Rattle.base_bytes.specs.TextRefs.TextRef.{ByNumber, InFull}
use Rattle.store_form_2.specs.Forms.{Draft, NodePayload, node_payload_in}
use Rattle.store_form_2.specs.Forms.NodePayload.{OfNode, OfDraft, DraftAlone}

-- texts and nodes, numbered from 0, and records
pub record Contents : Type 0 where
  pub texts : List (List ℕ)
  pub nodes : List Node
  pub records : List Record

-- what no payloads stand for
abbrev pub empty_contents : Contents
empty_contents = record { texts = []; nodes = []; records = [] }

-- two lists have the same length, and pass the test item by item
unfoldable pub are_same_by : {X : Type 0} → (X → X → Bool) → List X → List X → Bool
are_same_by test [] [] = true
are_same_by test [] (y ∷ ys) = false
are_same_by test (x ∷ xs) [] = false
are_same_by test (x ∷ xs) (y ∷ ys) = test x y && are_same_by test xs ys

-- the same name, words, number of the text, and dependencies in the same order
unfoldable pub is_same_node : Node → Node → Bool
is_same_node a b = is_same_name a.name b.name && (are_same_by bytes_eq a.command b.command && (a.text == b.text && are_same_by (λ n m. n == m) a.deps b.deps))

-- the number of a text, or the one that a new text will have
abbrev pub source_number : List (List ℕ) → TextRef → ℕ
source_number texts (ByNumber number) = number
source_number texts (InFull text) = length texts

-- the node of a draft, by the number that its text has or will have
abbrev pub draft_node : List (List ℕ) → Draft → Node
draft_node texts draft = record { name = draft.name; command = draft.command; text = source_number texts draft.source; deps = draft.deps }

-- one more node, with its text where that is new; no record is added
abbrev pub with_draft : Contents → Draft → Contents
with_draft contents draft = record { texts = with_text contents.texts draft.source; nodes = contents.nodes ++ draft_node contents.texts draft ∷ []; records = contents.records }

-- A draft is a new node, of a text that is there or is new, whose dependencies are there, and which unfolds to a view.
unfoldable pub is_draft : Contents → Draft → Bool
is_draft contents draft =
    is_text_ref contents.texts draft.source && (not (list_any (is_same_node (draft_node contents.texts draft)) contents.nodes) && (list_all (λ dep. nat_lt dep (length contents.nodes)) draft.deps && is_view (unfolded (with_draft contents draft).texts (with_draft contents draft).nodes (length contents.nodes))))

-- an artefact has at most 262,144 bytes
abbrev pub is_artefact : List ℕ → Bool
is_artefact artefact = nat_le (length artefact) ARTEFACT_LIMIT

-- one more record, of the node of a number
abbrev pub with_node_record : Contents → ℕ → List ℕ → Contents
with_node_record contents number artefact = record { texts = contents.texts; nodes = contents.nodes; records = contents.records ++ record { view = unfolded contents.texts contents.nodes number; artefact = artefact } ∷ [] }

-- one more payload, taken up only where its node or draft is valid after those before it and its artefact within the limit
unfoldable pub with_payload : Contents → NodePayload → Contents
with_payload contents (OfNode number artefact) = if nat_lt number (length contents.nodes) && is_artefact artefact then with_node_record contents number artefact else contents
with_payload contents (OfDraft draft artefact) = if is_draft contents draft && is_artefact artefact then with_node_record (with_draft contents draft) (length contents.nodes) artefact else contents
with_payload contents (DraftAlone draft) = if is_draft contents draft then with_draft contents draft else contents

-- what payloads stand for after one more, which is given as bytes; bytes that spell none add nothing
unfoldable pub after_payload : Contents → List ℕ → Contents
after_payload contents bytes = option_map_or (with_payload contents) (node_payload_in bytes) contents

-- what payloads stand for, taken up in order
unfoldable pub contents_of : List (List ℕ) → Contents
contents_of payloads = fold after_payload empty_contents payloads
