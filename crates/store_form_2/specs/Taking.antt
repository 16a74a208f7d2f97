-- The contents after a payload is taken up.
use Rattle.std.specs.Prelude.{◌≡◌, ℕ, ◌++◌, ◌∷◌, [], Bool, List, length, map, if◌then◌else◌}
use Rattle.store_form_2.specs.declared.kept_view.Record.{Record}
use Rattle.store_form_2.specs.Forms.{Draft}
use Rattle.store_form_2.specs.Nodes.{Node}
use Rattle.store_form_2.specs.NodeContents.{after_payload, draft_node, is_draft, with_draft}
use Rattle.base_bytes.specs.TextRefs.{with_text}
use Rattle.store_form_2.specs.declared.texts.TextLocations.{TextLocations}
use Rattle.store_form_2.specs.declared.contents.ContentsLocations.{ContentsLocations}
use Rattle.store_form_2.specs.Locations.{AreTexts, IsContents, contents_in, texts_in}

-- Locations are these texts, of these lengths.
pub record TextsAre (payloads : List (List ℕ)) (locations : TextLocations) (lengths : List ℕ) (texts : List (List ℕ)) : Type 0 where
  pub are : AreTexts payloads locations
  pub is : texts_in payloads locations ≡ texts
  pub lengths_are : map length texts ≡ lengths

-- A draft of a new node was taken up, or it isn't one and nothing was.
pub record TookDraft (payloads : List (List ℕ)) (texts : List (List ℕ)) (nodes : List Node) (locations : TextLocations) (now : List Node) (lengths : List ℕ) (draft : Draft) (taken : Bool) : Type 0 where
  pub answer : (records : List Record) → taken ≡ is_draft (record { texts = texts; nodes = nodes; records = records }) draft
  pub texts_are : TextsAre payloads locations lengths (if taken then with_text texts draft.source else texts)
  pub nodes_are : now ≡ (if taken then nodes ++ draft_node texts draft ∷ [] else nodes)

-- A payload was taken up: the locations stand for what they stood for and the payload.
pub record TookUp (payloads : List (List ℕ)) (old new : ContentsLocations) (lengths : List ℕ) (payload : List ℕ) : Type 0 where
  pub are : IsContents payloads new
  pub is : contents_in payloads new ≡ after_payload (contents_in payloads old) payload
  pub lengths_are : map length (texts_in payloads new.texts) ≡ lengths

-- A draft was taken up on a contents, or it isn't one and the contents stands for what it stood for.
pub record TookNode (payloads : List (List ℕ)) (old new : ContentsLocations) (lengths : List ℕ) (draft : Draft) (taken : Bool) : Type 0 where
  pub answer : taken ≡ is_draft (contents_in payloads old) draft
  pub are : IsContents payloads new
  pub is : contents_in payloads new ≡ (if taken then with_draft (contents_in payloads old) draft else contents_in payloads old)
  pub lengths_are : map length (texts_in payloads new.texts) ≡ lengths
