-- Texts and nodes stay in order where a payload is taken up.
use Rattle.std.proofs.Common.{◌≡◌, ℕ, ◌<◌, Bool, true, false, not, ◌&&◌, ◌==◌, List, [], ◌∷◌, ◌++◌, length, get_or, None, Option, Some, refl, sym, ap, subst, ◌∙◌, arith, inl, inr, length-append}
use Rattle.std.specs.Prelude.{All, nat_lt, if◌then◌else◌}
use Rattle.std.specs.List.{fold, list_all, list_any}
use Rattle.std.specs.Option.{option_map_or}
use Rattle.std.specs.Str.{bytes_eq}
use Rattle.std.proofs.lemmas.Bool.{and_parts, cases_lt}
use Rattle.std.proofs.lemmas.Bool.Decides.{Decides-eqb, nat_tests}
use Rattle.std.proofs.lemmas.List.{append-nil, get_or_append_left, get_or_at}
use Rattle.std.proofs.lemmas.List.Folds.{list_all_at, list_any_at}
use Rattle.std.proofs.lemmas.Slice.Eq.{bytes_eq-Decides}
use Rattle.base.specs.Graphs.{IsGraph}
use Rattle.store_form_2.proofs.Deciding.{is_view-Decides}
use Rattle.store_form_2.specs.Nodes.{AreNodes, AreOnce, Node, unfolded}
use Rattle.store_form_2.specs.Forms.{Draft, NodePayload, node_payload_in}
use Rattle.base_bytes.specs.TextRefs.{TextRef, is_text_ref, with_text}
use Rattle.base_bytes.specs.TextRefs.TextRef.{ByNumber, InFull}
use Rattle.store_form_2.specs.Forms.NodePayload.{OfNode, OfDraft, DraftAlone}
use Rattle.store_form_2.specs.NodeContents.{Contents, after_payload, are_same_by, draft_node, empty_contents, is_artefact, is_draft, is_same_node, contents_of, source_number, with_draft, with_node_record, with_payload}
use Rattle.store_form_2.proofs.Growing.{unfolded_grown}

-- an item is the same as itself
same_by : {X : Type 0} (test : X → X → Bool) → ((x : X) → test x x ≡ true) → (xs : List X) → are_same_by test xs xs ≡ true
unfolding are_same_by
same_by test each [] = refl
same_by test each (x ∷ xs) = rw (each x, same_by test each xs) refl

same_bytes : (text : List ℕ) → bytes_eq text text ≡ true
same_bytes text = (bytes_eq-Decides text text).1 refl

same_node : (node : Node) → is_same_node node node ≡ true
unfolding is_same_node
same_node node =
    let library = same_bytes node.name.library in
    let path = same_bytes node.name.path in
    let command = same_by bytes_eq same_bytes node.command in
    let text : (node.text == node.text) ≡ true = (Decides-eqb node.text node.text).1 refl in
    let deps = same_by (λ (n m : ℕ). n == m) (λ n. (Decides-eqb n n).1 refl) node.deps in
    rw (library, path, command, text, deps) refl

-- a new item keeps a list without repeats
pub once_more : {X : Type 0} (test : X → X → Bool) → ((x : X) → test x x ≡ true) → (xs : List X) (new : X) → AreOnce xs → list_any (test new) xs ≡ false → AreOnce (xs ++ new ∷ [])
once_more test each xs new once none i j other l m e =
    elim (cases_lt i (length xs)) [
      | inl a ↦ elim (cases_lt j (length xs)) [
        | inl b ↦ once i j other a b (sym (get_or_append_left xs (new ∷ []) other i a) ∙ e ∙ get_or_append_left xs (new ∷ []) other j b)
        | inr b ↦ let at : length xs ≡ j = omega (arith, length-append xs (new ∷ [])) in
            let same : get_or xs i other ≡ new = sym (get_or_append_left xs (new ∷ []) other i a) ∙ e ∙ get_or_at xs new [] other j at in
            let found : list_any (test new) xs ≡ true = list_any_at (test new) xs i other a (rw same (each new)) in absurd cc
      ]
      | inr a ↦ elim (cases_lt j (length xs)) [
        | inl b ↦ let at : length xs ≡ i = omega (arith, length-append xs (new ∷ [])) in
            let same : get_or xs j other ≡ new = sym (get_or_append_left xs (new ∷ []) other j b) ∙ sym e ∙ get_or_at xs new [] other i at in
            let found : list_any (test new) xs ≡ true = list_any_at (test new) xs j other b (rw same (each new)) in absurd cc
        | inr b ↦ omega (arith, length-append xs (new ∷ []))
      ]
    ]

-- What a draft that is a new node has.
pub record IsNew (contents : Contents) (draft : Draft) : Type 0 where
  pub source : is_text_ref contents.texts draft.source ≡ true
  pub node : list_any (is_same_node (draft_node contents.texts draft)) contents.nodes ≡ false
  pub deps : All (λ dep. dep < length contents.nodes) draft.deps
  pub graph : IsGraph (unfolded (with_draft contents draft).texts (with_draft contents draft).nodes (length contents.nodes))

not_true : (b : Bool) → not b ≡ true → b ≡ false
not_true true e = absurd cc
not_true false e = refl

all_below : (n : ℕ) (xs : List ℕ) → list_all (λ x. nat_lt x n) xs ≡ true → All (λ x. x < n) xs
all_below n xs e k d l =
    elim (cases_lt (get_or xs k d) n) [
      | inl below ↦ below
      | inr above ↦ let fails : list_all (λ x. nat_lt x n) xs ≡ false = list_all_at (λ x. nat_lt x n) xs k d l (grind (arith, nat_tests)) in absurd cc
    ]

pub is_new : (contents : Contents) (draft : Draft) → is_draft contents draft ≡ true → IsNew contents draft
unfolding is_draft
is_new contents draft e =
    let one = and_parts _ _ e in
    let two = and_parts _ _ one.1 in
    let three = and_parts _ _ two.1 in
    record {
      source = one.0;
      node = not_true _ two.0;
      deps = all_below (length contents.nodes) draft.deps three.0;
      graph = ((is_view-Decides (unfolded (with_draft contents draft).texts (with_draft contents draft).nodes (length contents.nodes))).0 three.1).0;
    }

-- the texts of a source, and its number
source_once : (texts : List (List ℕ)) (source : TextRef) → AreOnce texts → is_text_ref texts source ≡ true → AreOnce (with_text texts source)
source_once texts (ByNumber number) once e = once
source_once texts (InFull text) once e = once_more bytes_eq same_bytes texts text once (not_true _ e)

source_there : (texts : List (List ℕ)) (source : TextRef) → is_text_ref texts source ≡ true → source_number texts source < length (with_text texts source)
source_there texts (ByNumber number) e = grind (arith, nat_tests)
source_there texts (InFull text) e = omega (arith, length-append texts (text ∷ []))

-- the texts after a source are those before it, and more
abbrev pub more_of : TextRef → List (List ℕ)
more_of (ByNumber number) = []
more_of (InFull text) = text ∷ []

pub source_more : (texts : List (List ℕ)) (source : TextRef) → with_text texts source ≡ texts ++ more_of source
source_more texts (ByNumber number) = sym (append-nil texts)
source_more texts (InFull text) = refl

pub taken_draft : (contents : Contents) (draft : Draft) → AreNodes contents.texts contents.nodes → is_draft contents draft ≡ true → AreNodes (with_draft contents draft).texts (with_draft contents draft).nodes
taken_draft contents draft are e =
    let new = is_new contents draft e in
    let texts : List (List ℕ) = with_text contents.texts draft.source in
    let node : Node = draft_node contents.texts draft in
    let nodes : List Node = contents.nodes ++ node ∷ [] in
    let more : List (List ℕ) = more_of draft.source in
    let texts_are : texts ≡ contents.texts ++ more = source_more contents.texts draft.source in
    record {
      texts_once = source_once contents.texts draft.source are.texts_once new.source;
      nodes_once = once_more is_same_node same_node contents.nodes node are.nodes_once new.node;
      each = λ number other l. elim (cases_lt number (length contents.nodes)) [
        | inl a ↦
            let here : get_or nodes number other ≡ get_or contents.nodes number other = get_or_append_left contents.nodes (node ∷ []) other number a in
            let old = are.each number other a in
            let same : unfolded texts nodes number ≡ unfolded contents.texts contents.nodes number = ap (λ (ts : List (List ℕ)). unfolded ts nodes number) texts_are ∙ unfolded_grown contents.texts more contents.nodes (node ∷ []) number are a in
            rw here (record {
              text = omega (arith, old.text, ap length texts_are, length-append contents.texts more);
              before = old.before;
              unfolds = subst IsGraph (sym same) old.unfolds;
            })
        | inr a ↦
            let at : length contents.nodes ≡ number = omega (arith, length-append contents.nodes (node ∷ [])) in
            let here : get_or nodes number other ≡ node = get_or_at contents.nodes node [] other number at in
            rw (here, ← at) (record {
              text = source_there contents.texts draft.source new.source;
              before = new.deps;
              unfolds = new.graph;
            })
      ];
    }

abbrev pub HasNodes : Contents → Type 0
HasNodes contents = AreNodes contents.texts contents.nodes

-- by a test
by_test : (P : Contents → Type 0) (test : Bool) (x y : Contents) → (test ≡ true → P x) → P y → P (if test then x else y)
by_test P true x y one two = one refl
by_test P false x y one two = two

pub taken_payload : (contents : Contents) (payload : NodePayload) → HasNodes contents → HasNodes (with_payload contents payload)
unfolding with_payload
taken_payload contents (OfNode number artefact) are = by_test HasNodes (nat_lt number (length contents.nodes) && is_artefact artefact) (with_node_record contents number artefact) contents (λ passed. are) are
taken_payload contents (OfDraft draft artefact) are = by_test HasNodes (is_draft contents draft && is_artefact artefact) (with_node_record (with_draft contents draft) (length contents.nodes) artefact) contents (λ passed. taken_draft contents draft are (and_parts _ _ passed).0) are
taken_payload contents (DraftAlone draft) are = by_test HasNodes (is_draft contents draft) (with_draft contents draft) contents (λ passed. taken_draft contents draft are passed) are

taken_found : (contents : Contents) (found : Option NodePayload) → HasNodes contents → HasNodes (option_map_or (with_payload contents) found contents)
taken_found contents None are = are
taken_found contents (Some payload) are = taken_payload contents payload are

pub taken_bytes : (contents : Contents) (bytes : List ℕ) → HasNodes contents → HasNodes (after_payload contents bytes)
unfolding after_payload
taken_bytes contents bytes are = taken_found contents (node_payload_in bytes) are

taken_all : (contents : Contents) (payloads : List (List ℕ)) → HasNodes contents → HasNodes (fold after_payload contents payloads)
taken_all contents [] are = are
taken_all contents (payload ∷ payloads) are = taken_all (after_payload contents payload) payloads (taken_bytes contents payload are)

pub nodes_of : (payloads : List (List ℕ)) → HasNodes (contents_of payloads)
unfolding contents_of
nodes_of payloads = taken_all empty_contents payloads (record {
  texts_once = λ i j other l m e. absurd (omega arith);
  nodes_once = λ i j other l m e. absurd (omega arith);
  each = λ number other l. absurd (omega arith);
})
