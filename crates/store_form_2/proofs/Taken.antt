-- The contents after a draft is taken up.
use Rattle.std.proofs.Common.{◌≡◌, ℕ, ◌<◌, Bool, true≢false, List, [], ◌∷◌, ◌++◌, length, map, Some, sym, ap, subst, ◌∙◌}
use Rattle.std.specs.Prelude.{All, Contains, slice_get}
use Rattle.std.specs.Bool.{one_answer}
use Rattle.std.proofs.lemmas.List.{map-append}
use Rattle.std.proofs.lemmas.List.Elements.{All-push}
use Rattle.std.proofs.lemmas.Option.{get_or_from_slice_get}
use Rattle.base.specs.declared.file.FileName.{FileName}
use Rattle.store_form_2.specs.declared.kept_view.Record.{Record}
use Rattle.project_views.proofs.Parts.{no_entry}
use Rattle.base_collections.specs.Fingerprints.{fingerprint_of}
use Rattle.store_form_2.specs.Fitting.{FitsNew}
use Rattle.store_form_2.specs.Forms.{Draft}
use Rattle.store_form_2.specs.Nodes.{AreNodes, Node, node_file, node_files, numbered_text}
use Rattle.store_form_2.specs.NodeContents.{Contents, draft_node, is_draft, source_number}
use Rattle.base_bytes.specs.TextRefs.{with_text}
use Rattle.store_form_2.proofs.NodeFits.{draft_fits}
use Rattle.store_form_2.proofs.TakingSteps.{more_of, source_more}
use Rattle.store_form_2.specs.declared.rows.Row.{Row}
use Rattle.store_form_2.specs.Rows.{NodesByNumber, node_in, node_of}
use Rattle.store_form_2.specs.Fits.{TellsFit}
use Rattle.store_form_2.specs.declared.texts.TextLocation.{TextLocation}
use Rattle.store_form_2.specs.declared.texts.TextLocations.{TextLocations}
use Rattle.store_form_2.specs.Drafts.{IsRowOfDraft}
use Rattle.store_form_2.specs.Locations.{AreTexts, payload_at, text_in, texts_in}
use Rattle.store_form_2.specs.Taking.{TextsAre}
use Rattle.store_form_2.proofs.SameNodes.{any_decides, nodes_decide}

pub payload_is : (payloads : List (List ℕ)) (at : ℕ) (bytes : List ℕ) → slice_get payloads at ≡ Some bytes → payload_at payloads at ≡ bytes
payload_is payloads at bytes e = get_or_from_slice_get payloads at bytes [] e

-- one more text
pub text_added : (payloads : List (List ℕ)) (old new : TextLocations) (location : TextLocation) (fingerprint count : ℕ) (before lengths : List ℕ) (text : List ℕ) → AreTexts payloads old → location.payload < length payloads → new.locations.items ≡ old.locations.items ++ location ∷ [] → new.fingerprints.fingerprints ≡ old.fingerprints.fingerprints ++ fingerprint ∷ [] → text ≡ text_in payloads location → fingerprint ≡ fingerprint_of text → count ≡ length text → map length (texts_in payloads old) ≡ before → lengths ≡ before ++ count ∷ [] → TextsAre payloads new lengths (texts_in payloads old ++ text_in payloads location ∷ [])
text_added payloads old new location fingerprint count before lengths text are low locations fingerprints text_is fingerprint_is count_is before_is grown =
    let all : texts_in payloads new ≡ texts_in payloads old ++ text_in payloads location ∷ [] = ap (map (text_in payloads)) locations ∙ map-append (text_in payloads) old.locations.items (location ∷ []) in
    let fingerprint_here : fingerprint ≡ fingerprint_of (text_in payloads location) = fingerprint_is ∙ ap fingerprint_of text_is in
    let count_here : count ≡ length (text_in payloads location) = count_is ∙ ap length text_is in
    record {
      are = record {
        located = subst (All (λ (p : TextLocation). p.payload < length payloads)) (sym locations) (All-push (λ (p : TextLocation). p.payload < length payloads) old.locations.items location are.located low);
        fingerprinted = fingerprints ∙ ap (λ (ms : List ℕ). ms ++ fingerprint ∷ []) are.fingerprinted ∙ ap (λ (m : ℕ). map fingerprint_of (texts_in payloads old) ++ m ∷ []) fingerprint_here ∙ sym (map-append fingerprint_of (texts_in payloads old) (text_in payloads location ∷ [])) ∙ ap (map fingerprint_of) (sym all);
      };
      is = all;
      lengths_are = map-append length (texts_in payloads old) (text_in payloads location ∷ []) ∙ ap (λ (ls : List ℕ). ls ++ length (text_in payloads location) ∷ []) before_is ∙ ap (λ (n : ℕ). before ++ n ∷ []) (sym count_here) ∙ sym grown;
    }

-- the test of the row of a draft tells whether it is one
pub told : (lengths : List ℕ) (texts : List (List ℕ)) (table : NodesByNumber) (draft : Draft) (row : Row) (own : ℕ) (fits : Bool) → IsRowOfDraft texts table draft row → AreNodes texts table.nodes → map length texts ≡ lengths → own ≡ length (numbered_text (with_text texts draft.source) (source_number texts draft.source)) → TellsFit lengths table row own fits → (records : List Record) → fits ≡ is_draft (record { texts = texts; nodes = table.nodes; records = records }) draft
told lengths texts table draft row own fits is are lengths_are own_is tells records =
    let contents : Contents = record { texts = texts; nodes = table.nodes; records = records } in
    let more = more_of draft.source in
    let all : with_text texts draft.source ≡ texts ++ more = source_more texts draft.source in
    let node : Node = draft_node texts draft in
    let row_text : row.text ≡ source_number texts draft.source = ap (λ (n : Node). n.text) is.row_is.node_is in
    let own_here : length (numbered_text (texts ++ more) row.text) ≡ own =
    ap (λ (t : ℕ). length (numbered_text (texts ++ more) t)) row_text ∙ ap (λ (ts : List (List ℕ)). length (numbered_text ts (source_number texts draft.source))) (sym all) ∙ sym own_is in
    let P : Node → List (List ℕ) → Type 0 = λ n ts. FitsNew (node_files texts table.nodes) (node_file ts n) no_entry in
    let by_row = tells texts more no_entry are lengths_are own_here in
    let by_draft = draft_fits contents draft no_entry are is.source is.new is.there in
    let to : P (node_in table row) (texts ++ more) → P node (with_text texts draft.source) = λ p. subst (P node) (sym all) (subst (λ (n : Node). P n (texts ++ more)) is.row_is.node_is p) in
    let from : P node (with_text texts draft.source) → P (node_in table row) (texts ++ more) = λ p. subst (λ (n : Node). P n (texts ++ more)) (sym is.row_is.node_is) (subst (P node) all p) in
    one_answer fits (is_draft contents draft) (λ e. to (by_row.0 e), λ p. by_row.1 (from p)) (by_draft.0, by_draft.1)

-- the node of the row is new
pub new_node : (texts : List (List ℕ)) (table now : NodesByNumber) (draft : Draft) (row : Row) → IsRowOfDraft texts table draft row → now.names ≡ table.names → now.commands ≡ table.commands → now.nodes ≡ table.nodes → ¬ Contains now.nodes (node_in now row)
new_node texts table now draft row is names commands nodes has =
    let same : node_in now row ≡ draft_node texts draft =
    ap (λ (ns : List FileName). node_of ns now.commands row) names ∙ ap (λ (cs : List (List (List ℕ))). node_of table.names cs row) commands ∙ is.row_is.node_is in
    let here : Contains table.nodes (draft_node texts draft) = subst (λ (ns : List Node). Contains ns (draft_node texts draft)) nodes (subst (Contains now.nodes) same has) in
    true≢false (sym ((any_decides nodes_decide table.nodes (draft_node texts draft)).1 here) ∙ is.new)

pub node_same : (texts : List (List ℕ)) (table now : NodesByNumber) (draft : Draft) (row : Row) → IsRowOfDraft texts table draft row → now.names ≡ table.names → now.commands ≡ table.commands → node_in now row ≡ draft_node texts draft
node_same texts table now draft row is names commands =
    ap (λ (ns : List FileName). node_of ns now.commands row) names ∙ ap (λ (cs : List (List (List ℕ))). node_of table.names cs row) commands ∙ is.row_is.node_is
