-- A contents with one more record or draft.
use Rattle.std.proofs.Common.{◌≡◌, ℕ, ◌+◌, ◌<◌, ◌≤◌, Bool, true, false, ◌&&◌, nat_lt, suc, List, [], ◌∷◌, ◌++◌, length, map, take, get_or, None, Some, Option, Ok, Err, Result, refl, sym, ap, subst, ◌∙◌, arith, length-append, if◌then◌else◌}
use Rattle.std.specs.Prelude.{All, IfOk, slice_get}
use Rattle.std.specs.List.{fold}
use Rattle.std.specs.Option.{option_map_or}
use Rattle.std.proofs.lemmas.Bool.Decides.{nat_tests}
use Rattle.std.proofs.lemmas.List.{append-nil, get_or_append_left}
use Rattle.std.proofs.lemmas.List.Sums.{fold_push}
use Rattle.std.proofs.Math.Seq.{take-suc}
use Rattle.std.proofs.lemmas.Option.{get_or_from_slice_get, slice_get-get_or, slice_get_within}
use Rattle.base.specs.declared.file.FileName.{FileName}
use Rattle.base.specs.declared.memory.NoMemory.{NoMemory}
use Rattle.base.specs.declared.limits.TheConstants.{ARTEFACT_LIMIT}
use Rattle.store_form_2.specs.declared.kept_view.Record.{Record}
use Rattle.project_views.proofs.Parts.{map_same}
use Rattle.store_form_2.specs.Forms.{Draft, NodePayload, node_payload_in}
use Rattle.store_form_2.specs.Forms.NodePayload.{DraftAlone, OfDraft, OfNode}
use Rattle.store_form_2.specs.Nodes.{AreNodes, Node}
use Rattle.store_form_2.specs.NodeContents.{Contents, after_payload, draft_node, empty_contents, is_artefact, is_draft, contents_of, with_draft, with_node_record, with_payload}
use Rattle.base_bytes.specs.TextRefs.{with_text}
use Rattle.store_form_2.proofs.Growing.{unfolded_grown}
use Rattle.store_form_2.proofs.TakingSteps.{more_of, source_more}
use Rattle.store_form_2.specs.Rows.{NodesByNumber, no_name}
use Rattle.store_form_2.specs.Fits.{blank_node}
use Rattle.store_form_2.specs.declared.records.RecordLocation.{RecordLocation}
use Rattle.store_form_2.specs.declared.records.RecordLocations.{RecordLocations}
use Rattle.store_form_2.specs.declared.contents.ContentsLocations.{ContentsLocations}
use Rattle.store_form_2.specs.Drafts.{HasMoreNames}
use Rattle.store_form_2.specs.Locations.{AreRecords, IsKeptIn, IsContents, artefact_in, payload_at, record_in, contents_in, texts_in}
use Rattle.store_form_2.specs.Taking.{TookDraft, TookNode, TookUp}

contents_by : List (List ℕ) → List Node → List Record → Contents
contents_by texts nodes records = record { texts = texts; nodes = nodes; records = records }

pub no_location : RecordLocation
no_location = record { node = 0; payload = 0; artefact = record { start = 0; count = 0 } }

-- what adds nothing
pub no_node : (contents : Contents) (number : ℕ) (artefact : List ℕ) → length contents.nodes ≤ number → with_payload contents (OfNode number artefact) ≡ contents
unfolding with_payload
no_node contents number artefact high = let test : nat_lt number (length contents.nodes) ≡ false = grind (arith, nat_tests) in rw test refl

and_false : (b : Bool) → (b && false) ≡ false
and_false true = refl
and_false false = refl

pub no_artefact : (contents : Contents) (number : ℕ) (artefact : List ℕ) → is_artefact artefact ≡ false → with_payload contents (OfNode number artefact) ≡ contents
unfolding with_payload
no_artefact contents number artefact e = rw (e, and_false (nat_lt number (length contents.nodes))) refl

pub no_artefact_of : (contents : Contents) (draft : Draft) (artefact : List ℕ) → is_artefact artefact ≡ false → with_payload contents (OfDraft draft artefact) ≡ contents
unfolding with_payload
no_artefact_of contents draft artefact e = rw (e, and_false (is_draft contents draft)) refl

pub no_draft_of : (contents : Contents) (draft : Draft) (artefact : List ℕ) → is_draft contents draft ≡ false → with_payload contents (OfDraft draft artefact) ≡ contents
unfolding with_payload
no_draft_of contents draft artefact e = rw e refl

-- and what adds a record
pub node_record : (contents : Contents) (number : ℕ) (artefact : List ℕ) → number < length contents.nodes → is_artefact artefact ≡ true → with_payload contents (OfNode number artefact) ≡ with_node_record contents number artefact
unfolding with_payload
node_record contents number artefact low e = let test : nat_lt number (length contents.nodes) ≡ true = grind (arith, nat_tests) in rw (test, e) refl

pub draft_record : (contents : Contents) (draft : Draft) (artefact : List ℕ) → is_draft contents draft ≡ true → is_artefact artefact ≡ true → with_payload contents (OfDraft draft artefact) ≡ with_node_record (with_draft contents draft) (length contents.nodes) artefact
unfolding with_payload
draft_record contents draft artefact is e = rw (is, e) refl

pub small : (artefact : List ℕ) → is_artefact artefact ≡ true → length artefact ≤ ARTEFACT_LIMIT
small artefact e = grind (arith, nat_tests)

-- records stay where texts and nodes are added
pub records_still : (payloads texts more_texts : List (List ℕ)) (nodes more : List Node) (locations : List RecordLocation) → AreNodes texts nodes → All (IsKeptIn payloads nodes) locations → map (record_in payloads (texts ++ more_texts) (nodes ++ more)) locations ≡ map (record_in payloads texts nodes) locations
records_still payloads texts more_texts nodes more locations are kept =
    map_same (record_in payloads (texts ++ more_texts) (nodes ++ more)) (record_in payloads texts nodes) locations no_location
    (λ k l. ap (λ (view : _). record { view = view; artefact = artefact_in payloads (get_or locations k no_location) }) (unfolded_grown texts more_texts nodes more (get_or locations k no_location).node are (kept k no_location l).node))

-- a name keeps its number where names are added
pub name_stays : (old new : List FileName) (number : ℕ) (name : FileName) → HasMoreNames old new → slice_get old number ≡ Some name → slice_get new number ≡ Some name
name_stays old new number name grown at =
    let low : number < length old = slice_get_within old number name at in
    let longer : number < length new = omega (arith, ap length grown.grown, length-append old grown.more) in
    let same : get_or new number no_name ≡ name = ap (λ (ns : List FileName). get_or ns number no_name) grown.grown ∙ get_or_append_left old grown.more no_name number low ∙ get_or_from_slice_get old number name no_name at in
    slice_get-get_or new number no_name longer ∙ ap (λ (n : FileName). Some n) same

pub records_kept : (payloads : List (List ℕ)) (table new : NodesByNumber) (more : List Node) (records : RecordLocations) → HasMoreNames table.names new.names → new.nodes ≡ table.nodes ++ more → AreRecords payloads table records → AreRecords payloads new records
records_kept payloads table new more records names nodes are = record {
  kept = λ k d l.
      let kept = are.kept k d l in
      record { node = omega (arith, kept.node, ap length nodes, length-append table.nodes more); payload = kept.payload; small = kept.small };
  as_many = are.as_many;
  named = λ k other l.
      let location : RecordLocation = get_or records.locations.items k other in
      let kept = are.kept k other l in
      let same : get_or new.nodes location.node blank_node ≡ get_or table.nodes location.node blank_node = ap (λ (ns : List Node). get_or ns location.node blank_node) nodes ∙ get_or_append_left table.nodes more blank_node location.node kept.node in
      name_stays table.names new.names (get_or records.names.fingerprints k 0) (get_or table.nodes location.node blank_node).name names (are.named k other l) ∙ ap (λ (n : Node). Some n.name) (sym same);
}

-- a draft that was taken up
pub took_node : (payloads : List (List ℕ)) (old new : ContentsLocations) (lengths : List ℕ) (draft : Draft) (taken : Bool) → IsContents payloads old → AreNodes (texts_in payloads old.texts) old.table.nodes → TookDraft payloads (texts_in payloads old.texts) old.table.nodes new.texts new.table.nodes lengths draft taken → HasMoreNames old.table.names new.table.names → new.records ≡ old.records → TookNode payloads old new lengths draft taken
unfolding contents_by
took_node payloads old new lengths draft true is are took names records =
    let texts : List (List ℕ) = texts_in payloads old.texts in
    let nodes : List Node = old.table.nodes in
    let node : Node = draft_node texts draft in
    let more : with_text texts draft.source ≡ texts ++ more_of draft.source = source_more texts draft.source in
    let locations : List RecordLocation = old.records.locations.items in
    let records_same : map (record_in payloads (with_text texts draft.source) (nodes ++ node ∷ [])) locations ≡ map (record_in payloads texts nodes) locations =
    ap (λ (ts : List (List ℕ)). map (record_in payloads ts (nodes ++ node ∷ [])) locations) more ∙ records_still payloads texts (more_of draft.source) nodes (node ∷ []) locations are is.records.kept in
    record {
      answer = took.answer (contents_in payloads old).records;
      are = record {
        texts = took.texts_are.are;
        records = subst (AreRecords payloads new.table) (sym records) (records_kept payloads old.table new.table (node ∷ []) old.records names took.nodes_are is.records);
      };
      is =
          ap (λ (rs : RecordLocations). contents_by (texts_in payloads new.texts) new.table.nodes (map (record_in payloads (texts_in payloads new.texts) new.table.nodes) rs.locations.items)) records
          ∙ ap (λ (ts : List (List ℕ)). contents_by ts new.table.nodes (map (record_in payloads ts new.table.nodes) locations)) took.texts_are.is
          ∙ ap (λ (ns : List Node). contents_by (with_text texts draft.source) ns (map (record_in payloads (with_text texts draft.source) ns) locations)) took.nodes_are
          ∙ ap (contents_by (with_text texts draft.source) (nodes ++ node ∷ [])) records_same;
      lengths_are = ap (map length) took.texts_are.is ∙ took.texts_are.lengths_are;
    }
took_node payloads old new lengths draft false is are took names records =
    let texts : List (List ℕ) = texts_in payloads old.texts in
    let nodes : List Node = old.table.nodes in
    let locations : List RecordLocation = old.records.locations.items in
    record {
      answer = took.answer (contents_in payloads old).records;
      are = record {
        texts = took.texts_are.are;
        records = subst (AreRecords payloads new.table) (sym records) (records_kept payloads old.table new.table [] old.records names (took.nodes_are ∙ sym (append-nil nodes)) is.records);
      };
      is =
          ap (λ (rs : RecordLocations). contents_by (texts_in payloads new.texts) new.table.nodes (map (record_in payloads (texts_in payloads new.texts) new.table.nodes) rs.locations.items)) records
          ∙ ap (λ (ts : List (List ℕ)). contents_by ts new.table.nodes (map (record_in payloads ts new.table.nodes) locations)) took.texts_are.is
          ∙ ap (λ (ns : List Node). contents_by texts ns (map (record_in payloads texts ns) locations)) took.nodes_are;
      lengths_are = ap (map length) took.texts_are.is ∙ took.texts_are.lengths_are;
    }

pub ok_took : (payloads : List (List ℕ)) (old new : ContentsLocations) (lengths : List ℕ) (draft : Draft) (answer : Result Bool NoMemory) → IsContents payloads old → AreNodes (texts_in payloads old.texts) old.table.nodes → IfOk answer (TookDraft payloads (texts_in payloads old.texts) old.table.nodes new.texts new.table.nodes lengths draft) → HasMoreNames old.table.names new.table.names → new.records ≡ old.records → IfOk answer (TookNode payloads old new lengths draft)
ok_took payloads old new lengths draft (Ok taken) is are took names records = took_node payloads old new lengths draft taken is are took names records
ok_took payloads old new lengths draft (Err fault) is are took names records = tt

-- a payload of each form
pub took_up : (payloads : List (List ℕ)) (old new : ContentsLocations) (lengths : List ℕ) (bytes : List ℕ) (payload : NodePayload) → IsContents payloads new → node_payload_in bytes ≡ Some payload → contents_in payloads new ≡ with_payload (contents_in payloads old) payload → map length (texts_in payloads new.texts) ≡ lengths → TookUp payloads old new lengths bytes
unfolding after_payload
took_up payloads old new lengths bytes payload are read is lengths_are = record {
  are = are;
  is = is ∙ sym (ap (λ (r : Option NodePayload). option_map_or (with_payload (contents_in payloads old)) r (contents_in payloads old)) read);
  lengths_are = lengths_are;
}

pub took_none : (payloads : List (List ℕ)) (contents : ContentsLocations) (lengths : List ℕ) (bytes : List ℕ) → IsContents payloads contents → node_payload_in bytes ≡ None → map length (texts_in payloads contents.texts) ≡ lengths → TookUp payloads contents contents lengths bytes
unfolding after_payload
took_none payloads contents lengths bytes are read lengths_are = record {
  are = are;
  is = sym (ap (λ (r : Option NodePayload). option_map_or (with_payload (contents_in payloads contents)) r (contents_in payloads contents)) read);
  lengths_are = lengths_are;
}

pub alone : (contents : Contents) (draft : Draft) (taken : Bool) → taken ≡ is_draft contents draft → (if taken then with_draft contents draft else contents) ≡ with_payload contents (DraftAlone draft)
unfolding with_payload
alone contents draft taken e = ap (λ (t : Bool). if t then with_draft contents draft else contents) e

-- the contents of one payload more
pub contents_more : (payloads : List (List ℕ)) (i : ℕ) → i < length payloads → contents_of (take (i + 1) payloads) ≡ after_payload (contents_of (take i payloads)) (payload_at payloads i)
unfolding contents_of
contents_more payloads i l =
    let next : suc i ≡ i + 1 = omega arith in
    let grown : take (i + 1) payloads ≡ take i payloads ++ get_or payloads i [] ∷ [] = ap (λ (n : ℕ). take n payloads) (sym next) ∙ take-suc payloads i [] l in
    ap (fold after_payload empty_contents) grown ∙ fold_push after_payload empty_contents (take i payloads) (get_or payloads i [])
