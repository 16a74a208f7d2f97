-- Payloads with more behind them.
use Rattle.std.proofs.Common.{◌≡◌, ℕ, ◌<◌, List, length, map, get_or, Some, sym, ap, subst, ◌∙◌}
use Rattle.std.specs.Prelude.{All, slice_get}
use Rattle.base.specs.declared.file.FileName.{FileName}
use Rattle.store_form_2.specs.declared.kept_view.Record.{Record}
use Rattle.base_collections.specs.Fingerprints.{fingerprint_of}
use Rattle.store_form_2.specs.Nodes.{Node}
use Rattle.store_form_2.specs.NodeContents.{Contents}
use Rattle.store_form_2.specs.Fits.{blank_node}
use Rattle.store_form_2.specs.declared.records.RecordLocation.{RecordLocation}
use Rattle.store_form_2.specs.declared.contents.ContentsLocations.{ContentsLocations}
use Rattle.store_form_2.specs.declared.texts.TextLocation.{TextLocation}
use Rattle.store_form_2.specs.Locations.{IsKeptIn, IsContents, record_in, contents_in, text_in, texts_in}

contents_with : List (List ℕ) → List Node → List Record → Contents
contents_with texts nodes records = record { texts = texts; nodes = nodes; records = records }

-- with other room the contents is the same
pub still_parts : (payloads : List (List ℕ)) (old new : ContentsLocations) → new.texts.locations.items ≡ old.texts.locations.items → new.texts.fingerprints.fingerprints ≡ old.texts.fingerprints.fingerprints → new.table.names ≡ old.table.names → new.table.nodes ≡ old.table.nodes → new.records.locations.items ≡ old.records.locations.items → new.records.names.fingerprints ≡ old.records.names.fingerprints → IsContents payloads old → IsContents payloads new
still_parts payloads old new locations fingerprints names nodes records kept_names are = record {
  texts = record {
    located = subst (All (λ (p : TextLocation). p.payload < length payloads)) (sym locations) are.texts.located;
    fingerprinted = fingerprints ∙ are.texts.fingerprinted ∙ ap (λ (ps : List TextLocation). map fingerprint_of (map (text_in payloads) ps)) (sym locations);
  };
  records = record {
    kept = subst (λ (ns : List Node). All (IsKeptIn payloads ns) new.records.locations.items) (sym nodes) (subst (All (IsKeptIn payloads old.table.nodes)) (sym records) are.records.kept);
    as_many = ap length kept_names ∙ are.records.as_many ∙ sym (ap length records);
    named = λ k other l.
        let low : k < length old.records.locations.items = subst (λ (ps : List RecordLocation). k < length ps) records l in
        ap (λ (ms : List ℕ). slice_get new.table.names (get_or ms k 0)) kept_names
        ∙ ap (λ (ns : List FileName). slice_get ns (get_or old.records.names.fingerprints k 0)) names
        ∙ are.records.named k other low
        ∙ ap (λ (ps : List RecordLocation). Some (get_or old.table.nodes (get_or ps k other).node blank_node).name) (sym records)
        ∙ ap (λ (ns : List Node). Some (get_or ns (get_or new.records.locations.items k other).node blank_node).name) (sym nodes);
  };
}

pub same_parts : (payloads : List (List ℕ)) (old new : ContentsLocations) → new.texts.locations.items ≡ old.texts.locations.items → new.table.nodes ≡ old.table.nodes → new.records.locations.items ≡ old.records.locations.items → contents_in payloads new ≡ contents_in payloads old
unfolding contents_with
same_parts payloads old new locations nodes records =
    ap (λ (ps : List TextLocation). contents_with (map (text_in payloads) ps) new.table.nodes (map (record_in payloads (map (text_in payloads) ps) new.table.nodes) new.records.locations.items)) locations
    ∙ ap (λ (ns : List Node). contents_with (texts_in payloads old.texts) ns (map (record_in payloads (texts_in payloads old.texts) ns) new.records.locations.items)) nodes
    ∙ ap (λ (ps : List RecordLocation). contents_with (texts_in payloads old.texts) old.table.nodes (map (record_in payloads (texts_in payloads old.texts) old.table.nodes) ps)) records
