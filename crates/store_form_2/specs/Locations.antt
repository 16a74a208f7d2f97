-- Texts, nodes and records as locations in payloads.
use Rattle.std.specs.Prelude.{◌≡◌, ◌≢◌, ℕ, ◌<◌, ◌≤◌, List, [], length, map, All, Option, Some, slice_get, slice_index, slice_index_or}
use Rattle.std.specs.Vec.{vec_len, vec_capacity}
use Rattle.base.specs.declared.limits.TheConstants.{ARTEFACT_LIMIT}
use Rattle.store_form_2.specs.declared.kept_view.Record.{Record}
use Rattle.base_collections.specs.Indexes.{IsLastWith}
use Rattle.base_collections.specs.Fingerprints.{fingerprint_of}
use Rattle.store_form_2.specs.Nodes.{Node, unfolded}
use Rattle.store_form_2.specs.NodeContents.{Contents}
use Rattle.base_bytes.specs.Ranges.{ranged}
use Rattle.store_form_2.specs.Rows.{NodesByNumber}
use Rattle.store_form_2.specs.Fits.{blank_node}
use Rattle.store_form_2.specs.declared.texts.TextLocation.{TextLocation}
use Rattle.store_form_2.specs.declared.texts.TextLocations.{TextLocations}
use Rattle.store_form_2.specs.declared.records.RecordLocation.{RecordLocation}
use Rattle.store_form_2.specs.declared.records.RecordLocations.{RecordLocations}
use Rattle.store_form_2.specs.declared.contents.ContentsLocations.{ContentsLocations}

-- payloads in order
pub record SegmentList : Type 0 where
  pub payloads : List (List ℕ)

-- the payload of a number; no bytes where no payload has it
abbrev pub payload_at : List (List ℕ) → ℕ → List ℕ
payload_at payloads number = slice_index_or payloads number []

-- the text at a span of a payload
abbrev pub text_in : List (List ℕ) → TextLocation → List ℕ
text_in payloads location = ranged (payload_at payloads location.payload) location.span

-- the texts at all locations, in the order of their numbers
abbrev pub texts_in : List (List ℕ) → TextLocations → List (List ℕ)
texts_in payloads texts = map (text_in payloads) texts.locations.items

-- Texts are in payloads that are there, and have their fingerprints.
pub record AreTexts (payloads : List (List ℕ)) (texts : TextLocations) : Type 0 where
  pub located : All (λ location. location.payload < length payloads) texts.locations.items
  pub fingerprinted : texts.fingerprints.fingerprints ≡ map fingerprint_of (texts_in payloads texts)

-- the artefact of a record, at its span of a payload
abbrev pub artefact_in : List (List ℕ) → RecordLocation → List ℕ
artefact_in payloads location = ranged (payload_at payloads location.payload) location.artefact

-- the record of a location: the view that its node unfolds to, and its artefact
abbrev pub record_in : List (List ℕ) → List (List ℕ) → List Node → RecordLocation → Record
record_in payloads texts nodes location = record { view = unfolded texts nodes location.node; artefact = artefact_in payloads location }

-- what locations stand for
abbrev pub contents_in : List (List ℕ) → ContentsLocations → Contents
contents_in payloads contents = record { texts = texts_in payloads contents.texts; nodes = contents.table.nodes; records = map (record_in payloads (texts_in payloads contents.texts) contents.table.nodes) contents.records.locations.items }

-- A record has a node and a payload that are there, and a small artefact.
pub record IsKeptIn (payloads : List (List ℕ)) (nodes : List Node) (location : RecordLocation) : Type 0 where
  pub node : location.node < length nodes
  pub payload : location.payload < length payloads
  pub small : length (artefact_in payloads location) ≤ ARTEFACT_LIMIT

-- Records have their nodes, and the numbers of the names of these.
pub record AreRecords (payloads : List (List ℕ)) (table : NodesByNumber) (records : RecordLocations) : Type 0 where
  pub kept : All (IsKeptIn payloads table.nodes) records.locations.items
  pub as_many : length records.names.fingerprints ≡ length records.locations.items
  pub named : (k : ℕ) (other : RecordLocation) → k < length records.locations.items → slice_get table.names (slice_index records.names.fingerprints k) ≡ Some (slice_index_or table.nodes (slice_index_or records.locations.items k other).node blank_node).name

-- Locations are in payloads that are there.
pub record IsContents (payloads : List (List ℕ)) (contents : ContentsLocations) : Type 0 where
  pub texts : AreTexts payloads contents.texts
  pub records : AreRecords payloads contents.table contents.records

-- No text from a bound on is a text; below it a candidate is the last one of its fingerprint.
pub record IsUpTo (texts : List (List ℕ)) (fingerprints : List ℕ) (text : List ℕ) (candidate : Option ℕ) : Type 0 where
  pub bound : ℕ
  pub within : bound ≤ length fingerprints
  pub last : IsLastWith fingerprints (fingerprint_of text) bound candidate
  pub others : (k : ℕ) → bound ≤ k → k < length texts → slice_index_or texts k [] ≢ text

-- there is room for one more text, and for its fingerprint
pub record HasTextRoom (texts : TextLocations) : Type 0 where
  pub location : vec_len texts.locations < vec_capacity texts.locations
  pub fingerprint : 0 < texts.fingerprints.room

-- there is room for one more record, and for the number of its name
pub record HasRecordRoom (records : RecordLocations) : Type 0 where
  pub location : vec_len records.locations < vec_capacity records.locations
  pub name : 0 < records.names.room
