-- Records of requests that stand for the records of a contents of nodes, and the payloads that keep them.
use Rattle.std.specs.Prelude.{◌≡◌, ◌≢◌, ℕ, ◌≤◌, ◌<◌, List, [], length, map, take, slice_index_or, All, AllPairs, Option, Some}
use Rattle.std.specs.Option.{option_map}
use Rattle.base.specs.declared.graph.Entry.{Entry}
use Rattle.base.specs.declared.limits.TheConstants.{ARTEFACT_LIMIT, FILE_LIMIT, TEXT_LIMIT}
use Rattle.base.specs.Names.{FitsCommand, FitsName}
use Rattle.outside.specs.Records.{Record, built_of_record, latest}
use Rattle.store_form_2.specs.NodeContents.{contents_of as node_contents_of}
use Rattle.store_form_2.specs.declared.records.RecordLocation.{RecordLocation}
use Rattle.store_form_2.specs.declared.contents.ContentsLocations.{ContentsLocations}
use Rattle.store_form_2.specs.Locations.{artefact_in, texts_in}
use Rattle.store_codec.specs.Compaction.{compacted_requests}
use Rattle.store_form_2.specs.ByNumber.{NodeRecord}
use Rattle.store_form_2.specs.NodeRows.{row_request}
use Rattle.store_form_2.specs.Migrating.{migrated_requests}

-- a file that depends on none
abbrev pub alone : Entry → Entry
alone entry = record { name = entry.name; command = entry.command; text = entry.text; deps = [] }

-- the record of a location: its node and its artefact
abbrev pub record_at_location : List (List ℕ) → RecordLocation → NodeRecord
record_at_location payloads location = record { node = location.node; artefact = artefact_in payloads location }

-- the records of all locations, in order
abbrev pub node_records : List (List ℕ) → ContentsLocations → List NodeRecord
node_records payloads contents = map (record_at_location payloads) contents.records.locations.items

-- the request that stands for the record of a number, if one does
abbrev pub request_at : List (List ℕ) → ContentsLocations → ℕ → Option Record
request_at payloads contents number = row_request (texts_in payloads contents.texts) contents.table.nodes (node_records payloads contents) number

-- A record can follow these records. Its parts are within their size limits. The files below it have distinct names other than
-- its own. Each of them was built by the latest record of its name.
pub record IsNext (records : List Record) (new : Record) : Type 0 where
  pub name : FitsName new.asked.name
  pub command : FitsCommand new.asked.command
  pub text : length new.asked.text ≤ TEXT_LIMIT
  pub artefact : length new.artefact ≤ ARTEFACT_LIMIT
  pub few : length new.asked.below < FILE_LIMIT
  pub apart : AllPairs (λ a b. a.name ≢ b.name) new.asked.below
  pub others : All (λ other. other.name ≢ new.asked.name) new.asked.below
  pub built : All (λ file. option_map built_of_record (latest file.name records) ≡ Some file) new.asked.below

-- each record can stand behind those before it
abbrev pub AreEachNext : List Record → Type 0
AreEachNext records = (k : ℕ) (other : Record) → k < length records → IsNext (take k records) (slice_index_or records k other)

-- the payloads that take the location of those of the earlier form
abbrev pub taken_payloads : List (List ℕ) → List (List ℕ)
taken_payloads payloads = compacted_requests (migrated_requests (node_contents_of payloads).records)
