-- Records by the numbers of their nodes, in a table of nodes.
use Rattle.std.specs.Prelude.{◌≡◌, ◌≢◌, ℕ, ◌+◌, ◌<◌, ◌++◌, Bool, List, [], ◌∷◌, length, map, drop, slice_get, slice_index, slice_index_or, All, AllPairs, Option, Some, if◌then◌else◌}
use Rattle.std.specs.List.{list_any}
use Rattle.base.specs.Names.{is_same_name}
use Rattle.outside.specs.Records.{Record}
use Rattle.store_form_2.specs.Nodes.{Node}
use Rattle.store_form_2.specs.Rows.{NodesByNumber}
use Rattle.store_form_2.specs.ByNumber.{NodeRecord, named_by, node_request}

-- The nodes of records are in a table, and each record has the number of the name of its node.
pub record AreRecordRows (table : NodesByNumber) (fingerprints numbers : List ℕ) : Type 0 where
  pub once : AllPairs (λ a b. a ≢ b) table.names
  pub closed : All (λ node. All (λ dep. dep < length table.nodes) node.deps) table.nodes
  pub there : All (λ number. number < length table.nodes) numbers
  pub as_many : length fingerprints ≡ length numbers
  pub named : (k : ℕ) → k < length numbers → slice_get table.names (slice_index fingerprints k) ≡ Some (named_by table.nodes (slice_index numbers k))

-- records of nodes of these numbers
abbrev pub AreOfNodes : List ℕ → List NodeRecord → Type 0
AreOfNodes numbers records = map (λ kept. kept.node) records ≡ numbers

-- a record after that of a location is of a node of the same name
abbrev pub has_later : List Node → List NodeRecord → ℕ → ℕ → Bool
has_later nodes records location node = list_any (λ kept. is_same_name (named_by nodes kept.node) (named_by nodes node)) (drop (location + 1) records)

-- a record of node 0 without an artefact, for a number that no record has
abbrev pub no_record : NodeRecord
no_record = record { node = 0; artefact = [] }

-- the request for the record of a number
abbrev pub row_request : List (List ℕ) → List Node → List NodeRecord → ℕ → Option Record
row_request texts nodes records row = node_request texts nodes records (slice_index_or records row no_record)

-- rows with one more, where it is current
abbrev pub with_row : List ℕ → ℕ → Bool → List ℕ
with_row rows row current = if current then rows ++ row ∷ [] else rows
