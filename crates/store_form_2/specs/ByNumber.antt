-- Requests for records of the views of nodes, by the numbers of the nodes: no view is made.
use Rattle.std.specs.Prelude.{ℕ, List, [], ◌∷◌, ◌==◌, map, slice_index_or, Option, Some, None, if◌then◌else◌}
use Rattle.std.specs.Option.{option_and_then, option_map, option_or}
use Rattle.base.specs.declared.file.FileName.{FileName}
use Rattle.base.specs.declared.graph.BuiltFile.{BuiltFile}
use Rattle.base.specs.Names.{is_same_name}
use Rattle.outside.specs.Records.{Record}
use Rattle.store_form_2.specs.declared.kept_view.Record.{Record as ViewRecord}
use Rattle.store_form_2.specs.Nodes.{Node, node_file, unfolded}
use Rattle.store_form_2.specs.Migrating.{each_of, request_over}

-- a record: the number of its node, and its artefact
pub record NodeRecord : Type 0 where
  pub node : ℕ
  pub artefact : List ℕ

-- a node whose parts are all empty, for a number that no node has
abbrev pub unnamed_node : Node
unnamed_node = record { name = record { library = []; path = [] }; command = []; text = 0; deps = [] }

-- the node of a number; the empty one where no node has it
abbrev pub numbered_node : List Node → ℕ → Node
numbered_node nodes number = slice_index_or nodes number unnamed_node

-- the name of the node of a number
abbrev pub named_by : List Node → ℕ → FileName
named_by nodes number = (numbered_node nodes number).name

-- the record as one of the view that its node stands for
abbrev pub unfolded_record : List (List ℕ) → List Node → NodeRecord → ViewRecord
unfolded_record texts nodes kept = record { view = unfolded texts nodes kept.node; artefact = kept.artefact }

-- the last record of a node that has a name
unfoldable pub latest_node_record : List Node → FileName → List NodeRecord → Option NodeRecord
latest_node_record nodes name [] = None
latest_node_record nodes name (first ∷ rest) = option_or (latest_node_record nodes name rest) (if is_same_name (named_by nodes first.node) name then Some first else None)

-- a node as a record built it, where that is one of this very node
abbrev pub built_where_node : List Node → ℕ → NodeRecord → Option BuiltFile
built_where_node nodes number kept = if kept.node == number then Some (record { name = named_by nodes number; artefact = kept.artefact }) else None

-- a node as the latest record of its name built it
unfoldable pub built_node : List Node → List NodeRecord → ℕ → Option BuiltFile
built_node nodes records number = option_and_then (built_where_node nodes number) (latest_node_record nodes (named_by nodes number) records)

-- the request for a record of a node: where the latest record of each node that it depends on is of that node
unfoldable pub node_request : List (List ℕ) → List Node → List NodeRecord → NodeRecord → Option Record
node_request texts nodes records kept =
    option_map (request_over (node_file texts (numbered_node nodes kept.node)) kept.artefact) (each_of (map (built_node nodes records) (numbered_node nodes kept.node).deps))
