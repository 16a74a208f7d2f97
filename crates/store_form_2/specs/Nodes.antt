-- Nodes: files whose texts and dependencies are numbers, and the views that they unfold to.
use Rattle.std.specs.Prelude.{◌≡◌, ℕ, ◌<◌, List, [], length, map, All, slice_index_or}
use Rattle.base.specs.declared.file.FileName.{FileName}
use Rattle.base.specs.declared.graph.Entry.{Entry}
use Rattle.base.specs.Graphs.{IsGraph}
use Rattle.base.specs.View.{view}

-- A file: its name, the words of its compiler, the number of its text, and the numbers of the nodes of all files that it
-- depends on, in view order.
pub record Node : Type 0 where
  pub name : FileName
  pub command : List (List ℕ)
  pub text : ℕ
  pub deps : List ℕ

-- the text of a number
abbrev pub numbered_text : List (List ℕ) → ℕ → List ℕ
numbered_text texts number = slice_index_or texts number []

-- a node as a file whose dependencies are numbers of nodes
abbrev pub node_file : List (List ℕ) → Node → Entry
node_file texts node = record { name = node.name; command = node.command; text = numbered_text texts node.text; deps = node.deps }

-- all nodes as files
unfoldable pub node_files : List (List ℕ) → List Node → List Entry
node_files texts nodes = map (node_file texts) nodes

-- the view that the node of a number stands for
abbrev pub unfolded : List (List ℕ) → List Node → ℕ → List Entry
unfolded texts nodes number = view (node_files texts nodes) number

-- no item occurs twice
abbrev pub AreOnce : {X : Type 0} → List X → Type 0
AreOnce {X} xs = (i j : ℕ) (other : X) → i < length xs → j < length xs → slice_index_or xs i other ≡ slice_index_or xs j other → i ≡ j

-- a node of a number: its text is there, its dependencies have lower numbers, and it unfolds to a view
pub record IsNodeAt (texts : List (List ℕ)) (nodes : List Node) (number : ℕ) (node : Node) : Type 0 where
  pub text : node.text < length texts
  pub before : All (λ dep. dep < number) node.deps
  pub unfolds : IsGraph (unfolded texts nodes number)

-- texts and nodes, each once
pub record AreNodes (texts : List (List ℕ)) (nodes : List Node) : Type 0 where
  pub texts_once : AreOnce texts
  pub nodes_once : AreOnce nodes
  pub each : (number : ℕ) (other : Node) → number < length nodes → IsNodeAt texts nodes number (slice_index_or nodes number other)
