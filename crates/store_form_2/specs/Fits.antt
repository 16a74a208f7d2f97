-- What is tested of a new row of a table of nodes.
use Rattle.std.specs.Prelude.{◌≡◌, ◌≢◌, ◌↔◌, AllPairs, sum_by, ◌⊎◌, ℕ, ◌+◌, ◌<◌, ◌≤◌, ◌++◌, All, Contains, Bool, true, List, [], length, map, slice_index, slice_index_or}
use Rattle.base.specs.declared.graph.Entry.{Entry}
use Rattle.base.specs.declared.limits.TheConstants.{FILE_LIMIT, GRAPH_TEXT_LIMIT, TEXT_LIMIT}
use Rattle.base.specs.Names.{FitsCommand, FitsName}
use Rattle.base.specs.View.{rank_in}
use Rattle.store_form_2.specs.Fitting.{FitsNew, IsListed}
use Rattle.store_form_2.specs.Nodes.{AreNodes, Node, node_file, node_files, numbered_text}
use Rattle.store_form_2.specs.declared.rows.Row.{Row}
use Rattle.store_form_2.specs.Rows.{NodesByNumber, no_name, node_in}

-- a row of zeros without dependencies, for a number that no row has
abbrev pub blank_row : Row
blank_row = record { name = 0; command = 0; text = 0; deps = [] }

-- a node whose parts are all empty, for a number that no node has
abbrev pub blank_node : Node
blank_node = record { name = no_name; command = []; text = 0; deps = [] }

-- the number of the name of a row
abbrev pub name_at : List Row → ℕ → ℕ
name_at rows number = (slice_index_or rows number blank_row).name

-- what a node depends on
abbrev pub deps_at : List Node → ℕ → List ℕ
deps_at nodes number = (slice_index_or nodes number blank_node).deps

-- the length of the text of a node
abbrev pub length_at : List Node → List ℕ → ℕ → ℕ
length_at nodes lengths number = slice_index lengths (slice_index_or nodes number blank_node).text

-- the dependencies of each dependency are in the list before it, in the same order
abbrev pub AreListed : List Node → List ℕ → Type 0
AreListed nodes deps = (k : ℕ) → k < length deps → IsListed deps k (deps_at nodes (slice_index deps k))

-- Some texts make these nodes, each once.
pub record AreSomeNodes (nodes : List Node) : Type 0 where
  pub texts : List (List ℕ)
  pub are : AreNodes texts nodes

-- Some texts of these lengths make these nodes, each once.
pub record HaveTexts (lengths : List ℕ) (nodes : List Node) : Type 0 where
  pub texts : List (List ℕ)
  pub lengths_are : map length texts ≡ lengths
  pub are : AreNodes texts nodes

-- A new row fits, whatever the texts of these lengths are, exactly where this is true.
abbrev pub TellsFit : List ℕ → NodesByNumber → Row → ℕ → Bool → Type 0
TellsFit lengths table row own fits = (texts more : List (List ℕ)) (other : Entry) → AreNodes texts table.nodes → map length texts ≡ lengths → length (numbered_text (texts ++ more) row.text) ≡ own → (fits ≡ true) ↔ FitsNew (node_files texts table.nodes) (node_file (texts ++ more) (node_in table row)) other

-- The first numbers of a list have places among others, rising and below a count; the next one is to be at a least location.
pub record AreLocated (deps : List ℕ) (count : ℕ) (inner : List ℕ) (done least : ℕ) : Type 0 where
  pub rising : (j : ℕ) → j + 1 < done → rank_in deps (slice_index inner j) < rank_in deps (slice_index inner (j + 1))
  pub before : (j : ℕ) → j < done → rank_in deps (slice_index inner j) < count
  pub none : done ≡ 0 → least ≡ 0
  pub next : (j : ℕ) → j + 1 ≡ done → rank_in deps (slice_index inner j) + 1 ≡ least

-- Numbers that were there, or are in a list.
abbrev pub AreFrom : List ℕ → List ℕ → List ℕ → Type 0
AreFrom old inner new = All (λ number. Contains old number ⊎ Contains inner number) new

-- Each of the last dependencies is listed as it lists its own, and covered numbers are listed by one of these.
pub record AreDone (nodes : List Node) (deps : List ℕ) (covered : List ℕ) (left : ℕ) : Type 0 where
  pub listed : (k : ℕ) → left ≤ k → k < length deps → IsListed deps k (deps_at nodes (slice_index deps k))
  pub covers : All (λ number. (k : ℕ) × (left ≤ k) × (k < length deps) × Contains (deps_at nodes (slice_index deps k)) number) covered

-- The conditions on a new row whose text has the given length.
pub record FitsRow (lengths : List ℕ) (table : NodesByNumber) (row : Row) (own : ℕ) : Type 0 where
  pub few : length row.deps < FILE_LIMIT
  pub sizes : FitsName (node_in table row).name × (FitsCommand (node_in table row).command × (own ≤ TEXT_LIMIT))
  pub names : AllPairs (λ a b. a ≢ b) (map (name_at table.rows) row.deps) × (¬ Contains (map (name_at table.rows) row.deps) row.name)
  pub listed : AreListed table.nodes row.deps
  pub small : sum_by (length_at table.nodes lengths) row.deps + own ≤ GRAPH_TEXT_LIMIT
