-- A node of a table by its row: its name, and the nodes that it depends on.
use Rattle.std.proofs.Common.{◌≡◌, ℕ, suc, ◌<◌, Bool, true, List, [], ◌∷◌, length, get_or, Some, refl, sym, ap, subst, ◌∙◌, arith}
use Rattle.std.specs.Prelude.{All, slice_get}
use Rattle.std.specs.List.{list_all}
use Rattle.std.proofs.lemmas.Bool.{and_from}
use Rattle.std.proofs.lemmas.Option.{get_or_from_slice_get, slice_get-get_or, slice_get_within}
use Rattle.store_form_2.specs.Nodes.{Node}
use Rattle.store_form_2.specs.declared.rows.Row.{Row}
use Rattle.store_form_2.specs.Rows.{IsRowIn, NodesByNumber, no_name, node_in}
use Rattle.store_form_2.specs.ByNumber.{named_by, numbered_node, unnamed_node}
use Rattle.store_form_2.specs.NodeRows.{AreRecordRows}

-- the number of the name of a row is that of the name of its node
pub name_fingerprint : (table : NodesByNumber) (node : ℕ) (row : Row) → slice_get table.nodes node ≡ Some (node_in table row) → IsRowIn table.names table.commands row
    → slice_get table.names row.name ≡ Some (named_by table.nodes node)
name_fingerprint table node row is in_table =
    slice_get-get_or table.names row.name no_name in_table.name
    ∙ ap (λ (n : Node). Some n.name) (sym (get_or_from_slice_get table.nodes node (node_in table row) unnamed_node is))

pub deps_of_row : (table : NodesByNumber) (node : ℕ) (row : Row) → slice_get table.nodes node ≡ Some (node_in table row) → row.deps ≡ (numbered_node table.nodes node).deps
deps_of_row table node row is = ap (λ (n : Node). n.deps) (sym (get_or_from_slice_get table.nodes node (node_in table row) unnamed_node is))

pub deps_there : (table : NodesByNumber) (fingerprints numbers : List ℕ) → AreRecordRows table fingerprints numbers → (node : ℕ) (row : Row) → slice_get table.nodes node ≡ Some (node_in table row)
    → All (λ dep. dep < length table.nodes) row.deps
deps_there table fingerprints numbers are node row is =
    subst (λ (n : Node). All (λ dep. dep < length table.nodes) n.deps) (get_or_from_slice_get table.nodes node (node_in table row) unnamed_node is)
    (are.closed node unnamed_node (slice_get_within table.nodes node (node_in table row) is))

-- all pass where each does
pub all_pass : {X : Type 0} (p : X → Bool) (xs : List X) (d : X) → ((k : ℕ) → k < length xs → p (get_or xs k d) ≡ true) → list_all p xs ≡ true
all_pass p [] d each = refl
all_pass p (x ∷ xs) d each = and_from (p x) (list_all p xs) (each 0 (omega arith)) (all_pass p xs d (λ k l. each (suc k) (omega arith)))
