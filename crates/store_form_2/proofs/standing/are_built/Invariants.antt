use Rattle.std.proofs.Common.{◌≡◌, ℕ, ◌<◌, true, List, get_or}
use Rattle.std.specs.Prelude.{is_some}
use Rattle.store_form_2.specs.ByNumber.{NodeRecord, built_node}
use Rattle.store_form_2.specs.NodeRows.{AreOfNodes}
use Rattle.store_form_2.proofs.standing.are_built.Given as goal

abbrev pub invariant-loop-k : goal.invariant-loop-k
invariant-loop-k l = (j : ℕ) → j < l.k → (records : List NodeRecord) → AreOfNodes l.nodes records → is_some (built_node l.table.nodes records (get_or l.deps j 0)) ≡ true
