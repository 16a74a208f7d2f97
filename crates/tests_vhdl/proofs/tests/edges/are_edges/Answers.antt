-- What remains to be proved of `are_edges`.
use Rattle.std.proofs.Common.{sym, subst}
use Rattle.order.specs.BuildOrder.{AreEdges}
use Rattle.tests_vhdl.proofs.EdgeLists.{edges_when, deps_when}
use Rattle.tests_vhdl.proofs.tests.edges.are_edges.Goals as goal

pub returns : goal.returns
returns c = (
  λ all. subst AreEdges c.as_slice-edges.ensures (edges_when c.as_slice-edges.result.now c.if-edges-gt-FILE_LIMIT.false (c.are_all_deps.ensures.0 all)),
  λ are. let here : AreEdges c.as_slice-edges.result.now = subst AreEdges (sym c.as_slice-edges.ensures) are in c.are_all_deps.ensures.1 (λ file lt. deps_when c.as_slice-edges.result.now here file),
)
