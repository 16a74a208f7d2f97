-- What remains to be proved of `none_taken`.
use Rattle.std.proofs.Common.{[]}
use Rattle.order.specs.BuildOrder.{has_taken}
use Rattle.order.proofs.Takes.{none_so_far}
use Rattle.order.proofs.untaken.none_taken.Goals as goal

pub add_files-requires-clause-left : goal.add_files-requires-clause-left
add_files-requires-clause-left c =
    none_so_far c.in_ok-left.left c.as_slice-edges.result.now c.in_ok-waiting.waiting.items (c.in_ok-waiting.ensures.items_if_clones_equal (λ y same. same)) (c.in_ok-left.ensures.waits (has_taken []))
