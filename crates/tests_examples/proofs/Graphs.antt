-- The examples of "The graph", by computation.
use Rattle.std.proofs.Common.{arith, refl}
use Rattle.base.specs.PresentGraph.{below, listed_from}
use Rattle.base.specs.View.{part, viewed}
use Rattle.order.specs.BuildOrder.{file_order, first_free, first_untaken, repeated, taken_after, untaken_dep}
use Rattle.order.specs.LinkedGraph.{linked, reaches_within}
use Rattle.tests_examples.specs.Graphs.{ListedFiles, Orders, Views, Ways}

pub listed_files : ListedFiles
unfolding below listed_from
listed_files = record { before_third = refl; example = refl; edges = refl; edges_of_b = refl }

pub orders : Orders
unfolding below file_order first_free first_untaken repeated taken_after untaken_dep
orders = record { order = refl; none = refl; cycle = refl }

pub ways : Ways
unfolding below linked reaches_within
ways = record { reached = refl; not_back = refl; way = ((0, omega arith, refl), (0, omega arith, refl)); linked_files = refl }

pub views : Views
unfolding part viewed
views = record { third = refl; indices = refl; example = refl; number = refl }
