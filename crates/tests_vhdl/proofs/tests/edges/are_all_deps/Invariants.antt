-- What the loop of `are_all_deps` keeps: the lists so far are such.
use Rattle.std.proofs.Common.{ℕ, ◌<◌, length}
use Rattle.order.specs.BuildOrder.{deps_in}
use Rattle.tests_vhdl.specs.Deps.{AreDeps}
use Rattle.tests_vhdl.proofs.tests.edges.are_all_deps.Given as goal

abbrev pub invariant-loop-file : goal.invariant-loop-file
invariant-loop-file l = (k : ℕ) → k < l.file → AreDeps (length l.edges) k (deps_in l.edges k)
