-- So far those up to the index are there.
use Rattle.std.proofs.Common.{◌≡◌, ℕ, List, take}
use Rattle.vhdl_spec.specs.Dependencies.{is_one_of}
use Rattle.vhdl_graph.specs.Libraries.{knows}
use Rattle.vhdl_graph.proofs.libraries.names_of.Given as goal

abbrev pub invariant-loop-name : goal.invariant-loop-name
invariant-loop-name l = (other : List ℕ) → knows l.names other ≡ is_one_of (take l.name-index l.list) other
