-- By the index of the name.
use Rattle.std.proofs.Common.{◌∙◌, Some, None, sym}
use Rattle.vhdl_graph.proofs.RowLemmas.{package_of}
use Rattle.vhdl_graph.proofs.refs.is_package.Goals as goal

pub returns-in-Some : goal.returns-in-Some
returns-in-Some c files units is = package_of units c.args.key.now (Some c.in-Some.unit_index) is.distinct (sym c.in-Some.is ∙ (c.find_unit.ensures ∙ is.holds c.args.key.now))

pub returns-in-None : goal.returns-in-None
returns-in-None c files units is = package_of units c.args.key.now None is.distinct (sym c.in-None.is ∙ (c.find_unit.ensures ∙ is.holds c.args.key.now))
