-- By the index of the name.
use Rattle.std.proofs.Common.{◌∙◌, Option, ap}
use Rattle.std.specs.Option.{is_some}
use Rattle.vhdl_graph.specs.declared.index.UnitIndex.{UnitIndex}
use Rattle.vhdl_graph.proofs.RowLemmas.{any_named}
use Rattle.vhdl_graph.proofs.check.has_unit.Goals as goal

pub returns : goal.returns
returns c units holds = c.is_some.ensures ∙ (ap (λ (o : Option UnitIndex). is_some o) (c.requires ∙ holds c.args._key.now) ∙ any_named units c.args._key.now)
