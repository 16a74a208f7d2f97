-- By its key.
use Rattle.std.proofs.Common.{◌∙◌, ap}
use Rattle.std.specs.List.{list_any}
use Rattle.vhdl_graph.specs.Keys.{DesignUnitKey, is_same_key, key_of}
use Rattle.vhdl_graph.proofs.MeaningLemmas.{architecture_any}
use Rattle.vhdl_graph.proofs.check.has_architecture.Goals as goal

pub returns : goal.returns
returns c units holds = c.has_unit.ensures units holds ∙ (ap (λ (k : DesignUnitKey). list_any (λ u. is_same_key k (key_of u)) units) c.in_ok-put_architecture_key.ensures ∙ architecture_any c.args.library.now c.args.entity.now c.args.name.now units)
