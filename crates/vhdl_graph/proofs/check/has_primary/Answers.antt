-- By its key.
use Rattle.std.proofs.Common.{◌∙◌, ap}
use Rattle.std.specs.List.{list_any}
use Rattle.vhdl_graph.specs.Keys.{DesignUnitKey, is_same_key, key_of}
use Rattle.vhdl_graph.proofs.MeaningLemmas.{primary_any}
use Rattle.vhdl_graph.proofs.check.has_primary.Goals as goal

pub returns : goal.returns
returns c units holds = c.has_unit.ensures units holds ∙ (ap (λ (k : DesignUnitKey). list_any (λ u. is_same_key k (key_of u)) units) c.requires.key ∙ primary_any c.args._library.now c.args._name.now units)
