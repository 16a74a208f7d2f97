-- The letters are those of all names.
use Rattle.std.proofs.Common.{◌∙◌, ap}
use Rattle.vhdl_graph.proofs.JoinedLemmas.{letters_are}
use Rattle.vhdl_graph.proofs.key.DesignUnitKeyHash.hash.Goals as goal

pub returns : goal.returns
returns g c = c.write.ensures ∙ ap (g.H.Hasher.write c.args.state.now) (c.as_slice.ensures.value ∙ letters_are c.self.inside.head c.self.inside.letters.items c.args.self.now c.self.view_is)
