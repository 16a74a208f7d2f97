-- The index of the name is that of the one unit of this name.
use Rattle.std.proofs.Common.{◌∙◌}
use Rattle.vhdl_graph.proofs.RowLemmas.{added_same, put_at}
use Rattle.vhdl_graph.proofs.rows.put_found.Goals as goal

pub returns : goal.returns
returns c files units is = added_same _ _ c.args.row.now c.put_index.new.row c.put_index.ensures (λ at. put_at units c.args._key.now c.args.unit_index at is.distinct (c.requires.unit_index ∙ is.holds c.args._key.now))
