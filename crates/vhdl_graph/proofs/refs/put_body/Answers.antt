-- By its key.
use Rattle.std.proofs.Common.{◌∙◌, ap}
use Rattle.vhdl_spec.specs.Dependencies.{is_body}
use Rattle.vhdl_graph.specs.Keys.{DesignUnitKey}
use Rattle.vhdl_graph.specs.Rows.{is_named_at, stands_at}
use Rattle.vhdl_graph.proofs.RowLemmas.{added_same}
use Rattle.vhdl_graph.proofs.MeaningLemmas.{body_at}
use Rattle.vhdl_graph.proofs.refs.put_body.Goals as goal

pub returns : goal.returns
returns c files units is =
    added_same (is_named_at units c.put_body_key.new.key) (stands_at (is_body c.args.library.now c.args.name.now) units) c.args.row.now c.put_named.new.row (c.put_named.ensures files units is)
    (λ at. ap (λ (k : DesignUnitKey). is_named_at units k at) c.in_ok-put_body_key.ensures ∙ body_at c.args.library.now c.args.name.now units at)
