-- What remains to be proved of `add_dep`.
use Rattle.std.proofs.Common.{[], get_or}
use Rattle.std.proofs.lemmas.List.{get_or_default}
use Rattle.base_collections.specs.declared.set.PositionSet.{PositionSet}
use Rattle.project_graph.proofs.RowSteps.{row_joined}
use Rattle.project_graph.proofs.closures.add_dep.Goals as goal

pub returns : goal.returns
returns c at =
    let row : PositionSet = get_or c.args.rows.now c.args.rank (record { words = [] }) in
    row_joined c.args.row.now c.add_all.new.self c.insert.new.self row c.args.rows.now c.args.rank at c.insert.ensures.is c.insert.ensures.others c.add_all.ensures c.requires.rank
    (get_or_default c.args.rows.now c.args.rank (record { words = [] }) row c.requires.rank)
