use Rattle.std.proofs.Common.{◌<◌, length, get_or, sym, ap, subst, ◌∙◌}
use Rattle.std.specs.Prelude.{All, is_some}
use Rattle.std.specs.List.{list_all}
use Rattle.store_form_2.specs.ByNumber.{built_node}
use Rattle.store_form_2.proofs.NodeNames.{deps_of_row, deps_there}
use Rattle.store_form_2.proofs.standing.is_standing.Goals as goal

pub are_built-requires-clause-deps : goal.are_built-requires-clause-deps
are_built-requires-clause-deps c =
    subst (All (λ dep. dep < length c.args.table.now.nodes)) (sym c.as_slice.ensures)
    (deps_there c.args.table.now c.args.names.now.fingerprints c.args.nodes.now c.requires.rows (get_or c.args.nodes.now c.args.number 0) c.row-row.result.now c.row-row.ensures.node)

pub returns : goal.returns
returns c records of =
    c.are_built.ensures records of
    ∙ ap (list_all (λ dep. is_some (built_node c.args.table.now.nodes records dep))) (c.as_slice.ensures ∙ deps_of_row c.args.table.now (get_or c.args.nodes.now c.args.number 0) c.row-row.result.now c.row-row.ensures.node)
