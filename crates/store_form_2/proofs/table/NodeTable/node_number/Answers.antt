use Rattle.std.proofs.Common.{subst, sym}
use Rattle.base_collections.specs.Numbers.{IsIndexOf}
use Rattle.store_form_2.specs.Rows.{IsRowIn, NodesByNumber, node_in, words_of}
use Rattle.store_form_2.proofs.Nodes.{node_location}
use Rattle.store_form_2.proofs.table.NodeTable.node_number.Goals as goal

pub returns : goal.returns
returns c =
    let inside = c.self.inside in
    let row = c.args.row.now in
    let in_row = subst (λ (s : NodesByNumber). IsRowIn s.names s.commands row) (sym c.self.view_is) (record { name = c.requires.name; command = c.requires.command }) in
    subst (λ (s : NodesByNumber). IsIndexOf s.nodes (node_in s row) c.number.result) c.self.view_is
    (node_location inside.names.keys (words_of inside.commands.keys) inside.rows.keys row c.number.result c.self.invariant.names_once c.self.invariant.commands_once c.self.invariant.rows_in in_row c.number.ensures)
