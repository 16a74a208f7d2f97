use Rattle.std.proofs.Common.{ap, ◌∙◌}
use Rattle.store_form_2.specs.Rows.{NodesByNumber, words_of}
use Rattle.store_form_2.proofs.Nodes.{grown_by, more_names}
use Rattle.store_form_2.proofs.table.NodeTable.add_name.Goals as goal

pub returns-clause-nodes : goal.returns-clause-nodes
returns-clause-nodes c =
    let inside = c.self.inside in
    more_names inside.names.keys c.add.new.self.keys c.args.name (words_of inside.commands.keys) inside.rows.keys c.self.invariant.rows_in
    (grown_by inside.names.keys c.add.new.self.keys c.args.name c.add.result c.add.ensures.ok c.add.ensures.err)
    ∙ ap (λ (s : NodesByNumber). s.nodes) c.self.view_is
