use Rattle.std.proofs.Common.{ap, ◌∙◌, subst}
use Rattle.std.specs.Prelude.{IfOk}
use Rattle.base_collections.specs.Numbers.{IsNumbered}
use Rattle.store_form_2.specs.Rows.{NodesByNumber, words_of}
use Rattle.store_form_2.proofs.Nodes.{grown_by, more_commands, rows_still, words_grown, words_more, words_once}
use Rattle.store_form_2.proofs.table.NodeTable.add_command.Goals as goal

pub invariant_of-self : goal.invariant_of-self
invariant_of-self c =
    let inside = c.self.inside in
    let old = inside.commands.keys in
    let new = c.add.new.self.keys in
    let grown = words_more old new c.args.words (grown_by old new (record { words = c.args.words }) c.add.result c.add.ensures.ok c.add.ensures.err) in
    record {
      names_once = c.self.invariant.names_once;
      commands_once = words_once new c.add.ensures.once;
      rows_in = rows_still inside.names.keys (words_of old) (words_of new) c.args.words inside.rows.keys c.self.invariant.rows_in grown;
    }

pub returns-clause-ok : goal.returns-clause-ok
returns-clause-ok c =
    let old = c.self.inside.commands.keys in
    let new = c.add.new.self.keys in
    subst (λ (s : NodesByNumber). IfOk c.add.result (λ number. IsNumbered c.args.words number s.commands (words_of new))) c.self.view_is (words_grown old new c.args.words c.add.result c.add.ensures.ok)

pub returns-clause-nodes : goal.returns-clause-nodes
returns-clause-nodes c =
    let inside = c.self.inside in
    let old = inside.commands.keys in
    let new = c.add.new.self.keys in
    more_commands inside.names.keys (words_of old) (words_of new) c.args.words inside.rows.keys c.self.invariant.rows_in
    (words_more old new c.args.words (grown_by old new (record { words = c.args.words }) c.add.result c.add.ensures.ok c.add.ensures.err))
    ∙ ap (λ (s : NodesByNumber). s.nodes) c.self.view_is
