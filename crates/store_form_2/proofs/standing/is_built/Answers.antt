use Rattle.store_form_2.proofs.LatestNodes.{built_none, built_some}
use Rattle.store_form_2.proofs.NodeNames.{name_fingerprint}
use Rattle.store_form_2.proofs.standing.is_built.Goals as goal

pub returns-in-Some : goal.returns-in-Some
returns-in-Some c records of =
    built_some c.args.table.now c.args.names.now.fingerprints c.args.nodes.now c.requires.rows records of c.args.node c.row.result.now.name
    (name_fingerprint c.args.table.now c.args.node c.row.result.now c.row.ensures.node c.row.ensures.in_table) c.in-Some.last c.in-Some.ensures

pub returns-in-None : goal.returns-in-None
returns-in-None c records of =
    built_none c.args.table.now c.args.names.now.fingerprints c.args.nodes.now c.requires.rows records of c.args.node c.row.result.now.name
    (name_fingerprint c.args.table.now c.args.node c.row.result.now c.row.ensures.node c.row.ensures.in_table) c.in-None.ensures
