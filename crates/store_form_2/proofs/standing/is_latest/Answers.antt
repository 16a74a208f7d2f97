use Rattle.std.proofs.Common.{get_or}
use Rattle.store_form_2.proofs.LatestNodes.{latest_is, latest_is_none}
use Rattle.store_form_2.proofs.NodeNames.{name_fingerprint}
use Rattle.store_form_2.proofs.standing.is_latest.Goals as goal

pub returns-in-Some : goal.returns-in-Some
returns-in-Some c records of =
    latest_is c.args.table.now c.args.names.now.fingerprints c.args.nodes.now c.requires.rows records of c.args.number c.requires.number c.row.result.now.name
    (name_fingerprint c.args.table.now (get_or c.args.nodes.now c.args.number 0) c.row.result.now c.row.ensures.node c.row.ensures.in_table) c.in-Some.last c.in-Some.ensures

pub returns-in-None : goal.returns-in-None
returns-in-None c records of =
    latest_is_none c.args.table.now c.args.names.now.fingerprints c.args.nodes.now c.requires.rows records of c.args.number c.requires.number c.row.result.now.name
    (name_fingerprint c.args.table.now (get_or c.args.nodes.now c.args.number 0) c.row.result.now c.row.ensures.node c.row.ensures.in_table) c.in-None.ensures
