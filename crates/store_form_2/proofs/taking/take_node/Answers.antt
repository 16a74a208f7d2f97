use Rattle.std.proofs.Common.{refl}
use Rattle.store_form_2.specs.Spans.{draft_in}
use Rattle.store_form_2.specs.Locations.{payload_at}
use Rattle.store_form_2.proofs.Shelved.{ok_took}
use Rattle.store_form_2.proofs.taking.take_node.Goals as goal

pub returns : goal.returns
returns c =
    let payloads = c.args.segments.now.payloads in
    ok_took payloads c.args.contents.now (record { table = c.take_draft.new.table; texts = c.take_draft.new.texts; records = c.args.contents.now.records }) c.take_draft.new.test (draft_in (payload_at payloads c.args.at) c.args.draft) c.take_draft.result
    (record { texts = c.requires.contents.texts; records = c.requires.contents.records })
    (record { texts_once = c.requires.nodes.texts_once; nodes_once = c.requires.nodes.nodes_once; each = c.requires.nodes.each })
    c.take_draft.ensures.took c.take_draft.ensures.names refl
