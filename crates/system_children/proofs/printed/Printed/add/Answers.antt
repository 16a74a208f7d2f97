use Rattle.std.proofs.Common.{rules, ◌≡◌, ◌≤◌, ◌<◌, ◌-◌, ◌++◌, take, length}
use Rattle.base.specs.declared.limits.TheConstants.{ARTEFACT_LIMIT}
use Rattle.system_children.proofs.PrintedLemmas.{grows_whole, grows_cut}
use Rattle.system_children.proofs.printed.Printed.add.Goals as goal

pub returns-in_ok-extend_from_slice : goal.returns-in_ok-extend_from_slice
returns-in_ok-extend_from_slice c before p =
    let fits : length c.args.bytes.now ≤ ARTEFACT_LIMIT - length c.args.self.now.kept.items = search rules in
    let is : c.extend_from_slice.new.self.items ≡ c.args.self.now.kept.items ++ c.args.bytes.now = search rules in
    grows_whole ARTEFACT_LIMIT before c.args.bytes.now c.args.self.now.kept.items c.extend_from_slice.new.self.items c.args.self.now.more fits is p

pub returns-in_ok-extend_from_slice-2 : goal.returns-in_ok-extend_from_slice-2
returns-in_ok-extend_from_slice-2 c before p =
    let past : ARTEFACT_LIMIT - length c.args.self.now.kept.items < length c.args.bytes.now = search rules in
    let is : c.extend_from_slice-else-bytes-room.new.self.items ≡ c.args.self.now.kept.items ++ take (ARTEFACT_LIMIT - length c.args.self.now.kept.items) c.args.bytes.now = search rules in
    grows_cut ARTEFACT_LIMIT before c.args.bytes.now c.args.self.now.kept.items c.extend_from_slice-else-bytes-room.new.self.items c.args.self.now.more past is p
