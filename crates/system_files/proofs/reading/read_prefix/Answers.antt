use Rattle.std.proofs.Common.{rules, length, ◌-◌}
use Rattle.system_files.proofs.Prefixes.{IsPrefix-cut}
use Rattle.system_files.proofs.reading.read_prefix.Goals as goal

pub returns-then-count-room-clause-prefix : goal.returns-then-count-room-clause-prefix
returns-then-count-room-clause-prefix g c =
    IsPrefix-cut _ _ _ c.loop.kept.items c.read_some.new.buffer _ c.args.limit (c.args.limit - length c.loop.kept.items) c.in_ok-count.count
    c.loop.invariant.2 c.in_ok-count.ensures.given (search rules) (search rules) (search rules) (search rules)
