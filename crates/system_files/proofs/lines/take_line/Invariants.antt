use Rattle.std.proofs.Common.{◌≤◌, length}
use Rattle.std.specs.Io.KnownBytes.{prepend_known}
use Rattle.system_files.specs.Takes.{IsLinePart}
use Rattle.system_files.proofs.lines.take_line.Given as goal

-- a part of one line was taken, and no more of it is kept than may be
abbrev pub invariant-loop : goal.invariant-loop
invariant-loop g l = (length l.line.kept.items ≤ l.limit) × IsLinePart l.limit (prepend_known l.initial.buffered (g.R.Read.remaining l.initial.reader)) (prepend_known l.buffered (g.R.Read.remaining l.reader)) l.line.kept.items l.line.more
