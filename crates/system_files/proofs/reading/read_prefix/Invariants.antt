use Rattle.std.proofs.Common.{◌≡◌, ◌≤◌, length}
use Rattle.std.specs.Io.KnownBytes.{Consumes}
use Rattle.system_files.proofs.reading.read_prefix.Given as goal

-- all bytes read so far are kept, and there are at most `most`
abbrev pub invariant-loop : goal.invariant-loop
invariant-loop g l = (length l.kept.items ≤ l.most) × (length l.buffer ≡ length l.initial.buffer)
    × Consumes (g.R.Read.remaining l.initial.reader) (g.R.Read.remaining l.reader) l.kept.items
