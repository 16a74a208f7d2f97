-- The line ends at the first line feed.
use Rattle.std.proofs.Common.{sym}
use Rattle.outside.specs.Streams.{is_line_feed}
use Rattle.outside.proofs.LineLengths.{first_found, none_found}
use Rattle.outside.proofs.lines.line_length.Goals as goal

pub returns-in-Some-clause-length : goal.returns-in-Some-clause-length
returns-in-Some-clause-length c = first_found is_line_feed c.args.bytes.now c.in-Some.at (sym c.in-Some.ensures)

pub returns-in-None-clause-length : goal.returns-in-None-clause-length
returns-in-None-clause-length c = none_found is_line_feed c.args.bytes.now (sym c.in-None.ensures)
