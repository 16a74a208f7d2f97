-- The line ends at the first line feed.
use Rattle.std.proofs.Common.{ℕ, eqb, sym}
use Rattle.std.proofs.lemmas.List.{take_rest}
use Rattle.child_lines.proofs.Splits.{split_at_delimiter, split_no_delimiter}
use Rattle.child_lines.proofs.lines.next_line.Goals as goal

pub returns-in-None-clause-parts : goal.returns-in-None-clause-parts
returns-in-None-clause-parts c = split_no_delimiter (λ (byte : ℕ). eqb byte 10) c.args.bytes.now (sym c.in-None.ensures)

pub returns-in-Some-clause-parts : goal.returns-in-Some-clause-parts
returns-in-Some-clause-parts c = rw take_rest (split_at_delimiter (λ (byte : ℕ). eqb byte 10) c.args.bytes.now c.in-Some.at 0 (sym c.in-Some.ensures))
