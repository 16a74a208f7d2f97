-- A results text that is read line by line.
use Rattle.std.specs.Prelude.{ℕ, List, [], Option, Some, None}
use Rattle.std.specs.Borrow.{Bor}
use Rattle.testbench_runs.specs.Verdicts.{result_lines}

-- the lines of what comes after a line, if anything does
abbrev pub lines_of_rest : Option (Bor (List ℕ)) → List (List ℕ)
lines_of_rest None = []
lines_of_rest (Some rest) = result_lines rest.now

-- the bytes that are borrowed, if any are
abbrev pub seen : Option (Bor (List ℕ)) → Option (List ℕ)
seen None = None
seen (Some bytes) = Some bytes.now
