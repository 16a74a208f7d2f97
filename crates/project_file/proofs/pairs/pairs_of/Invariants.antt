-- The invariant of the loop of `pairs_of`: the dependencies so far and those of the remaining tables are those of all
-- tables, with the same fault if there is one.
use Rattle.std.proofs.Common.{◌≡◌, ◌++◌, Ok, drop, map}
use Rattle.toml.specs.View.{table_view}
use Rattle.project_file.specs.Csv.{then_read}
use Rattle.project_file.specs.Toml.{pairs_of}
use Rattle.project_file.proofs.pairs.pairs_of.Given as goal

abbrev pub invariant-loop-i : goal.invariant-loop-i
invariant-loop-i l = then_read (pairs_of l.files (map (λ t. table_view t.now) (drop l.i l.tables))) (λ more. Ok (l.pairs ++ more)) ≡ pairs_of l.files (map (λ t. table_view t.now) l.tables)
