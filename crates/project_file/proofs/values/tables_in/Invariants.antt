-- What the loop of `tables_in` keeps: the tables so far, and what is read of the other values.
use Rattle.std.proofs.Common.{◌≡◌, ◌++◌, drop, map}
use Rattle.std.specs.Prelude.{option_map}
use Rattle.toml.specs.Data.{as_table}
use Rattle.toml.specs.View.{view}
use Rattle.project_file.specs.Toml.{all_read}
use Rattle.project_file.specs.Forms.{tables_view}
use Rattle.project_file.proofs.values.tables_in.Given as goal

abbrev pub invariant-loop-i : goal.invariant-loop-i
invariant-loop-i l = option_map (λ more. tables_view l.tables ++ more) (all_read as_table (map view (drop l.i l.values))) ≡ all_read as_table (map view l.values)
