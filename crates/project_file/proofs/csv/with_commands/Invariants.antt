-- What the loops of `with_commands` keep, and why they end.
use Rattle.std.proofs.Common.{◌≡◌, map}
use Rattle.project_file.specs.Csv.{listed_file}
use Rattle.project_file.proofs.csv.with_commands.Given as goal

abbrev pub invariant-loop-name : goal.invariant-loop-name
invariant-loop-name l = l.files ≡ map listed_file l.yielded
