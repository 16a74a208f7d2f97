-- What the loop of `put_runs` keeps: the texts of the runs so far are put.
use Rattle.std.proofs.Common.{◌≡◌, ◌++◌, take}
use Rattle.std.specs.List.{flat_map}
use Rattle.report.specs.TestTexts.{run_text}
use Rattle.report.proofs.texts.put_runs.Given as goal

abbrev pub invariant-loop-run : goal.invariant-loop-run
invariant-loop-run l = l.out.items ≡ l.fn.out.items ++ flat_map (run_text l.verbose l.quiet) (take l.run-index l.runs)
