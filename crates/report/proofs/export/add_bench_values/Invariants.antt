-- What the loop of `add_bench_values` keeps: a value was added for each case so far.
use Rattle.std.proofs.Common.{◌≡◌, ◌++◌, map, take}
use Rattle.serde_json.specs.View.{view}
use Rattle.report.specs.Export.{test_data}
use Rattle.report.proofs.export.add_bench_values.Given as goal

abbrev pub invariant-loop-i : goal.invariant-loop-i
invariant-loop-i l = map view l.values.items ≡ map view l.fn.values.items ++ map (test_data l.files l.bench) (take l.i l.cases)
