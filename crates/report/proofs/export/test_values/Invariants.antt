-- What the loop of `test_values` keeps: there is a value for each case of the benches so far.
use Rattle.std.proofs.Common.{◌≡◌, map, take}
use Rattle.serde_json.specs.View.{view}
use Rattle.report.specs.Export.{tests_data}
use Rattle.report.proofs.export.test_values.Given as goal

abbrev pub invariant-loop-i : goal.invariant-loop-i
invariant-loop-i l = map view l.values.items ≡ tests_data l.files (take l.i l.tests)
