-- What the loop of `file_values` keeps: there is a value for each file so far.
use Rattle.std.proofs.Common.{◌≡◌, map, take}
use Rattle.serde_json.specs.View.{view}
use Rattle.report.specs.Export.{files_data}
use Rattle.report.proofs.export.file_values.Given as goal

abbrev pub invariant-loop-i : goal.invariant-loop-i
invariant-loop-i l = map view l.values.items ≡ files_data (take l.i l.graph)
