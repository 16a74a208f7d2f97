-- The text is that of a value without floats, which nests less deep than a reader may go.
use Rattle.std.proofs.Common.{rules}
use Rattle.report.proofs.NoFloats.{none_in_export}
use Rattle.report.proofs.Depths.{export_depth}
use Rattle.report.proofs.export.export_json.Goals as goal

pub returns-clause-text : goal.returns-clause-text
returns-clause-text c = search (rules, none_in_export)

pub returns-clause-reads : goal.returns-clause-reads
returns-clause-reads c = search (rules, none_in_export, export_depth)
