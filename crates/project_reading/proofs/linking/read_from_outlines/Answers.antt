use Rattle.project_reading.proofs.Steps.{linked_then, listed_first}
use Rattle.project_reading.proofs.linking.read_from_outlines.Goals as goal

pub returns-then-project-clause-reading : goal.returns-then-project-clause-reading
returns-then-project-clause-reading c scans are =
    listed_first c.args.query.now c.args.project c.args.texts scans c.read_listed.result c.if-project.true (c.read_listed.ensures.reading scans are)

pub returns-clause-reading : goal.returns-clause-reading
returns-clause-reading c scans are = linked_then c.args.query.now c.args.project c.args.texts scans c.read_from_visible.result c.if-project.false (c.read_from_visible.ensures.reading scans are)
