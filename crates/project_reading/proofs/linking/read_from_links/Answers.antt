use Rattle.std.proofs.Common.{◌≡◌, ℕ, List, Result, Ok, subst}
use Rattle.base.specs.declared.project.ProjectFile.{ProjectFile}
use Rattle.order.specs.BuildOrder.{file_order}
use Rattle.project_reading.specs.Reading.{SourceReading, order_or, order_reading}
use Rattle.project_reading.proofs.Steps.{goes_on}
use Rattle.project_reading.proofs.linking.read_from_links.Goals as goal

pub returns-clause-reading : goal.returns-clause-reading
returns-clause-reading c scans are =
    goes_on (order_reading c.args.query.now c.args.project c.args.texts scans c.args.links) (order_or c.args.project.files (file_order c.args.links.edges)) c.in_ok-order.order c.read_from_order.result
    (subst (λ (files : List ProjectFile). ◌≡◌ {A = Result (List ℕ) SourceReading} (order_or files (file_order c.args.links.edges)) (Ok c.in_ok-order.order)) c.as_slice.ensures c.in_ok-order.ensures.order)
    (c.read_from_order.ensures.reading scans are)
