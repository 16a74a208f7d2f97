use Rattle.std.proofs.Common.{Err}
use Rattle.std.proofs.lemmas.Result.{err_from_is_err_and}
use Rattle.project_reading.specs.Reading.{linked_reading, links_of}
use Rattle.project_reading.proofs.Steps.{goes_on, stops_there}
use Rattle.project_reading.proofs.linking.read_from_visible.Goals as goal

pub returns-in_err-links-clause-reading : goal.returns-in_err-links-clause-reading
returns-in_err-links-clause-reading c =
    let p = err_from_is_err_and c.from_residual.result c.from_residual.ensures.1 in
    rw (p.1, p.2) (λ scans are. stops_there (linked_reading c.args.query.now c.args.project c.args.texts scans) (links_of c.args.project c.args.texts scans) c.in_err-links.field-0.0 (c.in_err-links.ensures.links scans are))

pub returns-clause-reading : goal.returns-clause-reading
returns-clause-reading c scans are =
    goes_on (linked_reading c.args.query.now c.args.project c.args.texts scans) (links_of c.args.project c.args.texts scans) c.in_ok-links.links c.read_from_links.result (c.in_ok-links.ensures.links scans are) (c.read_from_links.ensures.reading scans are)
