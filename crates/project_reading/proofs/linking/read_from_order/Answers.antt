use Rattle.std.proofs.Common.{Bool, List, Err, subst}
use Rattle.std.proofs.lemmas.Result.{err_from_is_err_and}
use Rattle.base_outcomes.specs.declared.bench.Bench.{Bench}
use Rattle.project_reading.specs.Reading.{ordered_reading, wanted_tests}
use Rattle.project_reading.specs.Sources.{Gives}
use Rattle.project_reading.specs.Queries.{wants_tests}
use Rattle.project_reading.proofs.Steps.{stops_there}
use Rattle.project_reading.proofs.linking.read_from_order.Goals as goal

pub returns-in_err-tests-clause-reading : goal.returns-in_err-tests-clause-reading
returns-in_err-tests-clause-reading c =
    let p = err_from_is_err_and c.from_residual.result c.from_residual.ensures.1 in
    rw (p.1, p.2) (λ scans are. stops_there (ordered_reading c.args.query.now c.args.project c.args.texts scans c.args.links c.args.order.now) (wanted_tests (wants_tests c.args.query.now.query_kind) c.args.project c.args.texts scans) c.in_err-tests.field-0.0 (subst (λ (wanted : Bool). Gives {T = List Bench} (wanted_tests wanted c.args.project c.args.texts scans) (Err c.in_err-tests.field-0.0)) c.wants_tests.ensures (c.in_err-tests.ensures.tests scans are)))
