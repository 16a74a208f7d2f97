use Rattle.store_table.specs.Located.{located_table}
use Rattle.store.specs.Plans.{compacted_by, table_record_at}
use Rattle.store.proofs.Walked.{request_by}
use Rattle.store.proofs.walking.plan_request.Goals as goal

pub returns-clause-kept_over : goal.returns-clause-kept_over
returns-clause-kept_over c =
    let there = located_table c.args.held.now.segments c.args.table.now in
    request_by (table_record_at there.records c.args.number) (compacted_by there c.args.plan.now) (compacted_by there c.plan_below.new.plan) (compacted_by there c.plan_own.new.plan) c.in_ok-plan_below.ensures.kept_over c.in_ok-plan_own.ensures.kept_over
