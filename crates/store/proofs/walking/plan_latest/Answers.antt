use Rattle.std.proofs.Common.{◌≡◌, subst}
use Rattle.outside.specs.Records.{latest_alone as latest_requests}
use Rattle.store_codec.specs.Compaction.{compacted_from, none_compacted}
use Rattle.store_codec.specs.RecordTables.{RecordTable}
use Rattle.store.specs.Plans.{IsCounted, IsPlanIn, compacted_by}
use Rattle.store.proofs.KeptTables.{to_compact}
use Rattle.store.proofs.walking.plan_latest.Goals as goal

pub plan_all-requires : goal.plan_all-requires
plan_all-requires c = record { table = to_compact c.args.held.now.segments c.args.held.now.payloads c.args.table.now c.requires.table c.requires.is }

pub returns : goal.returns
returns c =
    let plan = c.in_ok-plan.plan in
    record {
      is = subst (λ (s : RecordTable). IsPlanIn s plan) c.requires.is c.in_ok-plan.ensures.plan;
      kept_over = subst (λ (s : RecordTable). compacted_by s plan ≡ compacted_from none_compacted (latest_requests s.records)) c.requires.is c.in_ok-plan.ensures.kept_over;
      counted = subst (λ (s : RecordTable). IsCounted s plan) c.requires.is c.in_ok-plan.ensures.counted;
    }
