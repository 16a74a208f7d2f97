use Rattle.std.proofs.lemmas.Result.{IfOk-weaker}
use Rattle.run_build.proofs.OverStore.{empties_store, opens_store}
use Rattle.run_build.proofs.building.open_store.Goals as goal

pub returns-then-clean-clause-opens : goal.returns-then-clean-clause-opens
returns-then-clean-clause-opens g c = λ tells.
    rw c.if-clean.true
    (empties_store _ g.K.Records.records_of (g.D.Disk.moments c.args.disk.now) (g.D.Disk.moments c.open_empty.new.disk) c.open_empty.result
    (c.open_empty.ensures.opens tells) (c.open_empty.ensures.none tells) (IfOk-weaker c.open_empty.result _ _ (λ store in_step. g.met.K.Records.durable store _ in_step) (c.open_empty.ensures.in_step tells)))

pub returns-clause-opens : goal.returns-clause-opens
returns-clause-opens g c = λ tells.
    rw c.if-clean.false
    (opens_store _ g.K.Records.records_of (g.D.Disk.moments c.args.disk.now) (g.D.Disk.moments c.open.new.disk) c.open.result
    (c.open.ensures.any_moment tells).follows (c.open.ensures.opens tells) (c.open.ensures.records tells) (IfOk-weaker c.open.result _ _ (λ store in_step. g.met.K.Records.durable store _ in_step) (c.open.ensures.in_step tells)))
