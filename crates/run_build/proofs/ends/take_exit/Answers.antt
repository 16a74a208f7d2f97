-- Answers to the goals of `take_exit`.
use Rattle.std.proofs.Common.{◌≡◌, ◌+◌, ◌++◌, ◌∷◌, [], true, false, Option, refl, sym, ap, subst, ◌∙◌, arith}
use Rattle.std.specs.Prelude.{is_some}
use Rattle.std.proofs.lemmas.Bool.{eq-eqb, ne_eqb}
use Rattle.run_spec.specs.declared.fault.RunFault.{RunFault}
use Rattle.base.specs.declared.child.Event.TheVariants.{Ended}
use Rattle.run_build.specs.Faults.{is_all_committed, ComesFirst}
use Rattle.run_build.specs.UnderWay.{work_from}
use Rattle.run_build.proofs.UnderWayThen.{not_first_fault, statuses_count, end_latest, ended_keeps}
use Rattle.run_build.proofs.EndsThen.{failed_commit, takes_refused, takes_uncommitted, takes_commit, first_committed, first_failed}
use Rattle.run_build.proofs.ends.take_exit.Goals as goal

pub index_mut-requires : goal.index_mut-requires
index_mut-requires g c = omega (arith, c.record_end-at.ensures.within, c.requires.files, statuses_count _ _ _ _ _ c.requires.going.under_way)

pub index_mut-requires-2 : goal.index_mut-requires-2
index_mut-requires-2 g c = omega (arith, c.record_end-at.ensures.within, c.requires.files, statuses_count _ _ _ _ _ c.requires.going.under_way)

pub returns-then-code-ne0-clause-goes : goal.returns-then-code-ne0-clause-goes
returns-then-code-ne0-clause-goes g c = λ from events acknowledged is holds.
    takes_refused g.D.Disk.tells g.K.Records.records_of c.args.graph.now from events acknowledged _ (g.D.Disk.moments c.args.disk.now) is holds c.args.ticket c.record_end-at.result c.args.exit (omega (arith, c.record_end-at.ensures.within, c.requires.files)) c.record_end-at.new.self
    (c.record_end-at.ensures.position _ _ is.in_step) (c.record_end-at.ensures.lawful _ _ c.args.exit.output is.in_step) (c.record_end-at.ensures.greedy _ _ c.args.exit.output is.in_step c.requires.step) (c.record_end-at.ensures.in_step _ _ c.args.exit.output is.in_step) (c.record_end-at.ensures.here _ _ is.in_step) c.record_end-at.ensures.checked c.record_end-at.ensures.stopped is.in_step.free
    (ne_eqb c.args.exit.code 0 c.if-code-ne0.true)

pub returns-then-not-is_committing-clause-goes : goal.returns-then-not-is_committing-clause-goes
returns-then-not-is_committing-clause-goes g c = λ from events acknowledged is holds.
    takes_uncommitted g.D.Disk.tells g.K.Records.records_of c.args.graph.now from events acknowledged _ (g.D.Disk.moments c.args.disk.now) is holds c.args.ticket c.record_end-at.result c.args.exit (omega (arith, c.record_end-at.ensures.within, c.requires.files)) c.record_end-at.new.self
    (c.record_end-at.ensures.position _ _ is.in_step) (c.record_end-at.ensures.lawful _ _ c.args.exit.output is.in_step) (c.record_end-at.ensures.greedy _ _ c.args.exit.output is.in_step c.requires.step) (c.record_end-at.ensures.in_step _ _ c.args.exit.output is.in_step) (c.record_end-at.ensures.here _ _ is.in_step) c.record_end-at.ensures.checked c.record_end-at.ensures.stopped is.in_step.free
    (eq-eqb c.args.exit.code 0 c.if-code-ne0.false) (sym (ap (is_all_committed c.args.first_fault.now) c.is_broken.ensures) ∙ sym c.is_committing.ensures ∙ c.if-not-is_committing.true)

pub commit_made-requires-clause-built : goal.commit_made-requires-clause-built
commit_made-requires-clause-built g c =
    let under = c.requires.going.under_way in
    end_latest _ _ _ _ _ under c.args.ticket c.record_end-at.result c.args.exit (c.record_end-at.ensures.position _ _ under.in_step) (omega (arith, c.record_end-at.ensures.within, c.requires.files)) (sym (ap (is_all_committed c.args.first_fault.now) c.is_broken.ensures) ∙ sym c.is_committing.ensures ∙ c.if-not-is_committing.false)

pub returns-in-Ok-clause-goes : goal.returns-in-Ok-clause-goes
returns-in-Ok-clause-goes g c = λ from events acknowledged is holds.
    takes_commit g.D.Disk.tells g.K.Records.records_of c.args.graph.now from events acknowledged _ (g.D.Disk.moments c.args.disk.now) is holds c.args.ticket c.record_end-at.result c.args.exit (omega (arith, c.record_end-at.ensures.within, c.requires.files)) c.record_end-at.new.self
    (c.record_end-at.ensures.position _ _ is.in_step) (c.record_end-at.ensures.lawful _ _ c.args.exit.output is.in_step) (c.record_end-at.ensures.greedy _ _ c.args.exit.output is.in_step c.requires.step) (c.record_end-at.ensures.in_step _ _ c.args.exit.output is.in_step) (c.record_end-at.ensures.here _ _ is.in_step) c.record_end-at.ensures.checked c.record_end-at.ensures.stopped is.in_step.free
    (eq-eqb c.args.exit.code 0 c.if-code-ne0.false) (sym (ap (is_all_committed c.args.first_fault.now) c.is_broken.ensures) ∙ sym c.is_committing.ensures ∙ c.if-not-is_committing.false) true c.record_end-at.new.self c.args.first_fault.now (g.K.Records.latest_of c.commit_made.new.store) (g.K.Records.broken c.commit_made.new.store) (g.D.Disk.moments c.commit_made.new.disk)
    (λ n. (n, c.in-Ok.ensures.broken)) (λ all. refl) (λ k. refl) (c.record_end-at.ensures.stopped ∙ is.halts) (λ workload schedule step. step) c.in-Ok.ensures.latest c.in-Ok.ensures.images
    (first_committed g.D.Disk.tells g.K.Records.records_of c.args.graph.now from events acknowledged _ (g.D.Disk.moments c.args.disk.now) is holds c.args.ticket c.record_end-at.result c.args.exit (omega (arith, c.record_end-at.ensures.within, c.requires.files)) c.record_end-at.new.self
    (c.record_end-at.ensures.position _ _ is.in_step) (c.record_end-at.ensures.lawful _ _ c.args.exit.output is.in_step) (c.record_end-at.ensures.greedy _ _ c.args.exit.output is.in_step c.requires.step) (c.record_end-at.ensures.in_step _ _ c.args.exit.output is.in_step) (c.record_end-at.ensures.here _ _ is.in_step) c.record_end-at.ensures.checked c.record_end-at.ensures.stopped is.in_step.free
    (eq-eqb c.args.exit.code 0 c.if-code-ne0.false) (sym (ap (is_all_committed c.args.first_fault.now) c.is_broken.ensures) ∙ sym c.is_committing.ensures ∙ c.if-not-is_committing.false) (g.K.Records.broken c.commit_made.new.store))

pub returns-clause-goes : goal.returns-clause-goes
returns-clause-goes g c = λ from events acknowledged is holds.
    takes_commit g.D.Disk.tells g.K.Records.records_of c.args.graph.now from events acknowledged _ (g.D.Disk.moments c.args.disk.now) is holds c.args.ticket c.record_end-at.result c.args.exit (omega (arith, c.record_end-at.ensures.within, c.requires.files)) c.record_end-at.new.self
    (c.record_end-at.ensures.position _ _ is.in_step) (c.record_end-at.ensures.lawful _ _ c.args.exit.output is.in_step) (c.record_end-at.ensures.greedy _ _ c.args.exit.output is.in_step c.requires.step) (c.record_end-at.ensures.in_step _ _ c.args.exit.output is.in_step) (c.record_end-at.ensures.here _ _ is.in_step) c.record_end-at.ensures.checked c.record_end-at.ensures.stopped is.in_step.free
    (eq-eqb c.args.exit.code 0 c.if-code-ne0.false) (sym (ap (is_all_committed c.args.first_fault.now) c.is_broken.ensures) ∙ sym c.is_committing.ensures ∙ c.if-not-is_committing.false) false c.halt.new.scheduler c.halt.new.first_fault (g.K.Records.latest_of c.commit_made.new.store) (g.K.Records.broken c.commit_made.new.store) (g.D.Disk.moments c.commit_made.new.disk)
    (λ n. not_first_fault _ (sym c.halt.ensures.first_fault ∙ n))
    (λ all. failed_commit c.args.first_fault.now c.in-Err.fault _ _ c.in-Err.ensures.cause (g.K.Records.broken c.commit_made.new.store) c.in-Err.ensures.broken (subst (λ (o : Option RunFault). is_all_committed o (g.K.Records.broken c.commit_made.new.store) ≡ true) c.halt.ensures.first_fault all))
    c.halt.ensures.checked (c.halt.ensures.stopped ∙ sym (ap is_some c.halt.ensures.first_fault))
    (λ workload schedule step. c.halt.ensures.in_step workload schedule _ step) c.in-Err.ensures.latest c.in-Err.ensures.images
    (subst (λ (o : Option RunFault). ComesFirst o (work_from c.args.graph.now from) (events ++ Ended c.args.ticket c.args.exit ∷ []) (acknowledged + 0) (g.K.Records.broken c.commit_made.new.store)) (sym c.halt.ensures.first_fault)
    (first_failed g.D.Disk.tells g.K.Records.records_of c.args.graph.now from events acknowledged _ (g.D.Disk.moments c.args.disk.now) is holds c.args.ticket c.record_end-at.result c.args.exit (omega (arith, c.record_end-at.ensures.within, c.requires.files)) c.record_end-at.new.self
    (c.record_end-at.ensures.position _ _ is.in_step) (c.record_end-at.ensures.lawful _ _ c.args.exit.output is.in_step) (c.record_end-at.ensures.greedy _ _ c.args.exit.output is.in_step c.requires.step) (c.record_end-at.ensures.in_step _ _ c.args.exit.output is.in_step) (c.record_end-at.ensures.here _ _ is.in_step) c.record_end-at.ensures.checked c.record_end-at.ensures.stopped is.in_step.free
    (eq-eqb c.args.exit.code 0 c.if-code-ne0.false) (sym (ap (is_all_committed c.args.first_fault.now) c.is_broken.ensures) ∙ sym c.is_committing.ensures ∙ c.if-not-is_committing.false)
    c.in-Err.fault _ _ c.in-Err.ensures.cause (g.K.Records.broken c.commit_made.new.store) c.in-Err.ensures.broken))

pub returns-then-code-ne0-clause-runs : goal.returns-then-code-ne0-clause-runs
returns-then-code-ne0-clause-runs g c = λ workload schedule step. c.record_end-at.ensures.lawful workload schedule [] step

pub returns-then-not-is_committing-clause-runs : goal.returns-then-not-is_committing-clause-runs
returns-then-not-is_committing-clause-runs g c = λ workload schedule step. c.record_end-at.ensures.lawful workload schedule [] step

pub returns-in-Ok-clause-runs : goal.returns-in-Ok-clause-runs
returns-in-Ok-clause-runs g c = λ workload schedule step. c.record_end-at.ensures.lawful workload schedule [] step

pub returns-clause-runs : goal.returns-clause-runs
returns-clause-runs g c = λ workload schedule step. c.record_end-at.ensures.lawful workload schedule [] step

pub returns-then-code-ne0-clause-keeps : goal.returns-then-code-ne0-clause-keeps
returns-then-code-ne0-clause-keeps g c = λ count recorded position entry lt found. refl

pub returns-then-not-is_committing-clause-keeps : goal.returns-then-not-is_committing-clause-keeps
returns-then-not-is_committing-clause-keeps g c = λ count recorded position entry lt found. refl

pub returns-in-Ok-clause-keeps : goal.returns-in-Ok-clause-keeps
returns-in-Ok-clause-keeps g c = λ count recorded position entry lt found.
    let under = c.requires.going.under_way in
    c.in-Ok.ensures.latest entry.name
    ∙ ended_keeps _ _ _ _ _ under c.args.ticket c.record_end-at.result c.args.exit (c.record_end-at.ensures.position _ _ under.in_step) (omega (arith, c.record_end-at.ensures.within, c.requires.files))
    (sym (ap (is_all_committed c.args.first_fault.now) c.is_broken.ensures) ∙ sym c.is_committing.ensures ∙ c.if-not-is_committing.false) count recorded _ _ position entry lt found

pub returns-clause-keeps : goal.returns-clause-keeps
returns-clause-keeps g c = λ count recorded position entry lt found. c.in-Err.ensures.latest entry.name
