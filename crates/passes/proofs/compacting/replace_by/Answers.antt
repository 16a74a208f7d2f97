use Rattle.std.proofs.Common.{ap, sym, subst, ◌∙◌}
use Rattle.store_journal.specs.Journals.{SideContent}
use Rattle.passes_table.specs.States.{PassesState}
use Rattle.passes.specs.Stored.{IsPassStoreInStep, store_of}
use Rattle.passes.proofs.Compacted.{compacted_in_step, compaction_leaves, has_compacted}
use Rattle.passes.proofs.PassMoments.{still_leaves}
use Rattle.passes.proofs.compacting.replace_by.Goals as goal

pub returns-in_err-side-clause-any_moment : goal.returns-in_err-side-clause-any_moment
returns-in_err-side-clause-any_moment g c = λ told. still_leaves (g.D.Disk.moments c.args.disk.now) (store_of c.args.journal.now c.args.held.now) (c.requires.in_step told)

pub returns-in_err-made-clause-any_moment : goal.returns-in_err-made-clause-any_moment
returns-in_err-made-clause-any_moment g c = λ told. still_leaves (g.D.Disk.moments c.args.disk.now) (store_of c.args.journal.now c.args.held.now) (c.requires.in_step told)

pub replace-requires-clause-in_step : goal.replace-requires-clause-in_step
replace-requires-clause-in_step g c = λ told. (c.requires.in_step told).journal_in_step

pub returns-in-Err-clause-any_moment : goal.returns-in-Err-clause-any_moment
returns-in-Err-clause-any_moment g c = λ told.
    let written = ap (λ (s : SideContent). s.payloads) c.in_ok-side.ensures in
    compaction_leaves (g.D.Disk.moments c.args.disk.now) (g.D.Disk.moments c.replace.new.disk) (store_of c.args.journal.now c.args.held.now) c.args.kept c.in_ok-side.side.payloads (c.requires.in_step told) c.requires.kept c.requires.passes written (c.replace.ensures.any_moment told)

pub returns-in-Ok-clause-any_moment : goal.returns-in-Ok-clause-any_moment
returns-in-Ok-clause-any_moment g c = λ told.
    let written = ap (λ (s : SideContent). s.payloads) c.in_ok-side.ensures in
    compaction_leaves (g.D.Disk.moments c.args.disk.now) (g.D.Disk.moments c.replace.new.disk) (store_of c.args.journal.now c.args.held.now) c.args.kept c.in_ok-side.side.payloads (c.requires.in_step told) c.requires.kept c.requires.passes written (c.replace.ensures.any_moment told)

pub returns-in-Ok-clause-compacts : goal.returns-in-Ok-clause-compacts
returns-in-Ok-clause-compacts g c = λ told.
    let written = ap (λ (s : SideContent). s.payloads) c.in_ok-side.ensures in
    has_compacted (g.D.Disk.moments c.args.disk.now) (g.D.Disk.moments c.replace.new.disk) (store_of c.args.journal.now c.args.held.now) c.args.kept c.in_ok-side.side.payloads (c.requires.in_step told) c.requires.kept c.requires.passes written (c.in-Ok.ensures.replaced told)

pub returns-in-Ok-clause-in_step : goal.returns-in-Ok-clause-in_step
returns-in-Ok-clause-in_step g c = λ told.
    let new = g.D.Disk.moments c.replace.new.disk in
    let written = ap (λ (s : SideContent). s.payloads) c.in_ok-side.ensures in
    let step = compacted_in_step (g.D.Disk.moments c.args.disk.now) (g.D.Disk.moments c.replace.new.disk) (store_of c.args.journal.now c.args.held.now) c.args.kept c.in_ok-side.side.payloads (c.requires.in_step told) c.requires.kept c.requires.passes written (c.in-Ok.ensures.replaced told) c.replace.new.self c.in_ok-made.made (c.in-Ok.ensures.in_step told) c.in-Ok.ensures.form c.in_ok-made.ensures.payloads in
    subst (λ (h : PassesState). IsPassStoreInStep (store_of c.replace.new.self h) (g.D.Disk.moments c.replace.new.disk).now) (sym c.hold.ensures) step

pub returns-in-Ok-clause-built : goal.returns-in-Ok-clause-built
returns-in-Ok-clause-built g c = ap (λ (h : PassesState). h.built) c.hold.ensures ∙ c.in_ok-made.ensures.built
