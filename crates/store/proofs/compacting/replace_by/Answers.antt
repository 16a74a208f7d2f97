use Rattle.std.proofs.Common.{ℕ, true, ap, subst, sym, ◌∙◌}
use Rattle.outside.specs.Disks.{AtAnyMoment}
use Rattle.store_journal.specs.Forms.{has_form}
use Rattle.std.specs.Prelude.{◌≡◌}
use Rattle.store_journal.specs.Journals.{SideContent}
use Rattle.store.specs.Held.{HeldState, latest_held}
use Rattle.store.specs.Stored.{IsRequestStoreInStep, store_of}
use Rattle.store.proofs.RequestMoments.{still_leaves, still_live}
use Rattle.store.proofs.Compacted.{compaction_held, compaction_keeps, compaction_leaves, has_compacted, latest_still}
use Rattle.store.proofs.compacting.replace_by.Goals as goal

pub returns-in_err-kept-clause-any_moment : goal.returns-in_err-kept-clause-any_moment
returns-in_err-kept-clause-any_moment g c = λ told. still_leaves (g.D.Disk.moments c.args.disk.now) (store_of c.args.journal.now c.args.held.now) (c.requires.in_step told)

pub replace-requires-clause-in_step : goal.replace-requires-clause-in_step
replace-requires-clause-in_step g c = λ told. (c.requires.in_step told).journal_in_step

pub returns-in-Err-clause-any_moment : goal.returns-in-Err-clause-any_moment
returns-in-Err-clause-any_moment g c = λ told.
    let made = c.in_ok-kept.ensures in
    let written = ap (λ (s : SideContent). s.payloads) made.side in
    compaction_leaves (g.D.Disk.moments c.args.disk.now) (g.D.Disk.moments c.replace.new.disk) (store_of c.args.journal.now c.args.held.now) c.in_ok-kept.field-0.held.payloads c.in_ok-kept.field-0.side.payloads (c.requires.in_step told) made.records made.held written (c.replace.ensures.any_moment told)

pub returns-in-Err-clause-loses : goal.returns-in-Err-clause-loses
returns-in-Err-clause-loses g c = λ told.
    let made = c.in_ok-kept.ensures in
    let written = ap (λ (s : SideContent). s.payloads) made.side in
    compaction_keeps (g.D.Disk.moments c.args.disk.now) (g.D.Disk.moments c.replace.new.disk) (store_of c.args.journal.now c.args.held.now) c.in_ok-kept.field-0.held.payloads c.in_ok-kept.field-0.side.payloads (c.requires.in_step told) made.records made.held written (c.replace.ensures.loses told)

pub returns-in-Ok-clause-any_moment : goal.returns-in-Ok-clause-any_moment
returns-in-Ok-clause-any_moment g c = λ told.
    let made = c.in_ok-kept.ensures in
    let written = ap (λ (s : SideContent). s.payloads) made.side in
    compaction_leaves (g.D.Disk.moments c.args.disk.now) (g.D.Disk.moments c.replace.new.disk) (store_of c.args.journal.now c.args.held.now) c.in_ok-kept.field-0.held.payloads c.in_ok-kept.field-0.side.payloads (c.requires.in_step told) made.records made.held written (c.replace.ensures.any_moment told)

pub returns-in-Ok-clause-loses : goal.returns-in-Ok-clause-loses
returns-in-Ok-clause-loses g c = λ told.
    let made = c.in_ok-kept.ensures in
    let written = ap (λ (s : SideContent). s.payloads) made.side in
    compaction_keeps (g.D.Disk.moments c.args.disk.now) (g.D.Disk.moments c.replace.new.disk) (store_of c.args.journal.now c.args.held.now) c.in_ok-kept.field-0.held.payloads c.in_ok-kept.field-0.side.payloads (c.requires.in_step told) made.records made.held written (c.replace.ensures.loses told)

pub returns-in-Ok-clause-compacts : goal.returns-in-Ok-clause-compacts
returns-in-Ok-clause-compacts g c = λ told.
    let made = c.in_ok-kept.ensures in
    let written = ap (λ (s : SideContent). s.payloads) made.side in
    has_compacted (g.D.Disk.moments c.args.disk.now) (g.D.Disk.moments c.replace.new.disk) (store_of c.args.journal.now c.args.held.now) c.in_ok-kept.field-0.held.payloads c.in_ok-kept.field-0.side.payloads (c.requires.in_step told) made.records made.held written c.replace.new.self (c.in-Ok.ensures.in_step told) (c.in-Ok.ensures.form ∙ c.requires.form) (c.in-Ok.ensures.replaced told)

pub returns-in-Ok-clause-latest : goal.returns-in-Ok-clause-latest
returns-in-Ok-clause-latest g c = λ name.
    subst (λ (h : HeldState). latest_held h.payloads name ≡ latest_held c.args.held.now.payloads name) (sym c.hold.ensures)
    (latest_still c.args.held.now.payloads c.in_ok-kept.field-0.held.payloads name c.in_ok-kept.ensures.records)

pub returns-in-Ok-clause-in_step : goal.returns-in-Ok-clause-in_step
returns-in-Ok-clause-in_step g c = λ told.
    let made = c.in_ok-kept.ensures in
    let new = g.D.Disk.moments c.replace.new.disk in
    let written = ap (λ (s : SideContent). s.payloads) made.side in
    let held = compaction_held (g.D.Disk.moments c.args.disk.now) new (store_of c.args.journal.now c.args.held.now) c.in_ok-kept.field-0.held.payloads c.in_ok-kept.field-0.side.payloads (c.requires.in_step told) made.records made.held written c.replace.new.self (c.in-Ok.ensures.in_step told) (c.in-Ok.ensures.form ∙ c.requires.form) (c.in-Ok.ensures.replaced told) in
    subst (λ (h : HeldState). IsRequestStoreInStep (store_of c.replace.new.self h) new.now) (sym c.hold.ensures)
    (record { journal_in_step = c.in-Ok.ensures.in_step told; form = c.in-Ok.ensures.form ∙ c.requires.form; payloads_are = held })

pub returns-in_err-kept-clause-live : goal.returns-in_err-kept-clause-live
returns-in_err-kept-clause-live g c = λ told. still_live (g.D.Disk.moments c.args.disk.now) (store_of c.args.journal.now c.args.held.now) (c.requires.in_step told)

pub returns-in-Ok-clause-live : goal.returns-in-Ok-clause-live
returns-in-Ok-clause-live g c = λ told. subst (λ (f : ℕ). AtAnyMoment (g.D.Disk.moments c.args.disk.now) (g.D.Disk.moments c.replace.new.disk) (λ image. has_form f image ≡ true)) c.requires.form (c.replace.ensures.live told)

pub returns-in-Err-clause-live : goal.returns-in-Err-clause-live
returns-in-Err-clause-live g c = λ told. subst (λ (f : ℕ). AtAnyMoment (g.D.Disk.moments c.args.disk.now) (g.D.Disk.moments c.replace.new.disk) (λ image. has_form f image ≡ true)) c.requires.form (c.replace.ensures.live told)

pub returns-in-Ok-clause-borrowed : goal.returns-in-Ok-clause-borrowed
returns-in-Ok-clause-borrowed g c = ap (λ (h : HeldState). h.borrowed) c.hold.ensures ∙ c.in_ok-kept.ensures.borrowed
