use Rattle.std.proofs.Common.{◌≡◌, ◌<◌, ◌^◌, true, false, arith, inr, sym, ◌∙◌}
use Rattle.outside.specs.Disks.{reads_of}
use Rattle.store.proofs.Borrowed.{none_borrowed}
use Rattle.store.specs.Stored.{own_requests, store_of}
use Rattle.store.proofs.RequestMoments.{own_all, still_leaves, still_live}
use Rattle.store.proofs.Compacted.{counted_latest, asked_by, asks_by, compacted_rests, length_is, short_unasked, unasked_rests}
use Rattle.store.proofs.compacting.compact_where_asked.Goals as goal

pub returns-then-length-le-DEAD_LIMIT-clause-any_moment : goal.returns-then-length-le-DEAD_LIMIT-clause-any_moment
returns-then-length-le-DEAD_LIMIT-clause-any_moment g c = λ told. still_leaves (g.D.Disk.moments c.args.disk.now) (store_of c.args.journal.now c.args.held.now) (c.requires.in_step told)

pub returns-in_err-plan-clause-any_moment : goal.returns-in_err-plan-clause-any_moment
returns-in_err-plan-clause-any_moment g c = λ told. still_leaves (g.D.Disk.moments c.args.disk.now) (store_of c.args.journal.now c.args.held.now) (c.requires.in_step told)

pub returns-then-not-is_asked-clause-any_moment : goal.returns-then-not-is_asked-clause-any_moment
returns-then-not-is_asked-clause-any_moment g c = λ told. still_leaves (g.D.Disk.moments c.args.disk.now) (store_of c.args.journal.now c.args.held.now) (c.requires.in_step told)

pub returns-then-not-is_asked-clause-compacts : goal.returns-then-not-is_asked-clause-compacts
returns-then-not-is_asked-clause-compacts g c = λ told asks.
    let journal = c.args.journal.now in
    let store = store_of c.args.journal.now c.args.held.now in
    let fits : journal.len < 2 ^ 64 = omega (arith, c.length.ensures, c.length.type_inv) in
    let one : c.is_asked.result ≡ true = c.is_asked.ensures.1 (asks_by store.held.payloads journal.generation journal.len c.in_ok-plan.plan.len (counted_latest c.args.held.now.payloads c.in_ok-plan.plan c.in_ok-plan.ensures) fits (length_is store (g.D.Disk.moments c.args.disk.now).now (c.requires.in_step told)) asks) in
    let zero : c.is_asked.result ≡ false = c.if-not-is_asked.true in
    absurd cc

pub returns-in_err-replace_by-clause-keeps : goal.returns-in_err-replace_by-clause-keeps
returns-in_err-replace_by-clause-keeps g c = λ told not_asks.
    let journal = c.args.journal.now in
    let store = store_of c.args.journal.now c.args.held.now in
    let fits : journal.len < 2 ^ 64 = omega (arith, c.length.ensures, c.length.type_inv) in
    absurd (not_asks (asked_by store.held.payloads journal.generation journal.len c.in_ok-plan.plan.len (counted_latest c.args.held.now.payloads c.in_ok-plan.plan c.in_ok-plan.ensures) fits (length_is store (g.D.Disk.moments c.args.disk.now).now (c.requires.in_step told)) (c.is_asked.ensures.0 c.if-not-is_asked.false)))

pub returns-clause-keeps : goal.returns-clause-keeps
returns-clause-keeps g c = λ told not_asks.
    let journal = c.args.journal.now in
    let store = store_of c.args.journal.now c.args.held.now in
    let fits : journal.len < 2 ^ 64 = omega (arith, c.length.ensures, c.length.type_inv) in
    absurd (not_asks (asked_by store.held.payloads journal.generation journal.len c.in_ok-plan.plan.len (counted_latest c.args.held.now.payloads c.in_ok-plan.plan c.in_ok-plan.ensures) fits (length_is store (g.D.Disk.moments c.args.disk.now).now (c.requires.in_step told)) (c.is_asked.ensures.0 c.if-not-is_asked.false)))

pub returns-then-length-le-DEAD_LIMIT-clause-settled : goal.returns-then-length-le-DEAD_LIMIT-clause-settled
returns-then-length-le-DEAD_LIMIT-clause-settled g c = λ told.
    let store = store_of c.args.journal.now c.args.held.now in
    let disk = (g.D.Disk.moments c.args.disk.now).now in
    unasked_rests store disk (c.requires.in_step told)
    (short_unasked store.held.payloads store.journal.generation store.journal.len (length_is store disk (c.requires.in_step told)) (omega (arith, c.length.ensures)))

pub returns-then-not-is_asked-clause-settled : goal.returns-then-not-is_asked-clause-settled
returns-then-not-is_asked-clause-settled g c = λ told.
    let journal = c.args.journal.now in
    let store = store_of c.args.journal.now c.args.held.now in
    let disk = (g.D.Disk.moments c.args.disk.now).now in
    let fits : journal.len < 2 ^ 64 = omega (arith, c.length.ensures, c.length.type_inv) in
    unasked_rests store disk (c.requires.in_step told) (λ asks.
    let one : c.is_asked.result ≡ true = c.is_asked.ensures.1 (asks_by store.held.payloads journal.generation journal.len c.in_ok-plan.plan.len (counted_latest c.args.held.now.payloads c.in_ok-plan.plan c.in_ok-plan.ensures) fits (length_is store disk (c.requires.in_step told)) asks) in
    let zero : c.is_asked.result ≡ false = c.if-not-is_asked.true in
    absurd cc)

pub returns-clause-settled : goal.returns-clause-settled
returns-clause-settled g c = λ told.
    compacted_rests (store_of c.replace_by.new.journal c.replace_by.new.held) (own_requests (reads_of (g.D.Disk.moments c.args.disk.now).now)) (g.D.Disk.moments c.replace_by.new.disk).now (c.in_ok-replace_by.ensures.in_step told) (c.in_ok-replace_by.ensures.compacts told)

pub returns-then-length-le-DEAD_LIMIT-clause-live : goal.returns-then-length-le-DEAD_LIMIT-clause-live
returns-then-length-le-DEAD_LIMIT-clause-live g c = λ told. still_live (g.D.Disk.moments c.args.disk.now) (store_of c.args.journal.now c.args.held.now) (c.requires.in_step told)

pub returns-in_err-plan-clause-live : goal.returns-in_err-plan-clause-live
returns-in_err-plan-clause-live g c = λ told. still_live (g.D.Disk.moments c.args.disk.now) (store_of c.args.journal.now c.args.held.now) (c.requires.in_step told)

pub returns-then-not-is_asked-clause-live : goal.returns-then-not-is_asked-clause-live
returns-then-not-is_asked-clause-live g c = λ told. still_live (g.D.Disk.moments c.args.disk.now) (store_of c.args.journal.now c.args.held.now) (c.requires.in_step told)

pub returns-clause-records : goal.returns-clause-records
returns-clause-records g c = λ told.
    inr (sym (own_all (store_of c.replace_by.new.journal c.replace_by.new.held) (g.D.Disk.moments c.replace_by.new.disk).now (c.in_ok-replace_by.ensures.in_step told)) ∙ (c.in_ok-replace_by.ensures.compacts told).records)

pub returns-clause-borrowed : goal.returns-clause-borrowed
returns-clause-borrowed g c = λ files borrowed. none_borrowed files c.replace_by.new.held.borrowed c.in_ok-replace_by.ensures.borrowed
