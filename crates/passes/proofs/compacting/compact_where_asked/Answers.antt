use Rattle.std.proofs.Common.{◌≡◌, ◌<◌, ◌^◌, true, false, arith, inr}
use Rattle.outside.specs.Disks.{reads_of}
use Rattle.passes.specs.Stored.{passes_in, store_of}
use Rattle.passes.proofs.Compacted.{asked_by, asks_by, compacted_rests, length_is, short_unasked, unasked_rests}
use Rattle.passes.proofs.PassMoments.{still_leaves}
use Rattle.passes.proofs.compacting.compact_where_asked.Goals as goal

pub returns-then-length-le-DEAD_LIMIT-clause-any_moment : goal.returns-then-length-le-DEAD_LIMIT-clause-any_moment
returns-then-length-le-DEAD_LIMIT-clause-any_moment g c = λ told. still_leaves (g.D.Disk.moments c.args.disk.now) (store_of c.args.journal.now c.args.held.now) (c.requires.in_step told)

pub returns-in_err-counted-clause-any_moment : goal.returns-in_err-counted-clause-any_moment
returns-in_err-counted-clause-any_moment g c = λ told. still_leaves (g.D.Disk.moments c.args.disk.now) (store_of c.args.journal.now c.args.held.now) (c.requires.in_step told)

pub returns-in_err-kept-clause-any_moment : goal.returns-in_err-kept-clause-any_moment
returns-in_err-kept-clause-any_moment g c = λ told. still_leaves (g.D.Disk.moments c.args.disk.now) (store_of c.args.journal.now c.args.held.now) (c.requires.in_step told)

pub returns-then-not-asks_compaction-clause-any_moment : goal.returns-then-not-asks_compaction-clause-any_moment
returns-then-not-asks_compaction-clause-any_moment g c = λ told. still_leaves (g.D.Disk.moments c.args.disk.now) (store_of c.args.journal.now c.args.held.now) (c.requires.in_step told)

pub returns-then-not-asks_compaction-clause-compacts : goal.returns-then-not-asks_compaction-clause-compacts
returns-then-not-asks_compaction-clause-compacts g c = λ told asks.
    let journal = c.args.journal.now in
    let store = store_of c.args.journal.now c.args.held.now in
    let fits : journal.len < 2 ^ 64 = omega (arith, c.length.ensures, c.length.type_inv) in
    let one : c.asks_compaction.result ≡ true = c.asks_compaction.ensures.1 (asks_by store.held.payloads journal.generation journal.len c.in_ok-counted.counted fits (length_is store (g.D.Disk.moments c.args.disk.now).now (c.requires.in_step told)) c.in_ok-counted.ensures asks) in
    let zero : c.asks_compaction.result ≡ false = c.if-not-asks_compaction.true in
    absurd cc

pub returns-in_err-replace_by-clause-keeps : goal.returns-in_err-replace_by-clause-keeps
returns-in_err-replace_by-clause-keeps g c = λ told not_asks.
    let journal = c.args.journal.now in
    let store = store_of c.args.journal.now c.args.held.now in
    let fits : journal.len < 2 ^ 64 = omega (arith, c.length.ensures, c.length.type_inv) in
    absurd (not_asks (asked_by store.held.payloads journal.generation journal.len c.in_ok-counted.counted fits (length_is store (g.D.Disk.moments c.args.disk.now).now (c.requires.in_step told)) c.in_ok-counted.ensures (c.asks_compaction.ensures.0 c.if-not-asks_compaction.false)))

pub returns-clause-keeps : goal.returns-clause-keeps
returns-clause-keeps g c = λ told not_asks.
    let journal = c.args.journal.now in
    let store = store_of c.args.journal.now c.args.held.now in
    let fits : journal.len < 2 ^ 64 = omega (arith, c.length.ensures, c.length.type_inv) in
    absurd (not_asks (asked_by store.held.payloads journal.generation journal.len c.in_ok-counted.counted fits (length_is store (g.D.Disk.moments c.args.disk.now).now (c.requires.in_step told)) c.in_ok-counted.ensures (c.asks_compaction.ensures.0 c.if-not-asks_compaction.false)))

pub returns-then-length-le-DEAD_LIMIT-clause-settled : goal.returns-then-length-le-DEAD_LIMIT-clause-settled
returns-then-length-le-DEAD_LIMIT-clause-settled g c = λ told.
    let store = store_of c.args.journal.now c.args.held.now in
    let disk = (g.D.Disk.moments c.args.disk.now).now in
    unasked_rests store disk (c.requires.in_step told)
    (short_unasked store.held.payloads store.journal.generation store.journal.len (length_is store disk (c.requires.in_step told)) (omega (arith, c.length.ensures)))

pub returns-then-not-asks_compaction-clause-settled : goal.returns-then-not-asks_compaction-clause-settled
returns-then-not-asks_compaction-clause-settled g c = λ told.
    let journal = c.args.journal.now in
    let store = store_of c.args.journal.now c.args.held.now in
    let disk = (g.D.Disk.moments c.args.disk.now).now in
    let fits : journal.len < 2 ^ 64 = omega (arith, c.length.ensures, c.length.type_inv) in
    unasked_rests store disk (c.requires.in_step told) (λ asks.
    let one : c.asks_compaction.result ≡ true = c.asks_compaction.ensures.1 (asks_by store.held.payloads journal.generation journal.len c.in_ok-counted.counted fits (length_is store disk (c.requires.in_step told)) c.in_ok-counted.ensures asks) in
    let zero : c.asks_compaction.result ≡ false = c.if-not-asks_compaction.true in
    absurd cc)

pub returns-clause-settled : goal.returns-clause-settled
returns-clause-settled g c = λ told.
    compacted_rests (store_of c.replace_by.new.journal c.replace_by.new.held) (g.D.Disk.moments c.replace_by.new.disk).now (c.in_ok-replace_by.ensures.in_step told) (passes_in (reads_of (g.D.Disk.moments c.args.disk.now).now)) (c.in_ok-replace_by.ensures.compacts told)

pub returns-clause-passes : goal.returns-clause-passes
returns-clause-passes g c = λ told. inr (c.in_ok-replace_by.ensures.compacts told).passes
