use Rattle.std.proofs.Common.{refl, sym, ap, subst, ◌∙◌, false}
use Rattle.outside.specs.Disks.{image_side, reads_of}
use Rattle.store_journal.specs.Journals.{JournalState, IsInStep}
use Rattle.store_journal.proofs.Openings.{Ends, begun_moments, closing_moments, closed_in_step, ends_payloads, found_ends, shut_in_step}
use Rattle.store_journal.proofs.Resting.{healthy_shut, rests_at_once, unopened}
use Rattle.store_journal.proofs.Stays.{at_once_holds, closing_holds}
use Rattle.store_journal.proofs.opening.finish_opening.Given as given
use Rattle.store_journal.proofs.opening.finish_opening.Goals as goal
use Rattle.store_journal.proofs.opening.finish_opening.Goals.{Start}

-- where the payloads that were found end
ends_at : (g : given.Over) (c : Start g) → g.D.Disk.tells → Ends c.args.form c.args.live.side c.args.live.generation c.args.found.len (g.T.Visitor.taken c.args.found.payloads) (reads_of (g.D.Disk.moments c.args.disk.now).now)
ends_at g c told =
    let reads = reads_of (g.D.Disk.moments c.args.disk.now).now in
    let live = c.requires.live told in
    found_ends c.args.form c.args.live.side c.args.live.generation c.args.found.len (g.T.Visitor.taken c.args.found.payloads) (image_side c.args.live.side reads) reads live.counts live.generation refl (c.requires.end told)

pub returns-then-not-found-clause-any_moment : goal.returns-then-not-found-clause-any_moment
returns-then-not-found-clause-any_moment g c = λ told. begun_moments c.args.form (g.D.Disk.moments c.args.disk.now) (c.requires.settled told)

pub returns-then-not-found-clause-rests : goal.returns-then-not-found-clause-rests
returns-then-not-found-clause-rests g c = λ told healthy. rests_at_once _ (g.D.Disk.moments c.args.disk.now) (c.requires.settled told)

pub returns-then-not-found-clause-in_step : goal.returns-then-not-found-clause-in_step
returns-then-not-found-clause-in_step g c = λ told.
    let old = g.D.Disk.moments c.args.disk.now in
    let ends = ends_at g (goal.at.returns-then-not-found-clause-in_step g c).Start told in
    let journal : JournalState = record { form = c.args.form; live = c.args.live.side; generation = c.args.live.generation; len = c.args.found.len; broken = false } in
    let shut = shut_in_step journal (g.T.Visitor.taken c.args.found.payloads) (reads_of old.now) old.now ends (λ one. unopened c.args.found.is_open c.if-not-found.true ((c.requires.commit_byte told).1 one)) (c.requires.settled told) in
    subst (λ (j : JournalState). IsInStep j old.now) (sym c.as_found.ensures.journal) shut

pub returns-then-not-found-clause-payloads : goal.returns-then-not-found-clause-payloads
returns-then-not-found-clause-payloads g c = λ told.
    let old = g.D.Disk.moments c.args.disk.now in
    let ends = ends_at g (goal.at.returns-then-not-found-clause-payloads g c).Start told in
    ap g.T.Visitor.taken c.as_found.ensures.payloads ∙ sym (ends_payloads c.args.form c.args.live.side c.args.live.generation c.args.found.len (g.T.Visitor.taken c.args.found.payloads) (reads_of old.now) ends)

pub returns-in_err-write_durably-clause-any_moment : goal.returns-in_err-write_durably-clause-any_moment
returns-in_err-write_durably-clause-any_moment g c = λ told.
    let old = g.D.Disk.moments c.args.disk.now in
    let ends = ends_at g (goal.at.returns-in_err-write_durably-clause-any_moment g c).Start told in
    closing_moments c.args.form c.args.live.side c.args.live.generation c.args.found.len (g.T.Visitor.taken c.args.found.payloads) (reads_of old.now) old (g.D.Disk.moments c.write_durably.new.disk) ends ((c.requires.commit_byte told).0 c.if-not-found.false) (c.requires.settled told) (c.write_durably.ensures.moments told)

pub returns-in_err-write_durably-clause-rests : goal.returns-in_err-write_durably-clause-rests
returns-in_err-write_durably-clause-rests g c = λ told healthy.
    let old = g.D.Disk.moments c.args.disk.now in
    let ends = ends_at g (goal.at.returns-in_err-write_durably-clause-rests g c).Start told in
    absurd (healthy_shut c.args.form c.args.live.side c.args.live.generation c.args.found.len (g.T.Visitor.taken c.args.found.payloads) (reads_of old.now) healthy ends ((c.requires.commit_byte told).0 c.if-not-found.false))

pub returns-clause-any_moment : goal.returns-clause-any_moment
returns-clause-any_moment g c = λ told.
    let old = g.D.Disk.moments c.args.disk.now in
    let ends = ends_at g (goal.at.returns-clause-any_moment g c).Start told in
    closing_moments c.args.form c.args.live.side c.args.live.generation c.args.found.len (g.T.Visitor.taken c.args.found.payloads) (reads_of old.now) old (g.D.Disk.moments c.write_durably.new.disk) ends ((c.requires.commit_byte told).0 c.if-not-found.false) (c.requires.settled told) (c.write_durably.ensures.moments told)

pub returns-clause-rests : goal.returns-clause-rests
returns-clause-rests g c = λ told healthy.
    let old = g.D.Disk.moments c.args.disk.now in
    let ends = ends_at g (goal.at.returns-clause-rests g c).Start told in
    absurd (healthy_shut c.args.form c.args.live.side c.args.live.generation c.args.found.len (g.T.Visitor.taken c.args.found.payloads) (reads_of old.now) healthy ends ((c.requires.commit_byte told).0 c.if-not-found.false))

pub returns-clause-in_step : goal.returns-clause-in_step
returns-clause-in_step g c = λ told.
    let new = (g.D.Disk.moments c.write_durably.new.disk).now in
    let old = g.D.Disk.moments c.args.disk.now in
    let ends = ends_at g (goal.at.returns-clause-in_step g c).Start told in
    let journal : JournalState = record { form = c.args.form; live = c.args.live.side; generation = c.args.live.generation; len = c.args.found.len; broken = false } in
    let closed = closed_in_step journal (g.T.Visitor.taken c.args.found.payloads) (reads_of old.now) old.now new ends (c.requires.settled told) (c.in_ok-write_durably.ensures.written told) in
    subst (λ (j : JournalState). IsInStep j new) (sym c.as_found-2.ensures.journal) closed

pub returns-clause-payloads : goal.returns-clause-payloads
returns-clause-payloads g c = λ told.
    let old = g.D.Disk.moments c.args.disk.now in
    let ends = ends_at g (goal.at.returns-clause-payloads g c).Start told in
    ap g.T.Visitor.taken c.as_found-2.ensures.payloads ∙ sym (ends_payloads c.args.form c.args.live.side c.args.live.generation c.args.found.len (g.T.Visitor.taken c.args.found.payloads) (reads_of old.now) ends)

pub returns-then-not-found-clause-holds : goal.returns-then-not-found-clause-holds
returns-then-not-found-clause-holds g c = λ told. at_once_holds (g.D.Disk.moments c.args.disk.now) (c.requires.settled told)

pub returns-in_err-write_durably-clause-holds : goal.returns-in_err-write_durably-clause-holds
returns-in_err-write_durably-clause-holds g c = λ told.
    let old = g.D.Disk.moments c.args.disk.now in
    let ends = ends_at g (goal.at.returns-in_err-write_durably-clause-holds g c).Start told in
    closing_holds c.args.form c.args.live.side c.args.live.generation c.args.found.len (g.T.Visitor.taken c.args.found.payloads) (reads_of old.now) old (g.D.Disk.moments c.write_durably.new.disk) ends ((c.requires.commit_byte told).0 c.if-not-found.false) (c.requires.settled told) (c.write_durably.ensures.moments told)

pub returns-clause-holds : goal.returns-clause-holds
returns-clause-holds g c = λ told.
    let old = g.D.Disk.moments c.args.disk.now in
    let ends = ends_at g (goal.at.returns-clause-holds g c).Start told in
    closing_holds c.args.form c.args.live.side c.args.live.generation c.args.found.len (g.T.Visitor.taken c.args.found.payloads) (reads_of old.now) old (g.D.Disk.moments c.write_durably.new.disk) ends ((c.requires.commit_byte told).0 c.if-not-found.false) (c.requires.settled told) (c.write_durably.ensures.moments told)
