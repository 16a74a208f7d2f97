use Rattle.std.proofs.Common.{◌≡◌, ℕ, true, List, sym, ap, subst, ◌∙◌}
use Rattle.outside.specs.Disks.{Image, reads_of}
use Rattle.store_journal.specs.Forms.{has_form}
use Rattle.store_journal.specs.Journals.{SideContent}
use Rattle.store_journal.specs.Payloads.{payloads}
use Rattle.store_codec.specs.RecordTables.{requests_among}
use Rattle.store.specs.StoreLaws.{in_step_live, live_requests}
use Rattle.store.proofs.Kept.{kept_live}
use Rattle.store.proofs.RequestMoments.{still_at}
use Rattle.store.proofs.TakingOver.{before_is, change_leaves, in_step_durable, in_step_form, kept_is}
use Rattle.store.proofs.reading.take_over.Given as given
use Rattle.store.proofs.reading.take_over.Goals as goal

pub returns-in_err-taken-clause-any_moment : goal.returns-in_err-taken-clause-any_moment
returns-in_err-taken-clause-any_moment g c = λ told. still_at (g.D.Disk.moments c.args.disk.now) (in_step_durable c.args.journal (g.D.Disk.moments c.args.disk.now).now (c.requires.in_step told))

pub returns-in_err-side-clause-any_moment : goal.returns-in_err-side-clause-any_moment
returns-in_err-side-clause-any_moment g c = λ told. still_at (g.D.Disk.moments c.args.disk.now) (in_step_durable c.args.journal (g.D.Disk.moments c.args.disk.now).now (c.requires.in_step told))

pub returns-in_err-held-clause-any_moment : goal.returns-in_err-held-clause-any_moment
returns-in_err-held-clause-any_moment g c = λ told. still_at (g.D.Disk.moments c.args.disk.now) (in_step_durable c.args.journal (g.D.Disk.moments c.args.disk.now).now (c.requires.in_step told))

pub returns-in-Ok-clause-any_moment : goal.returns-in-Ok-clause-any_moment
returns-in-Ok-clause-any_moment g c = λ told.
    let old = g.D.Disk.moments c.args.disk.now in
    change_leaves (reads_of old.now) c.args.opened c.in_ok-taken.taken (c.requires.none told) (in_step_form c.args.journal old.now 2 (c.requires.in_step told) c.requires.form) (c.requires.payloads told) c.in_ok-taken.ensures.records c.in_ok-taken.ensures.is
    old (g.D.Disk.moments c.change_form.new.disk) c.args.journal.form c.in_ok-side.side c.requires.form c.in_ok-side.ensures (c.change_form.ensures.any_moment told)

pub returns-clause-any_moment : goal.returns-clause-any_moment
returns-clause-any_moment g c = λ told.
    let old = g.D.Disk.moments c.args.disk.now in
    change_leaves (reads_of old.now) c.args.opened c.in_ok-taken.taken (c.requires.none told) (in_step_form c.args.journal old.now 2 (c.requires.in_step told) c.requires.form) (c.requires.payloads told) c.in_ok-taken.ensures.records c.in_ok-taken.ensures.is
    old (g.D.Disk.moments c.change_form.new.disk) c.args.journal.form c.in_ok-side.side c.requires.form c.in_ok-side.ensures (c.change_form.ensures.any_moment told)

-- afterwards the image has the payloads that were taken over
taken_now : (side : SideContent) (taken : List (List ℕ)) (now : Image) → side ≡ record { form = 3; generation = 1; payloads = taken } → payloads side.form now ≡ side.payloads → payloads 3 now ≡ taken
taken_now side taken now is are = subst (λ (s : SideContent). payloads s.form now ≡ s.payloads) is are

live_now : (g : given.Over) (c : goal.In-Ok g) → g.D.Disk.tells → has_form 3 (reads_of (g.D.Disk.moments c.change_form.new.disk).now) ≡ true
live_now g c told = in_step_live c.change_form.new.self (g.D.Disk.moments c.change_form.new.disk).now (c.in-Ok.ensures.in_step told) (c.in-Ok.ensures.form ∙ ap (λ (s : SideContent). s.form) c.in_ok-side.ensures)

there_now : (g : given.Over) (c : goal.In-Ok g) → g.D.Disk.tells → payloads 3 (reads_of (g.D.Disk.moments c.change_form.new.disk).now) ≡ c.in_ok-taken.taken
there_now g c told = taken_now c.in_ok-side.side c.in_ok-taken.taken (reads_of (g.D.Disk.moments c.change_form.new.disk).now) c.in_ok-side.ensures (c.in-Ok.ensures.changed told)

pub returns-in-Ok-clause-keeps : goal.returns-in-Ok-clause-keeps
returns-in-Ok-clause-keeps g c = λ told.
    let old = g.D.Disk.moments c.args.disk.now in
    kept_live (reads_of (g.D.Disk.moments c.change_form.new.disk).now) (live_now g c told) ∙ there_now g c told
    ∙ sym (kept_is (reads_of old.now) c.args.opened c.in_ok-taken.taken (c.requires.none told) (in_step_form c.args.journal old.now 2 (c.requires.in_step told) c.requires.form) (c.requires.payloads told) c.in_ok-taken.ensures.records c.in_ok-taken.ensures.is)

pub returns-in-Ok-clause-records : goal.returns-in-Ok-clause-records
returns-in-Ok-clause-records g c = λ told.
    let old = g.D.Disk.moments c.args.disk.now in
    live_requests (reads_of (g.D.Disk.moments c.change_form.new.disk).now) (live_now g c told) ∙ ap requests_among (there_now g c told)
    ∙ sym (before_is (reads_of old.now) c.args.opened c.in_ok-taken.taken (c.requires.none told) (in_step_form c.args.journal old.now 2 (c.requires.in_step told) c.requires.form) (c.requires.payloads told) c.in_ok-taken.ensures.records c.in_ok-taken.ensures.is)

pub returns-in-Ok-clause-in_step : goal.returns-in-Ok-clause-in_step
returns-in-Ok-clause-in_step g c = λ told. record {
  journal_in_step = c.in-Ok.ensures.in_step told;
  form = c.in-Ok.ensures.form ∙ ap (λ (s : SideContent). s.form) c.in_ok-side.ensures;
  payloads_are = c.in_ok-held.ensures.payloads ∙ sym (there_now g c told);
}
