use Rattle.std.proofs.Common.{ap, sym, ◌∙◌}
use Rattle.passes_codec.specs.PassTables.{passes_among}
use Rattle.passes.proofs.PassMoments.{empty_loses, empty_opens, none_among}
use Rattle.passes.proofs.store.PassStore.emptied.Goals as goal

pub returns-in_err-journal-clause-opens : goal.returns-in_err-journal-clause-opens
returns-in_err-journal-clause-opens g c = λ told. empty_opens c.open_empty.result (g.D.Disk.moments c.args.disk.now) (g.D.Disk.moments c.open_empty.new.disk) (c.open_empty.ensures.opens told)

pub returns-in_err-journal-clause-loses : goal.returns-in_err-journal-clause-loses
returns-in_err-journal-clause-loses g c = λ told. empty_loses c.open_empty.result (g.D.Disk.moments c.args.disk.now) (g.D.Disk.moments c.open_empty.new.disk) (c.open_empty.ensures.opens told)

pub returns-in_err-held-clause-opens : goal.returns-in_err-held-clause-opens
returns-in_err-held-clause-opens g c = λ told. empty_opens c.open_empty.result (g.D.Disk.moments c.args.disk.now) (g.D.Disk.moments c.open_empty.new.disk) (c.open_empty.ensures.opens told)

pub returns-in_err-held-clause-loses : goal.returns-in_err-held-clause-loses
returns-in_err-held-clause-loses g c = λ told. empty_loses c.open_empty.result (g.D.Disk.moments c.args.disk.now) (g.D.Disk.moments c.open_empty.new.disk) (c.open_empty.ensures.opens told)

pub returns-clause-opens : goal.returns-clause-opens
returns-clause-opens g c = λ told. empty_opens c.open_empty.result (g.D.Disk.moments c.args.disk.now) (g.D.Disk.moments c.open_empty.new.disk) (c.open_empty.ensures.opens told)

pub returns-clause-loses : goal.returns-clause-loses
returns-clause-loses g c = λ told. empty_loses c.open_empty.result (g.D.Disk.moments c.args.disk.now) (g.D.Disk.moments c.open_empty.new.disk) (c.open_empty.ensures.opens told)

pub returns-clause-none : goal.returns-clause-none
returns-clause-none g c = λ told. ap passes_among (c.in_ok-journal.ensures.emptied told) ∙ none_among

pub returns-clause-passes : goal.returns-clause-passes
returns-clause-passes g c = ap passes_among (c.in_ok-held.ensures.payloads ∙ c.new.ensures) ∙ none_among

pub returns-clause-in_step : goal.returns-clause-in_step
returns-clause-in_step g c = λ told. record {
  journal_in_step = c.in_ok-journal.ensures.in_step told;
  form = c.in_ok-journal.ensures.form;
  payloads_are = c.in_ok-held.ensures.payloads ∙ c.new.ensures ∙ sym (c.in_ok-journal.ensures.emptied told);
}
