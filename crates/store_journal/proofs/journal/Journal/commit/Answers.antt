use Rattle.std.proofs.Common.{◌+◌, ℕ, List, length, sym, subst, ◌∙◌}
use Rattle.store_journal.specs.Journals.{JournalState, IsInStep}
use Rattle.store_journal.proofs.Commits.{commit_adds, commit_any, commit_never_loses, commit_in_step}
use Rattle.store_journal.proofs.LiveForms.{commit_live}
use Rattle.store_journal.proofs.journal.Journal.commit.Goals as goal

pub returns-in-Ok-clause-in_step : goal.returns-in-Ok-clause-in_step
returns-in-Ok-clause-in_step g c = λ told.
    let moments = g.D.Disk.moments in
    let same = c.bytes.ensures.bytes ∙ sym c.bytes-in-Ok.ensures.bytes in
    let in_step = commit_in_step c.args.self.now c.self.inside.broken c.args.ready.now c.bytes.result.now (moments c.args.disk.now).now (moments c.append.new.disk).now (c.requires.in_step told) c.bytes.ensures.small c.bytes.ensures.bytes (c.in-Ok.ensures.appended told) in
    let sized = subst (λ (l : List ℕ). IsInStep (record { form = c.args.self.now.form; live = c.args.self.now.live; generation = c.args.self.now.generation; len = c.args.self.now.len + length l; broken = c.self.inside.broken }) (moments c.append.new.disk).now) same in_step in
    subst (λ (j : JournalState). IsInStep (record { form = j.form; live = j.live; generation = j.generation; len = j.len + length c.bytes-in-Ok.result.now; broken = c.self.inside.broken }) (moments c.append.new.disk).now) (sym c.self.view_is) sized

pub returns-in-Ok-clause-added : goal.returns-in-Ok-clause-added
returns-in-Ok-clause-added g c = λ told.
    let moments = g.D.Disk.moments in
    commit_adds c.args.self.now c.args.ready.now c.bytes.result.now (moments c.args.disk.now).now (moments c.append.new.disk).now (c.requires.in_step told) c.bytes.ensures.small c.bytes.ensures.bytes (c.in-Ok.ensures.appended told)

pub returns-in-Ok-clause-any_moment : goal.returns-in-Ok-clause-any_moment
returns-in-Ok-clause-any_moment g c = λ told.
    let moments = g.D.Disk.moments in
    commit_any c.args.self.now c.args.ready.now c.bytes.result.now (moments c.args.disk.now) (moments c.append.new.disk) (c.requires.in_step told) c.bytes.ensures.small c.bytes.ensures.bytes (c.append.ensures.steps told)

pub returns-in-Ok-clause-loses : goal.returns-in-Ok-clause-loses
returns-in-Ok-clause-loses g c = λ told.
    let moments = g.D.Disk.moments in
    commit_never_loses c.args.self.now c.args.ready.now c.bytes.result.now (moments c.args.disk.now) (moments c.append.new.disk) (c.requires.in_step told) c.bytes.ensures.small c.bytes.ensures.bytes (c.append.ensures.steps told)

pub returns-in-Err-clause-any_moment : goal.returns-in-Err-clause-any_moment
returns-in-Err-clause-any_moment g c = λ told.
    let moments = g.D.Disk.moments in
    commit_any c.args.self.now c.args.ready.now c.bytes.result.now (moments c.args.disk.now) (moments c.append.new.disk) (c.requires.in_step told) c.bytes.ensures.small c.bytes.ensures.bytes (c.append.ensures.steps told)

pub returns-in-Err-clause-loses : goal.returns-in-Err-clause-loses
returns-in-Err-clause-loses g c = λ told.
    let moments = g.D.Disk.moments in
    commit_never_loses c.args.self.now c.args.ready.now c.bytes.result.now (moments c.args.disk.now) (moments c.append.new.disk) (c.requires.in_step told) c.bytes.ensures.small c.bytes.ensures.bytes (c.append.ensures.steps told)

pub returns-in-Ok-clause-live : goal.returns-in-Ok-clause-live
returns-in-Ok-clause-live g c = λ told.
    let moments = g.D.Disk.moments in
    commit_live c.args.self.now c.args.ready.now c.bytes.result.now (moments c.args.disk.now) (moments c.append.new.disk) (c.requires.in_step told) c.bytes.ensures.small c.bytes.ensures.bytes (c.append.ensures.steps told)

pub returns-in-Err-clause-live : goal.returns-in-Err-clause-live
returns-in-Err-clause-live g c = λ told.
    let moments = g.D.Disk.moments in
    commit_live c.args.self.now c.args.ready.now c.bytes.result.now (moments c.args.disk.now) (moments c.append.new.disk) (c.requires.in_step told) c.bytes.ensures.small c.bytes.ensures.bytes (c.append.ensures.steps told)
