use Rattle.std.proofs.Common.{[], ◌∷◌, ◌++◌, ap, subst, sym, ◌∙◌}
use Rattle.passes_table.specs.States.{added_pass}
use Rattle.passes.specs.Stored.{IsPassStoreInStep, PassStoreState}
use Rattle.passes.proofs.Commits.{adds_one, committed_in_step, committed_keeps, committed_leaves}
use Rattle.passes.proofs.store.PassStore.commit.Goals as goal

pub commit-requires-clause-in_step : goal.commit-requires-clause-in_step
commit-requires-clause-in_step g c = λ told. (subst (λ (s : PassStoreState). IsPassStoreInStep s (g.D.Disk.moments c.args.disk.now).now) (sym c.self.view_is) (c.requires.in_step told)).journal_in_step

pub returns-in_err-commit-clause-any_moment : goal.returns-in_err-commit-clause-any_moment
returns-in_err-commit-clause-any_moment g c = λ told.
    let a = c.requires.adds in
    let adds = adds_one c.args.self.now.held c.args.next.segment c.args.next.addition (record { read = a.read; is = a.is; fresh = a.fresh; room = a.room; text_room = a.text_room }) in
    let five = ap (λ (s : PassStoreState). s.journal.form) c.self.view_is ∙ (c.requires.in_step told).form in
    committed_leaves (g.D.Disk.moments c.args.disk.now) (g.D.Disk.moments c.commit.new.disk) c.args.self.now c.args.next.segment (added_pass c.args.self.now.held.payloads c.args.next.segment c.args.next.addition) (c.requires.in_step told) adds c.self.inside.journal.form five (c.commit.ensures.any_moment told)

pub returns-in_err-commit-clause-loses : goal.returns-in_err-commit-clause-loses
returns-in_err-commit-clause-loses g c = λ told.
    let a = c.requires.adds in
    let adds = adds_one c.args.self.now.held c.args.next.segment c.args.next.addition (record { read = a.read; is = a.is; fresh = a.fresh; room = a.room; text_room = a.text_room }) in
    let five = ap (λ (s : PassStoreState). s.journal.form) c.self.view_is ∙ (c.requires.in_step told).form in
    committed_keeps (g.D.Disk.moments c.args.disk.now) (g.D.Disk.moments c.commit.new.disk) c.args.self.now c.args.next.segment (added_pass c.args.self.now.held.payloads c.args.next.segment c.args.next.addition) (c.requires.in_step told) adds c.self.inside.journal.form five (c.commit.ensures.any_moment told) (c.commit.ensures.loses told)

pub returns-clause-in_step : goal.returns-clause-in_step
returns-clause-in_step g c = λ told.
    let a = c.requires.adds in
    let adds = adds_one c.args.self.now.held c.args.next.segment c.args.next.addition (record { read = a.read; is = a.is; fresh = a.fresh; room = a.room; text_room = a.text_room }) in
    let five = ap (λ (s : PassStoreState). s.journal.form) c.self.view_is ∙ (c.requires.in_step told).form in
    committed_in_step (g.D.Disk.moments c.args.disk.now) (g.D.Disk.moments c.commit.new.disk) c.args.self.now c.args.next.segment (added_pass c.args.self.now.held.payloads c.args.next.segment c.args.next.addition) (c.requires.in_step told) adds c.self.inside.journal.form five (c.in_ok-commit.ensures.added told) c.commit.new.self c.put.new.self (c.in_ok-commit.ensures.in_step told) c.commit.ensures.form
    (c.put.ensures.payloads ∙ ap (λ (s : PassStoreState). s.held.payloads ++ c.args.next.segment ∷ []) c.self.view_is)

pub returns-clause-any_moment : goal.returns-clause-any_moment
returns-clause-any_moment g c = λ told.
    let a = c.requires.adds in
    let adds = adds_one c.args.self.now.held c.args.next.segment c.args.next.addition (record { read = a.read; is = a.is; fresh = a.fresh; room = a.room; text_room = a.text_room }) in
    let five = ap (λ (s : PassStoreState). s.journal.form) c.self.view_is ∙ (c.requires.in_step told).form in
    committed_leaves (g.D.Disk.moments c.args.disk.now) (g.D.Disk.moments c.commit.new.disk) c.args.self.now c.args.next.segment (added_pass c.args.self.now.held.payloads c.args.next.segment c.args.next.addition) (c.requires.in_step told) adds c.self.inside.journal.form five (c.commit.ensures.any_moment told)

pub returns-clause-loses : goal.returns-clause-loses
returns-clause-loses g c = λ told.
    let a = c.requires.adds in
    let adds = adds_one c.args.self.now.held c.args.next.segment c.args.next.addition (record { read = a.read; is = a.is; fresh = a.fresh; room = a.room; text_room = a.text_room }) in
    let five = ap (λ (s : PassStoreState). s.journal.form) c.self.view_is ∙ (c.requires.in_step told).form in
    committed_keeps (g.D.Disk.moments c.args.disk.now) (g.D.Disk.moments c.commit.new.disk) c.args.self.now c.args.next.segment (added_pass c.args.self.now.held.payloads c.args.next.segment c.args.next.addition) (c.requires.in_step told) adds c.self.inside.journal.form five (c.commit.ensures.any_moment told) (c.commit.ensures.loses told)
