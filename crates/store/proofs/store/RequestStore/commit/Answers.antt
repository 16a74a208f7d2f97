use Rattle.std.proofs.Common.{subst, sym}
use Rattle.store.specs.Stored.{IsRequestStoreInStep, RequestStoreState, prepared_of, store_with}
use Rattle.store.proofs.Commits.{committed_adds, committed_in_step, committed_keeps, committed_latest, committed_leaves}
use Rattle.store.proofs.store.RequestStore.commit.Goals as goal

pub commit-requires-clause-in_step : goal.commit-requires-clause-in_step
commit-requires-clause-in_step g c = λ told. (subst (λ (s : RequestStoreState). IsRequestStoreInStep s (g.D.Disk.moments c.args.disk.now).now) (sym c.self.view_is) (c.requires.in_step told)).journal_in_step

pub returns-in_err-commit-clause-any_moment : goal.returns-in_err-commit-clause-any_moment
returns-in_err-commit-clause-any_moment g c = λ told. committed_leaves (g.D.Disk.moments c.args.disk.now) (g.D.Disk.moments c.commit.new.disk) (store_with c.self.inside.journal c.self.inside.held c.self.inside.handles) c.args.self.now (prepared_of c.prepared.inside.ready c.prepared.inside.addition c.prepared.inside.cut) c.args.prepared c.self.view_is c.prepared.view_is (c.requires.in_step told) (record { adds = c.requires.ready.adds; cut = c.requires.ready.cut; room = c.requires.ready.room }) (c.commit.ensures.live told) (c.commit.ensures.any_moment told)

pub returns-in_err-commit-clause-loses : goal.returns-in_err-commit-clause-loses
returns-in_err-commit-clause-loses g c = λ told. committed_keeps (g.D.Disk.moments c.args.disk.now) (g.D.Disk.moments c.commit.new.disk) (store_with c.self.inside.journal c.self.inside.held c.self.inside.handles) c.args.self.now (prepared_of c.prepared.inside.ready c.prepared.inside.addition c.prepared.inside.cut) c.args.prepared c.self.view_is c.prepared.view_is (c.requires.in_step told) (record { adds = c.requires.ready.adds; cut = c.requires.ready.cut; room = c.requires.ready.room }) (c.commit.ensures.live told) (c.commit.ensures.any_moment told) (c.commit.ensures.loses told)

pub returns-clause-latest : goal.returns-clause-latest
returns-clause-latest g c = λ name. committed_latest (store_with c.self.inside.journal c.self.inside.held c.self.inside.handles) c.args.self.now (prepared_of c.prepared.inside.ready c.prepared.inside.addition c.prepared.inside.cut) c.args.prepared c.put.new.self.payloads name c.self.view_is c.prepared.view_is (record { adds = c.requires.ready.adds; cut = c.requires.ready.cut; room = c.requires.ready.room }) c.put.ensures.payloads

pub returns-clause-in_step : goal.returns-clause-in_step
returns-clause-in_step g c = λ told. committed_in_step (g.D.Disk.moments c.args.disk.now) (g.D.Disk.moments c.commit.new.disk) (store_with c.self.inside.journal c.self.inside.held c.self.inside.handles) c.args.self.now (prepared_of c.prepared.inside.ready c.prepared.inside.addition c.prepared.inside.cut) c.args.prepared c.self.view_is c.prepared.view_is (c.requires.in_step told) (record { adds = c.requires.ready.adds; cut = c.requires.ready.cut; room = c.requires.ready.room }) c.commit.new.self c.put.new.self (c.in_ok-commit.ensures.in_step told) c.commit.ensures.form c.put.ensures.payloads (c.in_ok-commit.ensures.added told)

pub returns-clause-added : goal.returns-clause-added
returns-clause-added g c = λ told. committed_adds (g.D.Disk.moments c.args.disk.now) (g.D.Disk.moments c.commit.new.disk) (store_with c.self.inside.journal c.self.inside.held c.self.inside.handles) c.args.self.now (prepared_of c.prepared.inside.ready c.prepared.inside.addition c.prepared.inside.cut) c.args.prepared c.self.view_is c.prepared.view_is (c.requires.in_step told) (record { adds = c.requires.ready.adds; cut = c.requires.ready.cut; room = c.requires.ready.room }) c.commit.new.self (c.in_ok-commit.ensures.in_step told) c.commit.ensures.form (c.in_ok-commit.ensures.added told)

pub returns-clause-any_moment : goal.returns-clause-any_moment
returns-clause-any_moment g c = λ told. committed_leaves (g.D.Disk.moments c.args.disk.now) (g.D.Disk.moments c.commit.new.disk) (store_with c.self.inside.journal c.self.inside.held c.self.inside.handles) c.args.self.now (prepared_of c.prepared.inside.ready c.prepared.inside.addition c.prepared.inside.cut) c.args.prepared c.self.view_is c.prepared.view_is (c.requires.in_step told) (record { adds = c.requires.ready.adds; cut = c.requires.ready.cut; room = c.requires.ready.room }) (c.commit.ensures.live told) (c.commit.ensures.any_moment told)

pub returns-clause-loses : goal.returns-clause-loses
returns-clause-loses g c = λ told. committed_keeps (g.D.Disk.moments c.args.disk.now) (g.D.Disk.moments c.commit.new.disk) (store_with c.self.inside.journal c.self.inside.held c.self.inside.handles) c.args.self.now (prepared_of c.prepared.inside.ready c.prepared.inside.addition c.prepared.inside.cut) c.args.prepared c.self.view_is c.prepared.view_is (c.requires.in_step told) (record { adds = c.requires.ready.adds; cut = c.requires.ready.cut; room = c.requires.ready.room }) (c.commit.ensures.live told) (c.commit.ensures.any_moment told) (c.commit.ensures.loses told)
