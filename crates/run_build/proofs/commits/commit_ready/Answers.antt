-- Answers to the goals of `commit_ready`.
use Rattle.std.proofs.Common.{◌≡◌, ◌++◌, [], ◌∷◌, true, false, sym, ap, ◌∙◌, subst, Bool}
use Rattle.std.specs.Bool.{OnFalse}
use Rattle.outside.specs.Disks.{reads_of}
use Rattle.outside.specs.Commits.{CommitsFirst}
use Rattle.outside.proofs.CommitLaws.{commits_one}
use Rattle.run_build.proofs.commits.commit_ready.Goals as goal

pub returns-in-Ok-clause-images : goal.returns-in-Ok-clause-images
returns-in-Ok-clause-images g c = λ tells. record {
  reads = subst (λ (b : Bool). OnFalse b (g.K.Records.records_of (reads_of (g.D.Disk.moments c.commit.new.disk).now) ≡ g.K.Records.records_of (reads_of (g.D.Disk.moments c.args.disk.now).now) ++ g.K.Records.record_of c.args.store.now c.args.prepared ∷ []))
      (sym c.in-Ok.ensures.broken) (c.in-Ok.ensures.added tells);
  images = subst (λ (b : Bool). CommitsFirst 1 b (g.K.Records.records_of (reads_of (g.D.Disk.moments c.args.disk.now).now)) (g.K.Records.record_of c.args.store.now c.args.prepared ∷ []) g.K.Records.records_of (g.D.Disk.moments c.args.disk.now) (g.D.Disk.moments c.commit.new.disk))
      (sym c.in-Ok.ensures.broken)
      (commits_one _ _ g.K.Records.records_of _ _ (g.met.D.Disk.sound c.commit.new.disk) (c.in-Ok.ensures.any_moment tells) (c.in-Ok.ensures.loses tells) true
      (λ image is. ap g.K.Records.records_of (g.met.K.Records.durable c.commit.new.self (g.D.Disk.moments c.commit.new.disk).now (c.in-Ok.ensures.in_step tells) image is) ∙ c.in-Ok.ensures.added tells));
  untouched = λ none. let nothing : ⊥ = cc in absurd nothing;
}

pub returns-in-Err-clause-images : goal.returns-in-Err-clause-images
returns-in-Err-clause-images g c = λ tells. record {
  reads = subst (λ (b : Bool). OnFalse b (g.K.Records.records_of (reads_of (g.D.Disk.moments c.commit.new.disk).now) ≡ g.K.Records.records_of (reads_of (g.D.Disk.moments c.args.disk.now).now) ++ [])) (sym c.in-Err.ensures.broken) tt;
  images = subst (λ (b : Bool). CommitsFirst 0 b (g.K.Records.records_of (reads_of (g.D.Disk.moments c.args.disk.now).now)) (g.K.Records.record_of c.args.store.now c.args.prepared ∷ []) g.K.Records.records_of (g.D.Disk.moments c.args.disk.now) (g.D.Disk.moments c.commit.new.disk))
      (sym c.in-Err.ensures.broken)
      (commits_one _ _ g.K.Records.records_of _ _ (g.met.D.Disk.sound c.commit.new.disk) (c.in-Err.ensures.any_moment tells) (c.in-Err.ensures.loses tells) false tt);
  untouched = λ none. let nothing : ⊥ = cc in absurd nothing;
}
