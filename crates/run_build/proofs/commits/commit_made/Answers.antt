-- Answers to the goals of `commit_made`: what is prepared is the record of what would be asked now.
use Rattle.std.proofs.Common.{◌<◌, ℕ, length, [], ◌∷◌, take, sym, ap, subst, ◌∙◌}
use Rattle.std.specs.Prelude.{slice_get}
use Rattle.std.specs.Result.{is_ok}
use Rattle.outside.specs.Records.{Record}
use Rattle.outside.specs.Commits.{one_if}
use Rattle.run_build.specs.Commits.{latest_after, HoldsFirst}
use Rattle.run_build.proofs.Latest.{latest_after-same}
use Rattle.run_build.proofs.Borrowed.{item_at}
use Rattle.run_build.proofs.Preparing.{record_now}
use Rattle.run_build.proofs.commits.commit_made.Goals as goal

pub commit_ready-requires-clause-over : goal.commit_ready-requires-clause-over
commit_ready-requires-clause-over g c =
    (c.args.graph.now, c.in-Ok.ensures.over c.args.graph.now c.requires.over, subst (λ (p : ℕ). p < length c.args.graph.now) (sym c.in-Ok.ensures.at) c.requires.position)

pub returns-in-Ok-clause-latest : goal.returns-in-Ok-clause-latest
returns-in-Ok-clause-latest g c = λ name.
    let entry = item_at c.args.graph.now c.args.at c.requires.position in
    c.commit_ready.ensures.latest name
    ∙ latest_after-same (take (one_if (is_ok c.commit_ready.result)) (g.K.Records.record_of c.prepare.new.self c.in-Ok.prepared ∷ [])) (g.K.Records.latest_of c.prepare.new.self) (g.K.Records.latest_of c.args.store.now) c.prepare.ensures.latest name
    ∙ ap (λ (r : Record). latest_after (take (one_if (is_ok c.commit_ready.result)) (r ∷ [])) (g.K.Records.latest_of c.args.store.now) name)
    (c.in-Ok.ensures.record entry.0 entry.1 ∙ record_now c.args.graph.now c.args.at entry.0 (g.K.Records.latest_of c.args.store.now) c.args.artefact.now entry.1)

pub returns-in-Ok-clause-images : goal.returns-in-Ok-clause-images
returns-in-Ok-clause-images g c = λ tells.
    let entry = item_at c.args.graph.now c.args.at c.requires.position in
    subst (λ (r : Record). HoldsFirst (one_if (is_ok c.commit_ready.result)) (g.K.Records.broken c.commit_ready.new.store) (r ∷ []) g.K.Records.records_of (g.D.Disk.moments c.args.disk.now) (g.D.Disk.moments c.commit_ready.new.disk))
    (c.in-Ok.ensures.record entry.0 entry.1 ∙ record_now c.args.graph.now c.args.at entry.0 (g.K.Records.latest_of c.args.store.now) c.args.artefact.now entry.1)
    (c.commit_ready.ensures.images tells)

pub returns-in-Ok-clause-over : goal.returns-in-Ok-clause-over
returns-in-Ok-clause-over g c =
    let entry = item_at c.args.graph.now c.args.at c.requires.position in
    c.commit_ready.ensures.over c.args.graph.now entry.0 c.len.ensures.graph (c.in-Ok.ensures.over c.args.graph.now c.requires.over)
    (ap (slice_get c.args.graph.now) c.in-Ok.ensures.at ∙ entry.1)
    (sym (ap (λ (r : Record). r.asked.name) (c.in-Ok.ensures.record entry.0 entry.1)))
