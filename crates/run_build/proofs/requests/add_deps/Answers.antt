-- Answers to the goals of `add_deps`: where the dependencies of the file are the first files, these have records.
use Rattle.std.proofs.Common.{ℕ, List, length, get_or, ap, subst, ◌∙◌}
use Rattle.base.proofs.Below.{get_or-below}
use Rattle.outside.specs.Records.{IsRecorded}
use Rattle.run_build.proofs.requests.add_deps.Goals as goal

pub gather-requires-clause-recorded : goal.gather-requires-clause-recorded
gather-requires-clause-recorded g c = λ position lt.
    let first = c.are_first.ensures c.if-not-are_first.false in
    subst (IsRecorded (g.K.Records.latest_of c.args.store.now) c.args.graph.now)
    (ap (λ (l : List ℕ). get_or l position 0) first ∙ get_or-below (length c.args.deps.now) position 0 lt)
    (c.requires.recorded position 0 lt)
