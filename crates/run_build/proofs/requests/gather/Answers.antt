-- Answers to the goals of `gather`: if memory runs out, no files are left gathered.
use Rattle.std.proofs.Common.{sym, subst}
use Rattle.run_build.specs.Requests.{IsGathered}
use Rattle.run_build.proofs.requests.gather.Goals as goal

pub returns-in_err-all-clause-gathered : goal.returns-in_err-all-clause-gathered
returns-in_err-all-clause-gathered g c =
    subst (IsGathered (g.K.Records.latest_of c.args.store.now) c.args.graph.now) (sym c.replace-before.ensures.after)
    (c.new.ensures (g.K.Records.latest_of c.args.store.now) c.args.graph.now)
