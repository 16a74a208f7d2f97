-- What holds at each turn of the loop of `gathered_to`: the files so far are gathered.
use Rattle.std.proofs.Common.{◌≡◌}
use Rattle.base.specs.PresentGraph.{below}
use Rattle.run_build.proofs.Gathering.{borrowed_bytes}
use Rattle.run_build.proofs.requests.gathered_to.Given as goal

abbrev pub invariant-loop-at : goal.invariant-loop-at
invariant-loop-at g l = l.files ≡ borrowed_bytes (g.K.Records.latest_of l.store) l.graph (below l.at)
