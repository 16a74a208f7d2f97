-- What holds at each turn of the loop of `add_each`: the files so far are written.
use Rattle.std.proofs.Common.{◌≡◌, ◌++◌, take}
use Rattle.run_build.proofs.Gathering.{borrowed_bytes}
use Rattle.run_build.proofs.requests.add_each.Given as goal

abbrev pub invariant-loop-dep : goal.invariant-loop-dep
invariant-loop-dep g l = l.files ≡ l.initial.files ++ borrowed_bytes (g.K.Records.latest_of l.store) l.graph (take l.dep-index l.deps)
