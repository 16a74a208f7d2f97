-- What holds at each turn of the loop of `built_of`: the files so far are written.
use Rattle.std.proofs.Common.{◌≡◌, length}
use Rattle.std.specs.List.{filter_map, flat_map}
use Rattle.base.specs.Jobs.{built_bytes}
use Rattle.base.specs.PresentGraph.{below}
use Rattle.run_tests.specs.Requests.{borrowed_at}
use Rattle.run_tests.proofs.requests.built_of.Given as goal

abbrev pub invariant-loop-at : goal.invariant-loop-at
invariant-loop-at g l = record {
  input : l.files ≡ flat_map built_bytes (filter_map (borrowed_at (g.K.Records.latest_of l.store) l.graph) (below l.at));
  each : length (filter_map (borrowed_at (g.K.Records.latest_of l.store) l.graph) (below l.at)) ≡ l.at;
}
