use Rattle.std.proofs.Common.{◌≡◌, map, take}
use Rattle.store.proofs.parts.record_nodes.Given as goal

abbrev pub invariant-loop-location : goal.invariant-loop-location
invariant-loop-location l = l.nodes ≡ map (λ location. location.node) (take l.location-index l.locations)
