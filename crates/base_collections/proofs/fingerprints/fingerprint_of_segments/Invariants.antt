use Rattle.std.proofs.Common.{◌≡◌}
use Rattle.base_collections.specs.Fingerprints.{fingerprinted}
use Rattle.base_collections.proofs.fingerprints.fingerprint_of_segments.Given as goal

abbrev pub invariant-loop-segment : goal.invariant-loop-segment
invariant-loop-segment l = l.fingerprint ≡ fingerprinted l.text l.segment
