use Rattle.std.proofs.Common.{◌≡◌, length, take}
use Rattle.std.specs.Prelude.{fold}
use Rattle.base_collections.specs.Fingerprints.{mixed}
use Rattle.base_collections.proofs.fingerprints.fingerprint_of_bytes.Given as goal

abbrev pub invariant-loop-byte : goal.invariant-loop-byte
invariant-loop-byte l = l.fingerprint ≡ fold mixed (length l.text) (take l.byte-index l.text)
