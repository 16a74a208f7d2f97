-- A disk that tells nothing of what it holds.
use Rattle.std.specs.Prelude.{[]}
use Rattle.std.proofs.Common.{arith}
use Rattle.outside.specs.Disks.{Moments, AreSound, settled_disk}
use Rattle.outside.proofs.ImageLaws.{settled_sound}

-- moments of which nothing is said: both sides were always empty
abbrev pub nothing_so_far : Moments
nothing_so_far = record { past = []; now = settled_disk (record { a = []; b = [] }) }

-- at each moment of which nothing is said, what reads gave is an image
pub nothing_is_sound : AreSound nothing_so_far
nothing_is_sound = (record { a = settled_sound [] (omega arith); b = settled_sound [] (omega arith) }, tt)
