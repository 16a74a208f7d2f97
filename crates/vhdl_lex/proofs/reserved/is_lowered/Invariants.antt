-- The bytes are the same so far.
use Rattle.std.proofs.Common.{◌≡◌, ℕ, ◌<◌, slice_index}
use Rattle.std.specs.Char.{to_ascii_lowercase}
use Rattle.vhdl_lex.proofs.reserved.is_lowered.Given as goal

abbrev pub invariant-loop-i : goal.invariant-loop-i
invariant-loop-i l = (k : ℕ) → k < l.i → to_ascii_lowercase (slice_index l.bytes k) ≡ slice_index l.letters k
