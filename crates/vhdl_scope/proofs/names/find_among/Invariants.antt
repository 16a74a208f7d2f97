-- None before the position is the name.
use Rattle.std.proofs.Common.{◌≡◌, ◌<◌, ℕ, [], false, get_or, map}
use Rattle.std.specs.Str.{bytes_eq}
use Rattle.vhdl_scope.proofs.names.find_among.Given as goal

abbrev pub invariant-loop-at : goal.invariant-loop-at
invariant-loop-at l = (k : ℕ) → k < l.at → bytes_eq l.name (get_or (map (λ key. key.items) l.names) k []) ≡ false
