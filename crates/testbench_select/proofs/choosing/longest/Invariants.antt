-- The most bytes of the names up to the index.
use Rattle.std.proofs.Common.{◌≡◌, ◌≤◌, ℕ, true, List, length, take}
use Rattle.std.specs.List.{list_any}
use Rattle.std.specs.Str.{bytes_eq}
use Rattle.testbench_select.proofs.choosing.longest.Given as goal

abbrev pub invariant-loop-name : goal.invariant-loop-name
invariant-loop-name l = (name : List ℕ) → list_any (λ key. bytes_eq name key.items) (take l.name-index l.names.keys) ≡ true → length name ≤ l.most
