-- The kept files so far, and the files at later kept positions, which are unchanged.
use Rattle.std.proofs.Common.{◌≡◌, ℕ, ◌<◌, ◌≤◌, length, get_or, take}
use Rattle.base.specs.View.{part}
use Rattle.project_minimal.specs.Nothing.{no_entry}
use Rattle.project_minimal.proofs.parts.restrict.Given as goal

abbrev pub invariant-loop-number : goal.invariant-loop-number
invariant-loop-number l = record {
  some : l.some.items ≡ take l.number (part l.fn.entries.items l.fn.kept);
  count : length l.entries.items ≡ length l.fn.entries.items;
  left : (k : ℕ) → l.number ≤ k → k < length l.fn.kept → get_or l.entries.items (get_or l.fn.kept k 0) no_entry ≡ get_or l.fn.entries.items (get_or l.fn.kept k 0) no_entry;
}
