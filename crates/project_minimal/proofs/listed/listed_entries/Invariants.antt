-- What the loops of `listed_entries` keep, and why they end.
use Rattle.std.proofs.Common.{◌≡◌, ◌++◌}
use Rattle.std.specs.Vec.Iter.{into_iter_items}
use Rattle.base.specs.PresentGraph.{listed}
use Rattle.project_minimal.proofs.listed.listed_entries.Given as goal

abbrev pub invariant-loop-text : goal.invariant-loop-text
invariant-loop-text l = record {
  rest : l.yielded ++ into_iter_items l.text-iterator ≡ l.fn.texts;
  entries : l.entries.items ≡ listed l.files l.yielded;
}
