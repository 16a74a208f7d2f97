use Rattle.std.proofs.Common.{◌≢◌, map, take}
use Rattle.std.specs.Prelude.{AllPairs}
use Rattle.base_collections.specs.Names.{Holds}
use Rattle.tests_graphs.proofs.names.are_distinct.Given as goal

abbrev pub invariant-loop-entry : goal.invariant-loop-entry
invariant-loop-entry l = record {
  distinct : AllPairs (λ entry other. entry.name ≢ other.name) (take l.entry-index l.entries);
  seen : Holds l.seen (map (λ entry. entry.name) (take l.entry-index l.entries));
}
