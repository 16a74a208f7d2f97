use Rattle.std.proofs.Common.{suc}
use Rattle.std.specs.Option.{option_map_or}
use Rattle.passes_table.specs.Located.{located_passes}
use Rattle.passes_table.proofs.LastRows.{IsUpTo}
use Rattle.passes_table.proofs.compacting.is_superseded.Given as goal

abbrev pub invariant-loop-candidate : goal.invariant-loop-candidate
invariant-loop-candidate l = IsUpTo l.run l.simulator (located_passes l.held.segments l.table).passes l.table.latest.fingerprints l.candidate

abbrev pub decreases-loop-candidate : goal.decreases-loop-candidate
decreases-loop-candidate l = option_map_or (λ n. suc n) l.candidate 0
