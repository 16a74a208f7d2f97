use Rattle.std.proofs.Common.{◌≡◌, ℕ, List}
use Rattle.store_table.specs.Located.{IsTableLocated, located_table}
use Rattle.store_table.proofs.taking.number_names.Given as goal

abbrev pub invariant-loop-file : goal.invariant-loop-file
invariant-loop-file l = record {
  are : (payloads : List (List ℕ)) → IsTableLocated payloads l.initial.table → IsTableLocated payloads l.table;
  is : (payloads : List (List ℕ)) → IsTableLocated payloads l.initial.table → located_table payloads l.table ≡ located_table payloads l.initial.table;
}
