-- The number of files of the library so far.
use Rattle.std.proofs.Common.{◌≡◌, codes, length}
use Rattle.std.specs.List.{All}
use Rattle.bench_library.proofs.scopes.files_of.Given as goal

abbrev pub invariant-loop : goal.invariant-loop
invariant-loop l = record {
  each : length l.files ≡ l.counter;
  library : All (λ file. file.name.library ≡ codes "l") l.files;
}
