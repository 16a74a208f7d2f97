-- The number of files of the list so far.
use Rattle.std.proofs.Common.{◌≡◌, length}
use Rattle.bench_library.proofs.known_runs.start_list.Given as goal

abbrev pub invariant-loop : goal.invariant-loop
invariant-loop l = length l.store.held.built ≡ l.counter
