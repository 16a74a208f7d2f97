-- No file up to the index has it.
use Rattle.std.proofs.Common.{◌≡◌, false, take}
use Rattle.std.specs.List.{list_any}
use Rattle.child_tools.specs.Benches.{is_bench_file}
use Rattle.child_tools.proofs.benches.has_bench.Given as goal

abbrev pub invariant-loop-file : goal.invariant-loop-file
invariant-loop-file l = list_any (is_bench_file l.job) (take l.file-index l.file-items) ≡ false
