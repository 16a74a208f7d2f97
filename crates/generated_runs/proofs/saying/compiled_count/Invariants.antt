-- So far the files that were compiled up to the index, of which there are no more than the index.
use Rattle.std.proofs.Common.{◌≡◌, ◌≤◌, count_by, take}
use Rattle.run_spec.specs.Statuses.{is_compiled}
use Rattle.generated_runs.proofs.saying.compiled_count.Given as goal

abbrev pub invariant-loop-status : goal.invariant-loop-status
invariant-loop-status l = (l.count ≡ count_by is_compiled (take l.status-index l.statuses)) × (l.count ≤ l.status-index)
