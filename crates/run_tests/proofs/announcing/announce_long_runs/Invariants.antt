-- The loop doesn't change the state of the children.
use Rattle.std.proofs.Common.{◌≡◌}
use Rattle.run_tests.proofs.announcing.announce_long_runs.Given as goal

abbrev pub invariant-loop-run : goal.invariant-loop-run
invariant-loop-run g l = record {
  running : g.P.Procs.running l.procs ≡ g.P.Procs.running l.fn.procs;
  journal : g.P.Procs.journal l.procs ≡ g.P.Procs.journal l.fn.procs;
  same : g.P.Procs.answer l.procs ≡ g.P.Procs.answer l.fn.procs;
  starts : g.P.Procs.failed_starts l.procs ≡ g.P.Procs.failed_starts l.fn.procs;
  children : g.P.Procs.lost_children l.procs ≡ g.P.Procs.lost_children l.fn.procs;
}
