use Rattle.std.proofs.Common.{◌≡◌}
use Rattle.system_children.proofs.told.ToldProcs.wait_telling.Given as goal

-- the loop leaves the state of the children unchanged
abbrev pub invariant-loop : goal.invariant-loop
invariant-loop g l = record {
  running : g.P.Procs.running l.self.procs ≡ g.P.Procs.running l.initial.self.procs;
  journal : g.P.Procs.journal l.self.procs ≡ g.P.Procs.journal l.initial.self.procs;
  same : g.P.Procs.answer l.self.procs ≡ g.P.Procs.answer l.initial.self.procs;
  starts : g.P.Procs.failed_starts l.self.procs ≡ g.P.Procs.failed_starts l.initial.self.procs;
  children : g.P.Procs.lost_children l.self.procs ≡ g.P.Procs.lost_children l.initial.self.procs;
}
