-- What holds at each turn of the loop of `run_all`: what happened so far is a history that keeps the promise.
use Rattle.std.proofs.Common.{◌≡◌, ◌≤◌, ◌-◌, ℕ, List, [], not}
use Rattle.std.specs.Prelude.{IfSome, is_some}
use Rattle.base.specs.declared.child.Exit.{Exit}
use Rattle.base.specs.declared.child.Request.{Request}
use Rattle.run_spec.specs.JournalParts.{IsCompilerOf}
use Rattle.vhdl_spec.specs.Scans.{Finding, IsScanner}
use Rattle.headline.specs.Promise.{RanAll}
use Rattle.headline.proofs.all_runs.run_all.Given as goal

abbrev pub invariant-loop-runs : goal.invariant-loop-runs
invariant-loop-runs g l = record {
  within : l.runs ≤ l.limit;
  running : g.P.Procs.running l.procs ≡ [];
  compiler : IsCompilerOf (g.P.Procs.answer l.fn.procs) (g.P.Procs.answer l.procs);
  last : g.D.Disk.tells → IfSome l.next (λ words. g.B.Between.last l.between ≡ g.D.Disk.moments l.disk);
  ended : g.B.Between.ended l.between ≡ not (is_some l.next);
  ran : (scan : List ℕ → Finding) → IsScanner scan → g.T.Tree.tells → g.D.Disk.tells → g.P.Procs.tells → (compiler : Request → Exit) → IsCompilerOf compiler (g.P.Procs.answer l.fn.procs) →
      RanAll scan compiler l.runs (record { sources = record { file = g.T.Tree.file l.fn.tree; listed = g.T.Tree.listed l.fn.tree }; disk = (g.D.Disk.moments l.fn.disk).now })
      (record { sources = record { file = g.T.Tree.file l.tree; listed = g.T.Tree.listed l.tree }; disk = (g.D.Disk.moments l.disk).now });
}

abbrev pub decreases-loop-runs : goal.decreases-loop-runs
decreases-loop-runs g l = l.limit - l.runs
