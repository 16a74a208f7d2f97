-- Answers to the goals of `run_all`.
use Rattle.std.proofs.Common.{refl, arith}
use Rattle.headline.proofs.Promises.{ran_none, ran_more}
use Rattle.headline.proofs.Turns.{compiler_then}
use Rattle.headline.proofs.all_runs.run_all.Goals as goal

pub loop-runs-init : goal.loop-runs-init
loop-runs-init g c = record {
  within = omega arith;
  running = c.requires.idle;
  compiler = λ request plain. refl;
  last = c.requires.last;
  ended = c.requires.begun;
  ran = λ scan is t d p compiler by. ran_none scan compiler _;
}

pub loop-runs-preserved : goal.loop-runs-preserved
loop-runs-preserved g c = record {
  within = omega (arith, c.loop-runs-test.true);
  running = c.run_then-next.ensures.running;
  compiler = compiler_then (g.P.Procs.answer c.args.procs.now) (g.P.Procs.answer c.loop-runs.procs) (g.P.Procs.answer c.run_then-next.new.procs) c.loop-runs.invariant.compiler c.run_then-next.ensures.compiler;
  last = c.run_then-next.ensures.last;
  ended = c.run_then-next.ensures.ended;
  ran = λ scan is t d p compiler by.
      ran_more scan compiler c.loop-runs.runs 1 _ _ _ (c.loop-runs.invariant.ran scan is t d p compiler by)
      (c.run_then-next.ensures.ran scan is t d p compiler (compiler_then compiler (g.P.Procs.answer c.args.procs.now) (g.P.Procs.answer c.loop-runs.procs) by c.loop-runs.invariant.compiler));
}
