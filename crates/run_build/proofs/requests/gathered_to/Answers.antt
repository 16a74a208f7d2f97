-- Answers to the goals of `gathered_to`.
use Rattle.std.proofs.Common.{ℕ, ap, ◌∙◌, arith}
use Rattle.base.specs.PresentGraph.{below}
use Rattle.run_build.proofs.Gathering.{borrowed_bytes, gathered_more}
use Rattle.run_build.proofs.requests.gathered_to.Goals as goal

pub loop-at-init : goal.loop-at-init
loop-at-init g c = c.requires.gathered.are

pub loop-at-preserved : goal.loop-at-preserved
loop-at-preserved g c = gathered_more (g.K.Records.latest_of c.args.store.now) c.args.graph.now c.loop-at.at c.loop-at.files c.add_slice.new.files c.loop-at.invariant c.in_ok-add_slice.ensures

pub add_slice-requires-clause-recorded : goal.add_slice-requires-clause-recorded
add_slice-requires-clause-recorded g c = c.requires.recorded c.loop-at.at c.loop-at-test.true

pub returns-clause-gathered : goal.returns-clause-gathered
returns-clause-gathered g c = record {
  recorded = c.requires.recorded;
  are = c.loop-at.invariant ∙ ap (λ (n : ℕ). borrowed_bytes (g.K.Records.latest_of c.args.store.now) c.args.graph.now (below n)) (omega arith);
}
