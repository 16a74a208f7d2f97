-- The first run that ends past the index tells its word.
use Rattle.std.proofs.Common.{arith}
use Rattle.vhdl_scope.proofs.RowLemmas.{word_found, word_none, word_onward}
use Rattle.vhdl_scope.proofs.row.word_at.Goals as goal

pub returns-then-at-run : goal.returns-then-at-run
returns-then-at-run c = word_found c.args.runs.now (record { end = 0; word = 0 }) c.args.at c.loop-run.run-index c.loop-run-test.true c.loop-run.invariant c.if-at-run.true

pub loop-run-preserved : goal.loop-run-preserved
loop-run-preserved c = word_onward c.args.runs.now (record { end = 0; word = 0 }) c.args.at c.loop-run.run-index c.loop-run-test.true c.loop-run.invariant c.if-at-run.false

pub returns : goal.returns
returns c = word_none c.args.runs.now c.args.at c.loop-run.run-index (omega (arith, c.loop-run-test.false)) c.loop-run.invariant
