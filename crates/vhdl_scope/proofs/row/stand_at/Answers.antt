-- The run tells the words from the index to its end.
use Rattle.std.proofs.Common.{arith}
use Rattle.vhdl_scope.specs.declared.row.Run.{Run}
use Rattle.vhdl_scope.proofs.RowLemmas.{stands, stands_past, walk_on}
use Rattle.vhdl_scope.proofs.row.stand_at.Goals as goal

pub returns-then-run-words-clause-word : goal.returns-then-run-words-clause-word
returns-then-run-words-clause-word c row_index from before = stands c.args.runs.now (record { end = 0; word = 0 }) c.args.at c.loop-index.index row_index (omega arith) c.loop-index.invariant from before

pub returns-else-run-words-clause-word : goal.returns-else-run-words-clause-word
returns-else-run-words-clause-word c row_index from before = stands c.args.runs.now (record { end = 0; word = 0 }) c.args.at c.loop-index.index row_index (omega arith) c.loop-index.invariant from (omega arith)

pub loop-index-preserved : goal.loop-index-preserved
loop-index-preserved c = walk_on c.args.runs.now (record { end = 0; word = 0 }) c.args.at c.loop-index.index (omega arith) (omega arith) c.loop-index.invariant

pub returns-clause-word : goal.returns-clause-word
returns-clause-word c row_index from before = stands_past c.args.runs.now c.args.at c.loop-index.index row_index (omega (arith, c.loop-index-test.false)) c.loop-index.invariant from
