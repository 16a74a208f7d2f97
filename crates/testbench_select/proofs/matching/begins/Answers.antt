-- One pattern part and one byte at a time.
use Rattle.std.proofs.Common.{sym, ◌∙◌, arith}
use Rattle.testbench_select.proofs.Prefixes.{too_short, goes_on, stops, ended}
use Rattle.testbench_select.proofs.matching.begins.Goals as goal

pub returns-then-name-pattern_parts-clause-is : goal.returns-then-name-pattern_parts-clause-is
returns-then-name-pattern_parts-clause-is c = sym (too_short c.args.pattern_parts.now c.args.name.now c.if-name-pattern_parts.true)

pub returns-then-not-is_right-clause-is : goal.returns-then-not-is_right-clause-is
returns-then-not-is_right-clause-is c =
    sym (sym c.loop-i.invariant ∙ stops c.args.pattern_parts.now c.args.name.now c.loop-i.i c.index-pattern_parts-i.result c.loop-i-test.true (omega (arith, c.loop-i-test.true, c.if-name-pattern_parts.false)) c.index-pattern_parts-i.is (sym c.is_right.ensures ∙ c.if-not-is_right.true))

pub loop-i-preserved : goal.loop-i-preserved
loop-i-preserved c =
    goes_on c.args.pattern_parts.now c.args.name.now c.loop-i.i c.index-pattern_parts-i.result c.loop-i-test.true (omega (arith, c.loop-i-test.true, c.if-name-pattern_parts.false)) c.index-pattern_parts-i.is (sym c.is_right.ensures ∙ c.if-not-is_right.false) ∙ c.loop-i.invariant

pub returns-clause-is : goal.returns-clause-is
returns-clause-is c = sym (sym c.loop-i.invariant ∙ ended c.args.pattern_parts.now c.args.name.now c.loop-i.i c.loop-i-test.false)
