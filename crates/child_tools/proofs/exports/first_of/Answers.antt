-- The unit at the place is the first that is missing, or isn't missing.
use Rattle.std.proofs.Common.{sym, ◌∙◌}
use Rattle.child_tools.proofs.MissingLemmas.{among, missing_here, missing_later}
use Rattle.child_tools.proofs.exports.first_of.Goals as goal

pub returns-then-missing : goal.returns-then-missing
returns-then-missing c files libraries knows =
    let here = among c.args.units.now c.loop-unit.unit-index c.unit-item.result c.loop-unit-test.true c.unit-item.is in
    missing_here files c.args.units.now c.loop-unit.unit-index c.unit-item.result c.loop-unit-test.true c.unit-item.is (c.loop-unit.invariant files libraries knows)
    (sym (c.in_ok-missing.ensures files c.args.units.now libraries knows here) ∙ c.if-missing.true)

pub loop-unit-preserved : goal.loop-unit-preserved
loop-unit-preserved c files libraries knows =
    let here = among c.args.units.now c.loop-unit.unit-index c.unit-item.result c.loop-unit-test.true c.unit-item.is in
    missing_later files c.args.units.now c.loop-unit.unit-index c.unit-item.result c.loop-unit-test.true c.unit-item.is (c.loop-unit.invariant files libraries knows)
    (sym (c.in_ok-missing.ensures files c.args.units.now libraries knows here) ∙ c.if-missing.false)
