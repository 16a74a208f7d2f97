-- One unit more.
use Rattle.std.proofs.Common.{take}
use Rattle.project_minimal.proofs.IndexLemmas.{all_more, all_nothing, fit_now}
use Rattle.project_minimal.proofs.index.add_units.Goals as goal

pub loop-unit-init : goal.loop-unit-init
loop-unit-init c = all_nothing c.args.library.now c.args.file c.args.count c.args.index.now c.requires.fit

pub add_unit-requires-clause-fit : goal.add_unit-requires-clause-fit
add_unit-requires-clause-fit c = fit_now c.args.library.now (take c.loop-unit.unit-index c.args.units.now) c.args.file c.args.count c.args.index.now c.loop-unit.index c.loop-unit.invariant

pub loop-unit-preserved : goal.loop-unit-preserved
loop-unit-preserved c = all_more c.args.library.now c.args.units.now c.loop-unit.unit-index c.unit-item.result c.args.file c.args.count c.args.index.now c.loop-unit.index c.add_unit.new.index c.loop-unit-test.true c.unit-item.is c.loop-unit.invariant c.in_ok-add_unit.ensures
