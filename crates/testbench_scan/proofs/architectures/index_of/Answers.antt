-- One unit more.
use Rattle.std.proofs.Common.{List, sym, subst, take}
use Rattle.std.proofs.lemmas.List.{take_all, take_more}
use Rattle.base.specs.declared.refs.UnitId.{UnitId}
use Rattle.testbench_scan.specs.Architectures.{HoldsArchitectures}
use Rattle.testbench_scan.specs.Files.{scanned}
use Rattle.testbench_scan.proofs.architectures.index_of.Goals as goal

abbrev none : UnitId
none = record { file = 0; unit = 0 }

pub loop-id-preserved : goal.loop-id-preserved
loop-id-preserved c = record {
  within = c.in_ok-add_unit.ensures.within;
  holds = λ scans are. subst (λ (ids : List UnitId). HoldsArchitectures (scanned c.args.files scans) ids c.add_unit.new.index) (sym (take_more c.args.ids.now c.loop-id.id-index none c.loop-id-test.true)) (c.in_ok-add_unit.ensures.added scans (take c.loop-id.id-index c.args.ids.now) are (c.loop-id.invariant.holds scans are));
}

pub returns-clause-holds : goal.returns-clause-holds
returns-clause-holds c scans are = subst (λ (ids : List UnitId). HoldsArchitectures (scanned c.args.files scans) ids c.loop-id.index) (take_all c.loop-id.id-index c.args.ids.now c.loop-id-test.false) (c.loop-id.invariant.holds scans are)
