-- The one architecture that is found is that of the bench.
use Rattle.std.proofs.Common.{◌≡◌, ◌∙◌, List, ℕ, Some, ap, sym}
use Rattle.std.specs.Prelude.{Ok}
use Rattle.base_collections.specs.Maps.{get}
use Rattle.base_outcomes.specs.declared.bench.Bench.{Bench}
use Rattle.base.specs.declared.design.Unit.{Unit as DesignUnit}
use Rattle.testbench_scan.specs.Architectures.{first_of_some}
use Rattle.testbench_scan.specs.Benches.{architectures_of, design_unit, unit_library, unit_numbers}
use Rattle.vhdl_units.specs.UnitKeys.{is_same_unit, same_parts, unit_key}
use Rattle.testbench_scan.specs.Files.{scanned}
use Rattle.vhdl_units.specs.declared.units.UnitKey.{UnitKey}
use Rattle.testbench_scan.proofs.Owners.{first_right, one_found}
use Rattle.testbench_scan.proofs.bench.bench_at.Goals as goal

pub bench_of-requires-clause-architecture : goal.bench_of-requires-clause-architecture
bench_of-requires-clause-architecture c = c.requires.within c.in_ok-key.key c.in-Some.architectures (sym c.architectures_of.ensures ∙ c.in-Some.is)

pub returns : goal.returns
returns c scans are holds =
    let sources = scanned c.args.files scans in
    let located = c.find-found.ensures.located scans are in
    let library = unit_library sources c.args.entity in
    let name = (design_unit sources c.args.entity).name in
    let key : c.in_ok-key.key ≡ unit_key library name = c.in_ok-key.ensures ∙ same_parts _ _ _ _ (c.bytes.ensures ∙ located.library) (c.bytes-2.ensures ∙ ap (λ (u : DesignUnit). u.name) located.unit) in
    let found : first_of_some (architectures_of sources library name) ≡ Some c.in-Some.architectures =
    sym (holds (unit_key library name)) ∙ ap (λ (k : UnitKey). get is_same_unit c.args.index.now k) (sym key) ∙ sym c.architectures_of.ensures ∙ c.in-Some.is in
    one_found sources c.args.entity (architectures_of sources library name) c.in-Some.architectures found c.if-architectures.false
    ∙ ap (λ (b : Bench). Ok b) (sym (c.in_ok-bench_of.ensures scans are (first_right sources library name (unit_numbers scans) c.in-Some.architectures found)))
