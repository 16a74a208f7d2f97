-- An architecture is added, and another unit changes nothing.
use Rattle.std.proofs.Common.{◌≡◌, ◌∙◌, List, ℕ, Option, ap, sym}
use Rattle.base_collections.specs.Maps.{get}
use Rattle.base.specs.declared.design.Unit.{Unit as DesignUnit}
use Rattle.vhdl_spec.specs.Dependencies.{is_architecture_kind}
use Rattle.vhdl_spec.specs.References.{owner_name}
use Rattle.testbench_scan.specs.Architectures.{one_more}
use Rattle.testbench_scan.specs.Benches.{design_unit, unit_library}
use Rattle.vhdl_units.specs.UnitKeys.{is_same_unit, unit_key}
use Rattle.testbench_scan.specs.Files.{scanned}
use Rattle.testbench_scan.specs.declared.architectures.Architectures.{Architectures}
use Rattle.vhdl_units.specs.declared.units.UnitKey.{UnitKey}
use Rattle.testbench_scan.proofs.Owners.{found_in, holds_one, holds_other, more_in}
use Rattle.testbench_scan.proofs.architectures.add_unit.Goals as goal

pub returns-then-not-is_architecture-clause-added : goal.returns-then-not-is_architecture-clause-added
returns-then-not-is_architecture-clause-added c scans ids are holds =
    let located = c.find-found.ensures.located scans are in
    holds_other (scanned c.args.files scans) ids c.args.id c.args.index.now holds (ap (λ (u : DesignUnit). is_architecture_kind u.kind) (sym located.unit) ∙ sym c.is_architecture.ensures ∙ c.if-not-is_architecture.true)

pub returns-clause-within : goal.returns-clause-within
returns-clause-within c =
    let found : c.architectures_of.result ≡ get is_same_unit c.args.index.now c.in_ok-key.key = c.architectures_of.ensures in
    found_in c.args.files c.args.index.now c.insert.new.self c.in_ok-key.key c.one_more-more.result c.requires.within
    (more_in c.args.files c.architectures_of.result c.args.id c.one_more-more.result c.requires.id (λ one told. c.requires.within c.in_ok-key.key one (sym found ∙ told)) c.one_more-more.ensures)
    c.in_ok-insert.ensures.updates

pub returns-clause-added : goal.returns-clause-added
returns-clause-added c scans ids are holds =
    let sources = scanned c.args.files scans in
    let located = c.find-found.ensures.located scans are in
    let key : c.in_ok-key.key ≡ unit_key (unit_library sources c.args.id) (owner_name (design_unit sources c.args.id).owner) =
    c.in_ok-key.ensures ∙ ap (λ (l : List ℕ). unit_key l (owner_name c.find-found.result.unit.now.owner)) located.library ∙ ap (λ (u : DesignUnit). unit_key (unit_library sources c.args.id) (owner_name u.owner)) located.unit in
    holds_one sources ids c.args.id c.args.index.now c.insert.new.self c.in_ok-key.key c.one_more-more.result holds
    (ap (λ (u : DesignUnit). is_architecture_kind u.kind) (sym located.unit) ∙ sym c.is_architecture.ensures ∙ c.if-not-is_architecture.false)
    key (c.one_more-more.ensures ∙ ap (λ (o : Option Architectures). one_more o c.args.id) c.architectures_of.ensures) c.in_ok-insert.ensures.updates
