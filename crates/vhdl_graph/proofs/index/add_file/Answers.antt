-- One unit more is added, or is the first that has the name of one before.
use Rattle.std.proofs.Common.{◌≡◌, ◌++◌, ℕ, ◌<◌, List, length, map, get_or, take, subst, arith}
use Rattle.std.proofs.lemmas.List.{take_all}
use Rattle.std.proofs.lemmas.Result.{err_from_is_err_and}
use Rattle.base.specs.declared.design.Unit.{Unit as DesignUnit}
use Rattle.vhdl_spec.specs.Dependencies.{LinkUnit, first_duplicate, link_unit}
use Rattle.vhdl_graph.specs.Indexes.{IsIndex}
use Rattle.vhdl_graph.proofs.IndexLemmas.{added_more, fault_more, mapped_more, mapped_split, unit_of}
use Rattle.vhdl_graph.proofs.index.add_file.Goals as goal

pub returns-in_err-add_unit-clause-added : goal.returns-in_err-add_unit-clause-added
returns-in_err-add_unit-clause-added c units named text scan is got =
    let p = err_from_is_err_and c.from_residual.result c.from_residual.ensures.1 in
    let i : ℕ = c.loop-unit.unit-index in
    let unit : DesignUnit = c.unit-item.result in
    let here : unit ≡ get_or c.args.designs.now i unit = c.unit-item.is in
    let within : i < length c.args.designs.now = c.loop-unit-test.true in
    let added = c.loop-unit.invariant.added units named text scan is got in
    rw (p.1, p.2) (fault_more units (map (link_unit c.args.file named text scan) (take i c.args.designs.now)) _ _ (link_unit c.args.file named text scan unit) c.in_err-add_unit.field-0.0
    (c.in_err-add_unit.ensures.added _ _ (added.0) (unit_of c.args.project.now.files c.args.file named text scan unit got)) (added.1)
    (mapped_split (link_unit c.args.file named text scan) c.args.designs.now i unit within here))

pub loop-unit-preserved : goal.loop-unit-preserved
loop-unit-preserved c =
    let i : ℕ = c.loop-unit.unit-index in
    let unit : DesignUnit = c.unit-item.result in
    let here : unit ≡ get_or c.args.designs.now i unit = c.unit-item.is in
    let within : i < length c.args.designs.now = c.loop-unit-test.true in
    record {
      indices = c.in_ok-add_unit.ensures.indices;
      added = λ units named text scan is got.
          let added = c.loop-unit.invariant.added units named text scan is got in
          added_more c.args.project.now.files units (map (link_unit c.args.file named text scan) (take i c.args.designs.now)) (link_unit c.args.file named text scan unit) c.add_unit.new.index
          (c.in_ok-add_unit.ensures.added _ _ (added.0) (unit_of c.args.project.now.files c.args.file named text scan unit got)) (added.1) _
          (mapped_more (link_unit c.args.file named text scan) c.args.designs.now i unit within here);
    }

pub returns-clause-added : goal.returns-clause-added
returns-clause-added c units named text scan is got =
    let i : ℕ = c.loop-unit.unit-index in
    let added = c.loop-unit.invariant.added units named text scan is got in
    let all : take i c.args.designs.now ≡ c.args.designs.now = take_all i c.args.designs.now (omega (arith, c.loop-unit-test.false)) in (
      subst (λ (us : List DesignUnit). IsIndex c.args.project.now.files (units ++ map (link_unit c.args.file named text scan) us) c.loop-unit.index) all (added.0),
      subst (λ (us : List DesignUnit). (rest : List LinkUnit) → first_duplicate units (map (link_unit c.args.file named text scan) us ++ rest) ≡ first_duplicate (units ++ map (link_unit c.args.file named text scan) us) rest) all (added.1),
    )
