-- A unit whose name was there is refused; else the unit is added.
use Rattle.std.proofs.Common.{◌≡◌, ◌∙◌, Option, Some, None, length, ap, sym, subst}
use Rattle.std.specs.Prelude.{OnOk, Result, Ok, Err}
use Rattle.std.specs.Option.{option_map}
use Rattle.vhdl_spec.specs.Dependencies.{LinkUnit, duplicate_of}
use Rattle.vhdl_graph.specs.declared.index.UnitIndex.{UnitIndex}
use Rattle.vhdl_graph.specs.Keys.{DesignUnitKey, key_of}
use Rattle.vhdl_graph.specs.Indexes.{GivesIndex, fault_before, index_of_unit, unit_named}
use Rattle.vhdl_graph.proofs.IndexLemmas.{alike_named, index_more, key_is, named_none, named_some, of_named, placed, indices_more, refused}
use Rattle.vhdl_graph.proofs.index.add_unit.Goals as goal

ok_always : {T E P : Type 0} (result : Result T E) → P → OnOk result P
ok_always (Ok value) is = is
ok_always (Err fault) is = tt

pub returns-in-Some-clause-indices : goal.returns-in-Some-clause-indices
returns-in-Some-clause-indices c =
    let unit_index : UnitIndex = record { file = c.args.file; is_package = c.is_package-is_package.result } in
    ok_always c.refuse.result (indices_more (length c.args.project.now.files) c.args.index.now c.insert.new.self c.in_ok-key.key unit_index c.requires.indices c.requires.file c.in_ok-unit_index.ensures.updates)

pub returns-in-Some-clause-added : goal.returns-in-Some-clause-added
returns-in-Some-clause-added c units other is of =
    let key : c.in_ok-key.key ≡ key_of other = c.in_ok-key.ensures ∙ key_is c.args.project.now.files c.args.file c.get.result.now c.args.unit.now other of c.get.ensures in
    let found = named_some units c.in_ok-key.key c.in-Some.unit_index (sym (is.holds c.in_ok-key.key) ∙ (sym c.in_ok-unit_index.ensures.old ∙ c.in-Some.is)) in
    let named : unit_named units (key_of other) ≡ Some (found.0) = subst (λ (k : DesignUnitKey). unit_named units k ≡ Some (found.0)) key (found.1) in
    refused (fault_before units other) _ (duplicate_of (found.0) other) c.refuse.result (ap (λ (o : Option LinkUnit). option_map (λ first. duplicate_of first other) o) (alike_named units other ∙ named))
    (c.refuse.ensures (found.0) other (ap (λ (p : UnitIndex). p.file) (found.2)) (of_named c.args.project.now.files units c.in_ok-key.key (found.0) is.of (found.1)) of)

pub returns-in-None-clause-added : goal.returns-in-None-clause-added
returns-in-None-clause-added c units other is of =
    let key : c.in_ok-key.key ≡ key_of other = c.in_ok-key.ensures ∙ key_is c.args.project.now.files c.args.file c.get.result.now c.args.unit.now other of c.get.ensures in
    let none : unit_named units (key_of other) ≡ None = subst (λ (k : DesignUnitKey). unit_named units k ≡ None) key (named_none units c.in_ok-key.key (sym (is.holds c.in_ok-key.key) ∙ (sym c.in_ok-unit_index.ensures.old ∙ c.in-None.is))) in
    let unit_index = placed c.args.file c.is_package-is_package.result c.args.unit.now other of.position of.is c.is_package-is_package.ensures in (
      ap (option_map (λ first. duplicate_of first other)) (alike_named units other ∙ none),
      index_more c.args.project.now.files units other c.args.index.now c.insert.new.self is of.of none
          (subst (λ (k : DesignUnitKey). GivesIndex c.args.index.now c.insert.new.self k (index_of_unit other)) key (subst (λ (p : UnitIndex). GivesIndex c.args.index.now c.insert.new.self c.in_ok-key.key p) unit_index c.in_ok-unit_index.ensures.updates)),
    )
