-- It is called so.
use Rattle.std.proofs.Common.{◌∙◌, [], ap}
use Rattle.base.specs.declared.design.UnitKind.{UnitKind}
use Rattle.project_minimal.specs.Suppliers.{entity_by, entity_name}
use Rattle.project_minimal.proofs.IndexLemmas.{adds_one, named_as}
use Rattle.project_minimal.proofs.index.add_entity.Goals as goal

pub returns-in_ok-add-in-Entity : goal.returns-in_ok-add-in-Entity
returns-in_ok-add-in-Entity c =
    adds_one entity_name c.args.library.now c.args.unit.now c.args.file c.args.count c.args.suppliers.now c.add.new.suppliers c.in_ok-name-in-Entity.name
    (c.in_ok-add-in-Entity.ensures.fit c.args.count c.requires.file c.requires.fit) c.in_ok-add-in-Entity.ensures.added
    (ap (λ (kind : UnitKind). entity_by kind c.args.library.now c.args.unit.now) c.in-Entity.is ∙ named_as [] c.as_slice.result.now c.args.unit.now.name c.bytes.result.now c.in_ok-name-in-Entity.name c.in_ok-name-in-Entity.ensures c.as_slice.ensures c.bytes.ensures)
