-- It is called so.
use Rattle.std.proofs.Common.{◌∙◌, ap}
use Rattle.base.specs.declared.design.UnitKind.{UnitKind}
use Rattle.vhdl_spec.specs.References.{owner_name}
use Rattle.project_minimal.specs.Suppliers.{architecture_by, architecture_name}
use Rattle.project_minimal.proofs.IndexLemmas.{adds_one, named_as}
use Rattle.project_minimal.proofs.index.add_architecture.Goals as goal

pub returns-in_ok-add-in-Architecture : goal.returns-in_ok-add-in-Architecture
returns-in_ok-add-in-Architecture c =
    adds_one architecture_name c.args.library.now c.args.unit.now c.args.file c.args.count c.args.suppliers.now c.add.new.suppliers c.in_ok-name-in-Architecture.name
    (c.in_ok-add-in-Architecture.ensures.fit c.args.count c.requires.file c.requires.fit) c.in_ok-add-in-Architecture.ensures.added
    (ap (λ (kind : UnitKind). architecture_by kind c.args.library.now c.args.unit.now) c.in-Architecture.is ∙ named_as c.args.library.now c.bytes.result.now (owner_name c.args.unit.now.owner) c.owner_name.result.now c.in_ok-name-in-Architecture.name c.in_ok-name-in-Architecture.ensures c.bytes.ensures c.owner_name.ensures)
