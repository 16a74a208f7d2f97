-- It is called so.
use Rattle.std.proofs.Common.{◌∙◌, ap}
use Rattle.base.specs.declared.design.UnitKind.{UnitKind}
use Rattle.project_minimal.specs.Suppliers.{body_by, body_name}
use Rattle.project_minimal.proofs.IndexLemmas.{adds_one, named_as}
use Rattle.project_minimal.proofs.index.add_body.Goals as goal

pub returns-in_ok-add-in-PackageBody : goal.returns-in_ok-add-in-PackageBody
returns-in_ok-add-in-PackageBody c =
    adds_one body_name c.args.library.now c.args.unit.now c.args.file c.args.count c.args.suppliers.now c.add.new.suppliers c.in_ok-name-in-PackageBody.name
    (c.in_ok-add-in-PackageBody.ensures.fit c.args.count c.requires.file c.requires.fit) c.in_ok-add-in-PackageBody.ensures.added
    (ap (λ (kind : UnitKind). body_by kind c.args.library.now c.args.unit.now) c.in-PackageBody.is ∙ named_as c.args.library.now c.bytes.result.now c.args.unit.now.name c.bytes-in-PackageBody.result.now c.in_ok-name-in-PackageBody.name c.in_ok-name-in-PackageBody.ensures c.bytes.ensures c.bytes-in-PackageBody.ensures)
