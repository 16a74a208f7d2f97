-- One number more.
use Rattle.std.proofs.Common.{◌≡◌, ◌++◌, ◌∷◌, [], List, append_assoc, append-nil, sym, ◌∙◌, ap}
use Rattle.base.specs.declared.refs.UnitId.{UnitId}
use Rattle.testbench_scan.specs.Benches.{unit_number}
use Rattle.base.specs.PresentGraph.{below}
use Rattle.std.proofs.Common.{map}
use Rattle.testbench_scan.proofs.Numbering.{no_numbers, numbers_more}
use Rattle.testbench_scan.proofs.numbers.add_numbers.Goals as goal

pub loop-unit-init : goal.loop-unit-init
loop-unit-init c = sym (append-nil c.args.ids.now.items) ∙ ap (λ (more : List UnitId). c.args.ids.now.items ++ more) (sym (no_numbers (unit_number c.args.file)))

pub loop-unit-preserved : goal.loop-unit-preserved
loop-unit-preserved c =
    let added : c.push.new.self.items ≡ c.loop-unit.ids.items ++ unit_number c.args.file c.loop-unit.unit ∷ [] = c.in_ok-push.ensures.items in
    added ∙ ap (λ (so_far : List UnitId). so_far ++ unit_number c.args.file c.loop-unit.unit ∷ []) c.loop-unit.invariant
    ∙ append_assoc c.args.ids.now.items (map (unit_number c.args.file) (below c.loop-unit.unit)) (unit_number c.args.file c.loop-unit.unit ∷ [])
    ∙ ap (λ (more : List UnitId). c.args.ids.now.items ++ more) (sym (numbers_more (unit_number c.args.file) c.loop-unit.unit))
