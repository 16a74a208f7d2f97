-- What remains to be proved of `fits_parts`.
use Rattle.std.proofs.Common.{◌+◌, ◌-◌, length, drop, subst, arith}
use Rattle.project_file.specs.PathRows.{IsRow, fits_parts}
use Rattle.project_file.proofs.PathSteps.{any_part, one_down, one_part}
use Rattle.project_file.proofs.paths.fits_parts.Goals as goal

pub loop-i-preserved-then-part : goal.loop-i-preserved-then-part
loop-i-preserved-then-part c =
    let down = one_down c.loop-i.i (length c.args.parts.now) c.loop-i.invariant.within (omega (arith, c.loop-i-test.true)) in
    record {
      within = omega (arith, down.0);
      row = any_part c.args.parts.now (c.loop-i.i - 1) c.index-parts-i.result c.args.components.now c.any_components.new.row down.0 c.index-parts-i.is c.if-part.true
          (c.any_components.ensures (fits_parts (drop (c.loop-i.i - 1 + 1) c.args.parts.now)) (subst (λ n. IsRow (fits_parts (drop n c.args.parts.now)) c.args.components.now c.loop-i.row) down.1 c.loop-i.invariant.row));
    }

pub loop-i-preserved : goal.loop-i-preserved
loop-i-preserved c =
    let down = one_down c.loop-i.i (length c.args.parts.now) c.loop-i.invariant.within (omega (arith, c.loop-i-test.true)) in
    record {
      within = omega (arith, down.0);
      row = one_part c.args.parts.now (c.loop-i.i - 1) c.index-parts-i.result c.args.components.now c.one_component.new.row down.0 c.index-parts-i.is c.if-part.false
          (c.one_component.ensures (fits_parts (drop (c.loop-i.i - 1 + 1) c.args.parts.now)) (subst (λ n. IsRow (fits_parts (drop n c.args.parts.now)) c.args.components.now c.loop-i.row) down.1 c.loop-i.invariant.row));
    }
