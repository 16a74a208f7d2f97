-- By the tokens that follow.
use Rattle.std.proofs.Common.{◌+◌, arith}
use Rattle.std.proofs.lemmas.Bool.{not-true}
use Rattle.vhdl_outline.proofs.dots.is_undotted.Goals as goal

pub returns : goal.returns
returns c = λ passes. record {
  reaches = omega arith;
  within = omega (arith, c.requires.ordered);
  none = λ k reach below. c.has_dot.ensures (not-true _ passes) (k + 1) (omega (arith, reach)) (omega (arith, below));
}
