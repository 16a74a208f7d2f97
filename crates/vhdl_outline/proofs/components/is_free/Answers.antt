-- By these tokens.
use Rattle.std.proofs.Common.{arith}
use Rattle.std.proofs.lemmas.Bool.{not-true}
use Rattle.vhdl_outline.proofs.components.is_free.Goals as goal

pub returns : goal.returns
returns c = λ passes. record {
  reaches = omega arith;
  within = omega (arith, c.requires.ordered);
  none = c.has_component.ensures (not-true _ passes);
}
