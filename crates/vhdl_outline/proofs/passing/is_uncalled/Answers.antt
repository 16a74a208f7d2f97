-- By the tokens themselves.
use Rattle.std.proofs.Common.{◌+◌, arith}
use Rattle.std.proofs.lemmas.Bool.{not-true}
use Rattle.vhdl_outline.proofs.passing.is_uncalled.Goals as goal

pub returns : goal.returns
returns c = λ passes. record {
  reaches = omega arith;
  within = omega (arith, c.requires.ordered);
  none = c.may_call_any.ensures (not-true _ passes);
}
