-- One unit more.
use Rattle.std.proofs.Common.{arith}
use Rattle.vhdl_spec.specs.References.{refs_of}
use Rattle.child_tools.specs.Exports.{strict_units}
use Rattle.child_tools.proofs.WantedLemmas.{few_units, joined_more}
use Rattle.child_tools.proofs.wanted.wanted_units.Goals as goal

pub overflow_cast-number : goal.overflow_cast-number
overflow_cast-number c = let few = few_units c.args.text.now c.args.scan.now c.requires.scan in omega (arith, c.requires.small)

pub loop-number-preserved : goal.loop-number-preserved
loop-number-preserved c = joined_more (λ unit. strict_units c.args.own.now (refs_of c.args.text.now c.args.scan.now.tokens.list unit)) c.args.scan.now.units c.loop-number.number _ _ c.loop-number.invariant c.in_ok-push_wanted.ensures
