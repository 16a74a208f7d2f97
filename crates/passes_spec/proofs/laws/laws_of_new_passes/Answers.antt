use Rattle.std.proofs.Common.{refl}
use Rattle.passes_spec.proofs.KnownEnds.{stay_true}
use Rattle.passes_spec.proofs.laws.laws_of_new_passes.Goals as goal

pub returns-clause-new : goal.returns-clause-new
returns-clause-new c answer run simulator built passed = record { passes = passed; prints = refl }

pub returns-clause-images : goal.returns-clause-images
returns-clause-images c answer before clean recorded now all new has = stay_true answer before clean recorded now all new has
