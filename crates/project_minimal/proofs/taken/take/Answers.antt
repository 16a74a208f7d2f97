-- One file more.
use Rattle.std.proofs.Common.{◌∙◌, refl, sym}
use Rattle.project_minimal.proofs.TakingLemmas.{grows_file}
use Rattle.project_minimal.proofs.taken.take.Goals as goal

pub returns-clause-grows : goal.returns-clause-grows
returns-clause-grows c = grows_file c.args.count c.args.file c.args.taken.now _ c.requires.before c.requires.within (sym c.is_in.ensures ∙ c.if-is_in.false) c.in_ok-push.ensures.items c.insert.ensures.is c.insert.ensures.others refl
