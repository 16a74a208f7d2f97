use Rattle.passes_spec.proofs.KnownEnds.{still_known}
use Rattle.passes_spec.proofs.laws.laws_of_pass_compaction.Goals as goal

pub returns : goal.returns
returns c = still_known
