-- What remains to be proved of `take`.
use Rattle.std.proofs.Common.{refl, ap, ◌∙◌, Bool, false, List, length}
use Rattle.std.proofs.lemmas.List.{length-set}
use Rattle.order.specs.Waits.{file_count}
use Rattle.order.proofs.WaitSteps.{waits_taken, no_more_wait, fewer_wait}
use Rattle.order.proofs.files.ReadyFiles.take.Goals as goal

pub take_out-requires-clause-at : goal.take_out-requires-clause-at
unfolding file_count
take_out-requires-clause-at c = c.requires

pub returns-clause-files : goal.returns-clause-files
unfolding file_count
returns-clause-files c = ap (λ (xs : List Bool). length xs) c.take_out.ensures.waiting ∙ length-set c.args.self.now.waiting.items c.args.file false

pub returns-clause-waits : goal.returns-clause-waits
unfolding file_count
returns-clause-waits c = waits_taken c.args.self.now _ c.args.file c.requires c.take_out.ensures.waiting refl refl

pub returns-clause-no_more : goal.returns-clause-no_more
unfolding file_count
returns-clause-no_more c = no_more_wait c.args.self.now _ c.args.file c.requires c.take_out.ensures.waiting

pub returns-clause-fewer : goal.returns-clause-fewer
unfolding file_count
returns-clause-fewer c = fewer_wait c.args.self.now _ c.args.file c.requires c.args.self.now.exact c.take_out.ensures.waiting
