-- What remains to be proved of `note_made`.
use Rattle.std.proofs.Common.{◌∙◌, true, false, get_or, sym}
use Rattle.std.proofs.Math.ListN.{set}
use Rattle.std.proofs.lemmas.List.{get_or_default}
use Rattle.run_scheduler.proofs.Passing.{set_again, set_test}
use Rattle.run_scheduler.proofs.lists.note_made.Goals as goal

pub returns-then-index-clause-made : goal.returns-then-index-clause-made
returns-then-index-clause-made c = set_again c.args.made.now.items c.args.at c.requires.at (get_or_default c.args.made.now.items c.args.at false _ c.requires.at ∙ sym c.index.ensures ∙ c.if-index.true)

pub returns-clause-later : goal.returns-clause-later
returns-clause-later c count deps waits is =
    c.finish.ensures.waits count deps waits (λ k. get_or c.args.made.now.items k false) (λ k. get_or (set c.args.made.now.items c.args.at true) k false) is
    (get_or_default c.args.made.now.items c.args.at false _ c.requires.at ∙ sym c.index.ensures ∙ c.if-index.false)
    (λ k. set_test c.args.made.now.items c.args.at k c.requires.at)
