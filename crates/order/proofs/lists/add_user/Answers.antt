-- What remains to be proved of `add_user`.
use Rattle.std.proofs.Common.{ap, ◌∙◌, ◌++◌, [], ◌∷◌, List, ℕ}
use Rattle.std.proofs.lemmas.List.{get_or_default}
use Rattle.order.proofs.Times.{added_one}
use Rattle.order.proofs.lists.add_user.Goals as goal

pub returns-clause-added : goal.returns-clause-added
returns-clause-added c =
    added_one c.args.users.now.items c.args.dep c.args.file c.push.new.self c.requires (
    c.in_ok-push.ensures.ok ∙ ap (λ (list : List ℕ). list ++ c.args.file ∷ []) (c.index_mut-list.ensures.value ∙ get_or_default c.args.users.now.items c.args.dep c.index_mut-list.result.now [] c.requires)
    )
