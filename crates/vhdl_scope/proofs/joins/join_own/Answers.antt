-- The link is with those of all kinds.
use Rattle.std.proofs.Common.{◌∙◌}
use Rattle.vhdl_scope.proofs.JoinLemmas.{member_both}
use Rattle.vhdl_scope.proofs.joins.join_own.Goals as goal

pub returns : goal.returns
returns c keeps groups library unit each is =
    let one = c.in_ok-join_group.ensures groups _ each is.primary in
    let two = c.in_ok-join_group-2.ensures groups _ (one.each ∙ each) is.context in
    let three = c.in_ok-join_group-3.ensures groups _ (two.each ∙ (one.each ∙ each)) is.architecture in
    member_both _ _ _ _ _ _ _ one (member_both _ _ _ _ _ _ _ two three)
