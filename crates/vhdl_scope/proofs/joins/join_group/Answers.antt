-- There is no group, or one.
use Rattle.std.proofs.Common.{List, sym, subst}
use Rattle.std.proofs.lemmas.Option.{MatchOption-at_none}
use Rattle.vhdl_scope.specs.declared.want.Group.{Group}
use Rattle.vhdl_scope.specs.Joins.{HasMember}
use Rattle.vhdl_scope.proofs.JoinLemmas.{member_none}
use Rattle.vhdl_scope.proofs.joins.join_group.Goals as goal

pub returns-in-None : goal.returns-in-None
returns-in-None c groups own each is =
    subst (λ (some : List Group). HasMember groups some c.args.link c.args.members.now.items c.args.members.now.items) (sym (MatchOption-at_none _ _ c.in-None.is is))
    (member_none groups c.args.link c.args.members.now.items)
