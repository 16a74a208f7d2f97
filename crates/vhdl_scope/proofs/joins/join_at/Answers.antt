-- The link is added.
use Rattle.std.proofs.Common.{◌<◌, ◌∙◌, ◌∷◌, ◌++◌, List, [], ap, arith, length, sym, subst}
use Rattle.std.proofs.Math.ListN.{set}
use Rattle.std.proofs.lemmas.List.{get_or_default}
use Rattle.vhdl_scope.specs.declared.links.Link.{Link}
use Rattle.vhdl_scope.specs.declared.want.Group.{Group}
use Rattle.vhdl_scope.specs.Joins.{HasMember}
use Rattle.vhdl_scope.proofs.JoinLemmas.{member_one}
use Rattle.vhdl_scope.proofs.joins.join_at.Goals as goal

pub returns : goal.returns
returns c groups own each is =
    let within : c.args.number < length c.args.members.now.items = omega (arith, each, is.within) in
    subst (λ (some : List Group). HasMember groups some c.args.link c.args.members.now.items (set c.args.members.now.items c.args.number c.push.new.self)) (sym is.only)
    (member_one groups is.group c.args.link c.args.members.now.items c.args.number c.push.new.self is.is within is.within
    (c.in_ok-push.ensures ∙ ap (λ (some : List Link). some ++ c.args.link ∷ []) (c.index_mut.ensures.value ∙ get_or_default c.args.members.now.items c.args.number _ [] within)))
