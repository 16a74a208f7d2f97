-- One unit more.
use Rattle.std.proofs.Common.{◌≡◌, ◌∙◌, ℕ, List, [], replicate, ap, refl, subst, sym, arith, length}
use Rattle.vhdl_scope.specs.declared.links.Link.{Link}
use Rattle.vhdl_scope.specs.Owned.{IsOwnedBy}
use Rattle.vhdl_scope.specs.Joins.{AreMembersTo, groups_at, no_user}
use Rattle.vhdl_scope.proofs.JoinLemmas.{members_more, members_none}
use Rattle.vhdl_scope.proofs.ScopeLemmas.{as_long, at_index}
use Rattle.vhdl_scope.proofs.joins.group_links.Goals as goal

pub loop-at-init : goal.loop-at-init
loop-at-init c keeps users zipped = subst (AreMembersTo keeps 0 c.args.groups.now users c.args.library_number) (sym (c.in_ok-members.ensures ∙ ap (λ (n : ℕ). replicate {A = List Link} n []) c.len.ensures.len)) (members_none keeps c.args.groups.now users c.args.library_number)

pub loop-at-preserved : goal.loop-at-preserved
loop-at-preserved c keeps users zipped =
    let so_far = c.loop-at.invariant keeps users zipped in
    let long = as_long _ _ _ zipped in
    members_more keeps c.args.groups.now users c.args.library_number c.loop-at.at (groups_at keeps users c.loop-at.at) c.loop-at.members.items c.join_own.new.members.items
    refl so_far (c.in_ok-join_own.ensures keeps c.args.groups.now _ _ so_far.each (at_index (IsOwnedBy keeps c.args.groups.now) c.args.owned.now users c.loop-at.at _ no_user zipped (omega (arith, long))))

pub returns : goal.returns
returns c keeps users zipped =
    let all : c.loop-at.at ≡ length users = omega (arith, as_long _ _ _ zipped) in
    subst (λ (end : ℕ). AreMembersTo keeps end c.args.groups.now users c.args.library_number c.loop-at.members.items) all (c.loop-at.invariant keeps users zipped)
