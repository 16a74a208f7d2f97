-- The group is there, and has a number.
use Rattle.std.proofs.Common.{◌≡◌, List, ◌∷◌, ◌∙◌, [], ap, sym, subst}
use Rattle.vhdl_scope.specs.declared.want.Group.{Group}
use Rattle.vhdl_scope.specs.Names.{HasAll, group_number}
use Rattle.vhdl_scope.specs.Owned.{HasGrown}
use Rattle.vhdl_scope.proofs.OwnedLemmas.{all_one, grown_one, number_within, same_number}
use Rattle.vhdl_scope.proofs.groups.add.Goals as goal

pub returns : goal.returns
returns c =
    let keys = c.in_ok-number.ensures.keys in
    let all = subst (HasAll (c.args.group ∷ []) c.args.groups.now) (sym keys) (all_one c.args.groups.now c.args.group) in
    let number : c.in_ok-number.number ≡ group_number c.add.new.self c.args.group = c.in_ok-number.ensures.number ∙ (sym (same_number c.args.groups.now c.args.group) ∙ ap (λ (groups : List Group). group_number groups c.args.group) (sym keys)) in
    record {
      number = (number, number_within c.args.groups.now c.add.new.self c.args.group c.in_ok-number.number all number);
      all = all;
      grown = subst (HasGrown c.args.groups.now) (sym keys) (grown_one c.args.groups.now c.args.group);
    }
