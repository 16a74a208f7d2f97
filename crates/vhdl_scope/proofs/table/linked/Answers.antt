-- Units are linked to the groups of what they want, and groups to the units in them.
use Rattle.std.proofs.Common.{◌≡◌, ◌∙◌, List, ℕ, length, refl, ap, arith, subst, sym}
use Rattle.std.specs.List.{AllZip}
use Rattle.vhdl_spec.specs.Visibility.{ScopeUnit, scope_units}
use Rattle.vhdl_scope.specs.declared.groups.Owned.{Owned}
use Rattle.vhdl_scope.specs.Names.{keys_of, number_of}
use Rattle.vhdl_scope.specs.Joins.{AreMembers, IsLinkedFor}
use Rattle.vhdl_scope.specs.Owned.{IsOwnedBy}
use Rattle.vhdl_scope.proofs.ScopeLemmas.{as_long}
use Rattle.vhdl_scope.proofs.table.linked.Goals as goal

pub returns : goal.returns
returns c scans are =
    let grouped = c.requires.grouped scans are in
    let users : List ScopeUnit = scope_units c.args.project.now.files c.args.texts.now scans in
    let long : length c.args.owned.items ≡ length users = as_long (IsOwnedBy grouped.keeps c.args.groups) c.args.owned.items users grouped.grouped.each in
    let counted : c.len-units.result ≡ length users = omega (arith, c.len-units.ensures, long) in
    record {
      keeps = grouped.keeps;
      groups = c.args.groups;
      of_units = c.in_ok-links.links.items;
      of_groups = c.in_ok-members.members.items;
      as_many = refl;
      are = c.in_ok-append.ensures.items;
      groups_are = grouped.grouped.all;
      enough = grouped.grouped.enough;
      links_are = subst (λ (n : ℕ). AllZip (IsLinkedFor (keys_of c.args.names.now) c.args.groups n) c.in_ok-links.links.items users) counted (c.in_ok-links.ensures scans are.files);
      members_are = subst (λ (library_number : ℕ). AreMembers grouped.keeps c.args.groups users library_number c.in_ok-members.members.items) (c.in-Some.ensures.found.0 ∙ ap (number_of (keys_of c.args.names.now)) c.as_slice.ensures)
          (c.in_ok-members.ensures grouped.keeps users (subst (λ (some : List Owned). AllZip (IsOwnedBy grouped.keeps c.args.groups) some users) (sym c.as_slice-2.ensures.value) grouped.grouped.each));
    }
