-- Rows that were grown from what units say have exactly the libraries that the units see.
use Rattle.std.proofs.Common.{◌≡◌, ℕ, zero, suc, ◌+◌, ◌-◌, ◌<◌, ◌≤◌, Bool, true, false, if◌then◌else◌, cond, ◌&&◌, ◌||◌, not, List, [], ◌∷◌, ◌++◌, IsTrue, Contains, length, map, get_or, replicate, nat_lt, ◌⊎◌, inl, inr, refl, sym, ◌∙◌, ap, subst, arith, length-append}
use Rattle.std.specs.List.{flat_map, list_any}
use Rattle.std.specs.Prelude.{codes}
use Rattle.std.specs.Str.{bytes_eq}
use borrow.Author.Tests.{ltb-true, ltb-false}
use Rattle.std.proofs.Math.ListN.{get_or-append}
use Rattle.std.proofs.lemmas.Bool.{cases_lt}
use Rattle.std.proofs.lemmas.List.{get_or_default, get_or-append-add, get_or-map, get_or-replicate, get_or_past, length-map, length-replicate}
use Rattle.std.proofs.lemmas.List.Elements.{Contains-append_cases, Contains-append_left, Contains-append_right, Contains-get_or}
use Rattle.base.specs.declared.refs.Ref.{Ref}
use Rattle.vhdl_spec.specs.References.{work}
use Rattle.vhdl_spec.specs.Visibility.{AreClosed, ScopeUnit, enough_steps, grown, belongs_to, has_by_context, has_by_owner, is_configured_by, is_context_of, is_implicit, is_own, is_primary_of, seen_after, sees}
use Rattle.vhdl_spec.proofs.SomeTests.{and_both, and_cases, or_cases, or_first, or_second, some_of, Contains-first, Contains-later}
use Rattle.vhdl_spec.proofs.Seeing.{closed}
use Rattle.vhdl_scope.specs.declared.links.Link.{Link}
use Rattle.vhdl_outline.specs.declared.outlines.UnitScope.{UnitScope}
use Rattle.vhdl_scope.specs.declared.want.Group.{Group}
use Rattle.vhdl_scope.specs.declared.want.Want.{Want}
use Rattle.vhdl_scope.specs.Bits.{AreWithin, has, row_has}
use Rattle.vhdl_scope.specs.Groups.{is_same_group}
use Rattle.vhdl_scope.specs.Links.{AreTaken, links_at, index_row}
use Rattle.vhdl_scope.specs.Names.{group_number, implicit, name_of_number, number_of}
use Rattle.vhdl_scope.specs.Wants.{architecture_want, architectures_of, context_want, needed_library, group_of, own_groups, primary_want, unit_wants, user_groups}
use Rattle.vhdl_scope.specs.Scopes.{as_scope}
use Rattle.vhdl_scope.specs.Graph.{IsRowOf}
use Rattle.vhdl_scope.specs.Joins.{IsLinkFor, IsLinked, IsLinkedFor, IsOneOf, groups_at, link_for, no_user}
use Rattle.vhdl_scope.specs.Exact.{AreGrown}
use Rattle.vhdl_scope.proofs.BitLemmas.{past}
use Rattle.vhdl_scope.proofs.KeyLemmas.{numbered}
use Rattle.vhdl_scope.proofs.NameLemmas.{Contains-map, same_bytes, same_group, told_group, told_same}
use Rattle.vhdl_scope.proofs.ScopeLemmas.{as_long, at_index}
use Rattle.vhdl_scope.proofs.OwnGroups.{Wants, a_context, a_primary, an_architecture, configured_wanted, context_wanted, library_number_is, is_configured, is_context, is_primary, kept_own, own_kept, plain_want, primary_wanted, want_cases, want_of_configured, want_of_context, want_of_primary}

abbrev pub no_unit : ScopeUnit
no_unit = no_user

-- an element of a part is one of all parts
pub in_parts : {X Y : Type 0} (f : X → List Y) (xs : List X) (x : X) (y : Y) → Contains xs x → Contains (f x) y → Contains (flat_map f xs) y
in_parts f [] x y (k, within, is) there = absurd (omega arith)
in_parts {X} {Y} f (first ∷ xs) x y (zero, within, is) there = Contains-append_left (f first) (flat_map f xs) y (subst (λ (z : X). Contains (f z) y) (sym is) there)
in_parts f (first ∷ xs) x y (suc k, within, is) there = Contains-append_right (f first) (flat_map f xs) y (in_parts f xs x y (k, omega arith, is) there)

-- an element that passes is enough
pub any_by : {X : Type 0} (p : X → Bool) (xs : List X) (x : X) → Contains xs x → p x ≡ true → list_any p xs ≡ true
any_by p [] x (k, within, is) told = absurd (omega arith)
any_by {X} p (first ∷ xs) x (zero, within, is) told = or_first (p first) (list_any p xs) (subst (λ (z : X). p z ≡ true) (sym is) told)
any_by p (first ∷ xs) x (suc k, within, is) told = or_second (p first) (list_any p xs) (any_by p xs x (k, omega arith, is) told)

-- names without a clause, and by clauses
own_of : (user : ScopeUnit) (name : List ℕ) → Contains (implicit ++ user.names) name → is_own user name ≡ true
own_of user name (zero, within, is) = or_first (is_implicit name) (list_any (bytes_eq name) user.names) (or_first (bytes_eq name work) (bytes_eq name (codes "std")) (told_same name work (sym is)))
own_of user name (suc zero, within, is) = or_first (is_implicit name) (list_any (bytes_eq name) user.names) (or_second (bytes_eq name work) (bytes_eq name (codes "std")) (told_same name (codes "std") (sym is)))
own_of user name (suc (suc k), within, is) = or_second (is_implicit name) (list_any (bytes_eq name) user.names) (any_by (bytes_eq name) user.names name (k, omega arith, is) (told_same name name refl))

implicit_of : (name : List ℕ) → Contains (implicit ++ []) name → is_implicit name ≡ true
implicit_of name (zero, within, is) = or_first (bytes_eq name work) (bytes_eq name (codes "std")) (told_same name work (sym is))
implicit_of name (suc zero, within, is) = or_second (bytes_eq name work) (bytes_eq name (codes "std")) (told_same name (codes "std") (sym is))
implicit_of name (suc (suc k), within, is) = absurd (omega arith)

in_own : (user : ScopeUnit) (name : List ℕ) → is_own user name ≡ true → Contains (implicit ++ user.names) name
in_own user name told = by_part (or_cases (is_implicit name) (list_any (bytes_eq name) user.names) told) where
  by_implicit : (bytes_eq name work ≡ true) ⊎ (bytes_eq name (codes "std") ≡ true) → Contains (implicit ++ user.names) name
  by_implicit (inl first) = subst (Contains (implicit ++ user.names)) (sym (same_bytes name work first)) (Contains-first work (codes "std" ∷ user.names))
  by_implicit (inr second) = subst (Contains (implicit ++ user.names)) (sym (same_bytes name (codes "std") second)) (Contains-later work (codes "std") (codes "std" ∷ user.names) (Contains-first (codes "std") user.names))

  by_part : (is_implicit name ≡ true) ⊎ (list_any (bytes_eq name) user.names ≡ true) → Contains (implicit ++ user.names) name
  by_part (inl without) = by_implicit (or_cases (bytes_eq name work) (bytes_eq name (codes "std")) without)
  by_part (inr clause) =
      let found = some_of (bytes_eq name) user.names clause in
      Contains-append_right implicit user.names name (subst (Contains user.names) (sym (same_bytes name found.0 found.2)) found.1)

abbrev unit_at : List ScopeUnit → ℕ → ScopeUnit
unit_at units at = get_or units at no_unit

abbrev own_list : UnitScope → List (List ℕ)
own_list unit = implicit ++ unit.names

abbrev wants_at : List ScopeUnit → ℕ → List Want
wants_at units at = unit_wants (unit_at units at)

module _ (units : List ScopeUnit) (names : List (List ℕ)) (rows : List (List ℕ)) (is : AreGrown (map as_scope units) units names rows) where
  abbrev links : List (List Link)
  links = is.of_units ++ is.of_groups

  scopes_long : length (map as_scope units) ≡ length units
  scopes_long = length-map units as_scope

  links_long : length is.of_units ≡ length units
  links_long = as_long (IsLinkedFor names is.groups (length (map as_scope units))) is.of_units units is.links_are

  unit_links_at : (at : ℕ) → at < length units → links_at links at ≡ links_at is.of_units at
  unit_links_at at within = get_or-append is.of_units is.of_groups [] at (omega (arith, links_long))

  group_links_at : (group : ℕ) → links_at links (length units + group) ≡ links_at is.of_groups group
  group_links_at group = ap (λ (n : ℕ). links_at links (n + group)) (sym links_long) ∙ get_or-append-add is.of_units is.of_groups group []

  linked_at : (at : ℕ) → at < length units → IsLinked names is.groups (length units) (wants_at units at) (links_at is.of_units at)
  linked_at at within =
      subst (λ (n : ℕ). IsLinked names is.groups n (wants_at units at) (links_at is.of_units at)) scopes_long
      (at_index (IsLinkedFor names is.groups (length (map as_scope units))) is.of_units units at [] no_unit is.links_are within)

  abbrev lists : List (List (List ℕ))
  lists = map own_list (map as_scope units) ++ replicate (length is.groups) (implicit ++ [])

  lists_long : length (map own_list (map as_scope units)) ≡ length units
  lists_long = length-map (map as_scope units) own_list ∙ scopes_long

  row_unit : (at : ℕ) → at < length units → IsRowOf names is.words (index_row is.first at) (implicit ++ (unit_at units at).names)
  row_unit at within =
      let below : at < length (map as_scope units) = omega (arith, scopes_long) in
      let own : get_or lists at [] ≡ implicit ++ (unit_at units at).names =
      get_or-append (map own_list (map as_scope units)) (replicate (length is.groups) (implicit ++ [])) [] at (omega (arith, lists_long))
      ∙ (get_or-map own_list (map as_scope units) at (as_scope no_unit) [] below ∙ ap own_list (get_or-map as_scope units at no_unit (as_scope no_unit) within)) in
      subst (IsRowOf names is.words (index_row is.first at)) own (at_index (IsRowOf names is.words) is.first lists at [] [] is.rows_are (omega (arith, lists_long, length-append (map own_list (map as_scope units)) (replicate (length is.groups) (implicit ++ [])))))

  row_group : (group : ℕ) → group < length is.groups → IsRowOf names is.words (index_row is.first (length units + group)) (implicit ++ [])
  row_group group within =
      let own : get_or lists (length units + group) [] ≡ implicit ++ [] =
      ap (λ (n : ℕ). get_or lists (n + group) []) (sym lists_long)
      ∙ (get_or-append-add (map own_list (map as_scope units)) (replicate (length is.groups) (implicit ++ [])) group [] ∙ get_or-replicate (length is.groups) group (implicit ++ []) [] within) in
      subst (IsRowOf names is.words (index_row is.first (length units + group))) own (at_index (IsRowOf names is.words) is.first lists (length units + group) [] [] is.rows_are (omega (arith, lists_long, length-append (map own_list (map as_scope units)) (replicate (length is.groups) (implicit ++ [])), length-replicate (length is.groups) (implicit ++ []))))

  first_long : length is.first ≡ length units + length is.groups
  first_long = as_long (IsRowOf names is.words) is.first lists is.rows_are ∙ omega (arith, lists_long, length-append (map own_list (map as_scope units)) (replicate (length is.groups) (implicit ++ [])), length-replicate (length is.groups) (implicit ++ []))

  named : (name : List ℕ) → Contains (implicit ++ flat_map (λ (unit : UnitScope). unit.names) (map as_scope units)) name → (number_of names name < length names) × (name_of_number names (number_of names name) ≡ name)
  named name there = numbered bytes_eq same_bytes told_same names name [] (is.names_are.added name there)

  unit_there : (at : ℕ) → at < length units → Contains units (unit_at units at)
  unit_there at within = Contains-get_or units at no_unit within

  scope_there : (v : ScopeUnit) → Contains units v → Contains (map as_scope units) (as_scope v)
  scope_there v there = Contains-map as_scope units v there

  own_named : (user : ScopeUnit) (name : List ℕ) → Contains units user → Contains (implicit ++ user.names) name → Contains names name
  own_named user name there own = is.names_are.added name (by_part (Contains-append_cases implicit user.names name own)) where
    by_part : Contains implicit name ⊎ Contains user.names name → Contains (implicit ++ flat_map (λ (unit : UnitScope). unit.names) (map as_scope units)) name
    by_part (inl without) = Contains-append_left implicit (flat_map (λ (unit : UnitScope). unit.names) (map as_scope units)) name without
    by_part (inr clause) = Contains-append_right implicit (flat_map (λ (unit : UnitScope). unit.names) (map as_scope units)) name (in_parts (λ (unit : UnitScope). unit.names) (map as_scope units) (as_scope user) name (scope_there user there) clause)

  work_named : Contains names work
  work_named = is.names_are.added work (Contains-first work (codes "std" ∷ flat_map (λ (unit : UnitScope). unit.names) (map as_scope units)))

  -- ## Nothing but what is seen

  abbrev group_at : ℕ → Group
  group_at group = get_or is.groups group (group_of false [] [])

  abbrev is_in : Group → ScopeUnit → Bool
  is_in group v = list_any (is_same_group group) (own_groups v.library v.unit)

  abbrev in_group : Group → List ℕ → Bool
  in_group group name = is_implicit name || list_any (λ v. is_in group v && sees units v name) units

  abbrev sets : ℕ → ℕ → Bool
  sets at number = cond (nat_lt at (length units)) (sees units (unit_at units at) (name_of_number names number)) (in_group (group_at (at - length units)) (name_of_number names number))

  set_unit : (at number : ℕ) → at < length units → sets at number ≡ sees units (unit_at units at) (name_of_number names number)
  set_unit at number within = by_test (nat_lt at (length units)) refl where
    by_test : (b : Bool) → nat_lt at (length units) ≡ b → cond b (sees units (unit_at units at) (name_of_number names number)) (in_group (group_at (at - length units)) (name_of_number names number)) ≡ sees units (unit_at units at) (name_of_number names number)
    by_test true told = refl
    by_test false told = let past_end : length units ≤ at = ltb-false at (length units) told in absurd (omega arith)

  set_group : (group number : ℕ) → sets (length units + group) number ≡ in_group (group_at group) (name_of_number names number)
  set_group group number = by_test (nat_lt (length units + group) (length units)) refl where
    same : length units + group - length units ≡ group
    same = omega arith

    by_test : (b : Bool) → nat_lt (length units + group) (length units) ≡ b → cond b (sees units (unit_at units (length units + group)) (name_of_number names number)) (in_group (group_at (length units + group - length units)) (name_of_number names number)) ≡ in_group (group_at group) (name_of_number names number)
    by_test true told = let within : length units + group < length units = ltb-true (length units + group) (length units) told in absurd (omega arith)
    by_test false told = ap (λ (n : ℕ). in_group (group_at n) (name_of_number names number)) same

  is_closed : AreClosed units (sees units)
  is_closed = closed units

  own_seen : (user : ScopeUnit) (name : List ℕ) → Contains units user → is_own user name ≡ true → sees units user name ≡ true
  own_seen user name there own = is_closed.own user name there own

  -- a unit sees every name that a unit it belongs to sees; the same holds for the context declarations that it refers to
  by_owner : (user v : ScopeUnit) (name : List ℕ) → Contains units user → Contains units v → belongs_to user v ≡ true → sees units v name ≡ true → sees units user name ≡ true
  by_owner user v name there v_there owner seen =
      is_closed.grown user name there
      (or_first (sees units user name || has_by_owner units (sees units) user name) (has_by_context units (sees units) user name)
      (or_second (sees units user name) (has_by_owner units (sees units) user name)
      (any_by (λ (p : ScopeUnit). belongs_to user p && sees units p name) units v v_there (and_both (belongs_to user v) (sees units v name) owner seen))))

  by_context : (user v : ScopeUnit) (ref : Ref) (name : List ℕ) → Contains units user → Contains units v → Contains user.contexts ref → sees units user ref.library ≡ true → is_context_of user ref v ≡ true → sees units v name ≡ true → sees units user name ≡ true
  by_context user v ref name there v_there ref_there library_number context seen = by_name (is_implicit name) refl where
    some : list_any (λ (r : Ref). sees units user r.library && list_any (λ (c : ScopeUnit). is_context_of user r c && sees units c name) units) user.contexts ≡ true
    some = any_by (λ (r : Ref). sees units user r.library && list_any (λ (c : ScopeUnit). is_context_of user r c && sees units c name) units) user.contexts ref ref_there
        (and_both (sees units user ref.library) (list_any (λ (c : ScopeUnit). is_context_of user ref c && sees units c name) units) library_number
        (any_by (λ (c : ScopeUnit). is_context_of user ref c && sees units c name) units v v_there (and_both (is_context_of user ref v) (sees units v name) context seen)))

    by_name : (b : Bool) → is_implicit name ≡ b → sees units user name ≡ true
    by_name true told = own_seen user name there (or_first (is_implicit name) (list_any (bytes_eq name) user.names) told)
    by_name false told =
        is_closed.grown user name there
        (or_second (sees units user name || has_by_owner units (sees units) user name) (has_by_context units (sees units) user name)
        (subst (λ (b : Bool). (not b && list_any (λ (r : Ref). sees units user r.library && list_any (λ (c : ScopeUnit). is_context_of user r c && sees units c name) units) user.contexts) ≡ true) (sym told) some))

  -- what a group that is wanted has is seen
  from_group : (user : ScopeUnit) (want : Want) (name : List ℕ) → Contains units user → Contains (unit_wants user) want → sees units user (needed_library want) ≡ true → in_group want.group name ≡ true → sees units user name ≡ true
  from_group user want name there wanted library_number handed = by_handed (or_cases (is_implicit name) (list_any (λ v. is_in want.group v && sees units v name) units) handed) where
    in_own_groups : (v : ScopeUnit) → is_in want.group v ≡ true → Contains (own_groups v.library v.unit) want.group
    in_own_groups v told =
        let found = some_of (is_same_group want.group) (own_groups v.library v.unit) told in
        subst (Contains (own_groups v.library v.unit)) (sym (same_group want.group found.0 found.2)) found.1

    by_want : (v : ScopeUnit) → Contains units v → Contains (own_groups v.library v.unit) want.group → sees units v name ≡ true → Wants user want → sees units user name ≡ true
    by_want v v_there in_it seen (a_primary given given_is same) =
        by_owner user v name there v_there (or_first (is_primary_of user v) (is_configured_by user v) (is_primary user v given given_is (subst (λ (w : Want). Contains (own_groups v.library v.unit) w.group) same in_it))) seen
    by_want v v_there in_it seen (an_architecture entity given entity_is given_is same) =
        by_owner user v name there v_there (or_second (is_primary_of user v) (is_configured_by user v) (is_configured user v entity given entity_is given_is (subst (λ (w : Want). Contains (own_groups v.library v.unit) w.group) same in_it))) seen
    by_want v v_there in_it seen (a_context ref ref_there same) =
        by_context user v ref name there v_there ref_there (subst (λ (n : List ℕ). sees units user n ≡ true) (library_number_is user.library ref) (subst (λ (w : Want). sees units user (needed_library w) ≡ true) (sym same) library_number))
        (is_context user ref v (subst (λ (w : Want). Contains (own_groups v.library v.unit) w.group) (sym same) in_it)) seen

    by_handed : (is_implicit name ≡ true) ⊎ (list_any (λ v. is_in want.group v && sees units v name) units ≡ true) → sees units user name ≡ true
    by_handed (inl told) = own_seen user name there (or_first (is_implicit name) (list_any (bytes_eq name) user.names) told)
    by_handed (inr told) =
        let found = some_of (λ v. is_in want.group v && sees units v name) units told in
        let parts = and_cases (is_in want.group found.0) (sees units found.0 name) found.2 in
        by_want found.0 found.1 (in_own_groups found.0 (parts.0)) (parts.1) (want_cases user want wanted)

  -- each link hands on what is seen
  link_unit : (at : ℕ) → at < length units → (link : Link) → Contains (links_at is.of_units at) link → IsTrue (sets at link.library_number) → (number : ℕ) → IsTrue (sets link.source number) → IsTrue (sets at number)
  link_unit at within link there library_number number handed = by_link (linked.only link there) where
    linked : IsLinked names is.groups (length units) (wants_at units at) (links_at is.of_units at)
    linked = linked_at at within

    by_link : Contains [] link ⊎ IsLinkFor names is.groups (length units) (wants_at units at) link → IsTrue (sets at number)
    by_link (inl none) = absurd (omega (arith, none.1))
    by_link (inr for) =
        let library_number_is : link.library_number ≡ number_of names (needed_library for.want) = ap (λ (l : Link). l.library_number) for.is in
        let source_is : link.source ≡ length units + group_number is.groups for.want.group = ap (λ (l : Link). l.source) for.is in
        let name_is : name_of_number names link.library_number ≡ (needed_library for.want) = ap (name_of_number names) library_number_is ∙ (numbered bytes_eq same_bytes told_same names (needed_library for.want) [] for.there.library_number).1 in
        let group_is : group_at (group_number is.groups for.want.group) ≡ for.want.group = (numbered is_same_group same_group told_group is.groups for.want.group (group_of false [] []) for.there.group).1 in
        let open_library_number : sees units (unit_at units at) (needed_library for.want) ≡ true = subst (λ (n : List ℕ). sees units (unit_at units at) n ≡ true) name_is (sym (set_unit at link.library_number within) ∙ library_number) in
        let given : in_group for.want.group (name_of_number names number) ≡ true =
        subst (λ (g : Group). in_group g (name_of_number names number) ≡ true) group_is (sym (set_group (group_number is.groups for.want.group) number) ∙ subst (λ (n : ℕ). sets n number ≡ true) source_is handed) in
        set_unit at number within ∙ from_group (unit_at units at) for.want (name_of_number names number) (unit_there at within) for.wanted open_library_number given

  link_group : (group : ℕ) (link : Link) → Contains (links_at is.of_groups group) link → (number : ℕ) → IsTrue (sets link.source number) → IsTrue (sets (length units + group) number)
  link_group group link there number handed =
      let member = is.members_are.only group link there in
      let source : link.source < length units = omega (arith, member.1) in
      by_member source (member.2) where
        by_member : link.source < length units → IsOneOf is.groups (groups_at is.keeps units link.source) group → IsTrue (sets (length units + group) number)
        by_member source one =
            let v : ScopeUnit = unit_at units link.source in
            let owned : Contains (own_groups v.library v.unit) one.group = kept_own is.keeps v one.group one.owned in
            let group_is : group_at group ≡ one.group = ap group_at one.is ∙ (numbered is_same_group same_group told_group is.groups one.group (group_of false [] []) one.there).1 in
            let in_it : is_in one.group v ≡ true = any_by (is_same_group one.group) (own_groups v.library v.unit) one.group owned (told_group one.group one.group refl) in
            let seen : sees units v (name_of_number names number) ≡ true = sym (set_unit link.source number source) ∙ handed in
            let all : in_group one.group (name_of_number names number) ≡ true =
            or_second (is_implicit (name_of_number names number)) (list_any (λ u. is_in one.group u && sees units u (name_of_number names number)) units)
            (any_by (λ u. is_in one.group u && sees units u (name_of_number names number)) units v (unit_there link.source source) (and_both (is_in one.group v) (sees units v (name_of_number names number)) in_it seen)) in
            set_group group number ∙ subst (λ (g : Group). in_group g (name_of_number names number) ≡ true) (sym group_is) all

  sets_taken : AreTaken links sets
  sets_taken at link there library_number number handed = by_index (cases_lt at (length units)) where
    by_index : (at < length units) ⊎ (length units ≤ at) → IsTrue (sets at number)
    by_index (inl within) = link_unit at within link (subst (λ (some : List Link). Contains some link) (unit_links_at at within) there) library_number number handed
    by_index (inr past_end) =
        let same : at ≡ length units + (at - length units) = omega arith in
        subst (λ (n : ℕ). IsTrue (sets n number)) (sym same)
        (link_group (at - length units) link (subst (λ (some : List Link). Contains some link) (ap (links_at links) same ∙ group_links_at (at - length units)) there) number handed)

  sets_within : AreWithin (has is.first) sets
  sets_within at number told = by_index (cases_lt at (length units)) where
    by_group : (cases : (at - length units < length is.groups) ⊎ (length is.groups ≤ at - length units)) → length units ≤ at → IsTrue (sets at number)
    by_group (inl within) past_end =
        let same : at ≡ length units + (at - length units) = omega arith in
        let row = row_group (at - length units) within in
        let without : is_implicit (name_of_number names number) ≡ true = implicit_of (name_of_number names number) (row.only number (subst (λ (n : ℕ). row_has (index_row is.first n) number ≡ true) same told)) in
        subst (λ (n : ℕ). IsTrue (sets n number)) (sym same)
        (set_group (at - length units) number ∙ or_first (is_implicit (name_of_number names number)) (list_any (λ v. is_in (group_at (at - length units)) v && sees units v (name_of_number names number)) units) without)
    by_group (inr past_groups) past_end =
        let none : index_row is.first at ≡ [] = get_or_past is.first at [] (omega (arith, first_long)) in
        let empty : row_has [] number ≡ false = past [] number (omega arith) in
        let never : true ≡ false = sym told ∙ (ap (λ (row : List ℕ). row_has row number) none ∙ empty) in
        let impossible : ⊥ = cc in absurd impossible

    by_index : (at < length units) ⊎ (length units ≤ at) → IsTrue (sets at number)
    by_index (inl within) =
        let row = row_unit at within in
        set_unit at number within ∙ own_seen (unit_at units at) (name_of_number names number) (unit_there at within) (own_of (unit_at units at) (name_of_number names number) (row.only number told))
    by_index (inr past_end) = by_group (cases_lt (at - length units) (length is.groups)) past_end

  -- what a row has is seen
  pub only_seen : (at : ℕ) → at < length units → (number : ℕ) → has rows at number ≡ true → sees units (get_or units at no_unit) (name_of_number names number) ≡ true
  only_seen at within number told = sym (set_unit at number within) ∙ is.spread.sound sets sets_taken sets_within at number told

  -- ## Every visible name

  in_first : (at : ℕ) → at < length units → (name : List ℕ) → Contains (implicit ++ (unit_at units at).names) name → Contains names name × (has rows at (number_of names name) ≡ true)
  in_first at within name own =
      (own_named (unit_at units at) name (unit_there at within) own, is.spread.larger at (number_of names name) ((row_unit at within).put name own))

  -- a row takes what the row of a unit has that it wants
  through : (at : ℕ) → at < length units → (from : ℕ) → from < length units → (want : Want) → Contains (wants_at units at) want → Contains (own_groups (unit_at units from).library (unit_at units from).unit) want.group → Contains names (needed_library want) × (has rows at (number_of names (needed_library want)) ≡ true) → (number : ℕ) → has rows from number ≡ true → has rows at number ≡ true
  through at within from from_within want wanted owned library_number number told =
      let kept : Contains (user_groups is.keeps (unit_at units from)) want.group = own_kept is.keeps (unit_at units from) want.group owned (λ without. plain_want (unit_at units at) want (is.enough without (unit_at units at) (unit_there at within)) (want_cases (unit_at units at) want wanted)) in
      let group_known : Contains is.groups want.group = is.groups_are.added want.group (in_parts (user_groups is.keeps) units (unit_at units from) want.group (unit_there from from_within) kept) in
      let group : ℕ = group_number is.groups want.group in
      let group_within : group < length is.groups = (numbered is_same_group same_group told_group is.groups want.group (group_of false [] []) group_known).0 in
      let member : Contains (links_at is.of_groups group) (record { library_number = number_of names work; source = from }) =
      is.members_are.joined from from_within want.group kept group_known in
      let in_links : Contains (links_at links (length units + group)) (record { library_number = number_of names work; source = from }) = subst (λ (some : List Link). Contains some (record { library_number = number_of names work; source = from })) (sym (group_links_at group)) member in
      let group_library_number : has rows (length units + group) (number_of names work) ≡ true = is.spread.larger (length units + group) (number_of names work) ((row_group group group_within).put work (Contains-first work (codes "std" ∷ []))) in
      let in_group_row : has rows (length units + group) number ≡ true = is.taken (length units + group) (record { library_number = number_of names work; source = from }) in_links group_library_number number told in
      let linked = linked_at at within in
      let wanted_link : Contains (links_at is.of_units at) (link_for names is.groups (length units) want) = linked.linked want wanted (record { library_number = library_number.0; group = group_known }) in
      let in_unit : Contains (links_at links at) (link_for names is.groups (length units) want) = subst (λ (some : List Link). Contains some (link_for names is.groups (length units) want)) (sym (unit_links_at at within)) wanted_link in
      is.taken at (link_for names is.groups (length units) want) in_unit (library_number.1) number in_group_row

  -- where a unit of the list is
  index_of : (v : ScopeUnit) → Contains units v → (at : ℕ) × (at < length units) × (get_or units at no_unit ≡ v)
  index_of v (k, within, same) = (k, within, get_or_default units k no_unit v within ∙ same)

  abbrev HasSeen : ℕ → Type 0
  HasSeen steps = (at : ℕ) → at < length units → (name : List ℕ) → seen_after units steps (get_or units at no_unit) name ≡ true → Contains names name × (has rows at (number_of names name) ≡ true)

  -- what another unit has reaches a unit that wants a group of it in its own library
  from_owner : (steps : ℕ) → HasSeen steps → (at : ℕ) → at < length units → (name : List ℕ) → (v : ScopeUnit) → Contains units v → seen_after units steps v name ≡ true → (want : Want) → want.own ≡ true → Contains (wants_at units at) want → Contains (own_groups v.library v.unit) want.group → Contains names name × (has rows at (number_of names name) ≡ true)
  from_owner steps before at within name v there told want own wanted owned =
      let row_index = index_of v there in
      let seen = before row_index.0 (row_index.1) name (subst (λ (u : ScopeUnit). seen_after units steps u name ≡ true) (sym row_index.2) told) in
      let library_number : needed_library want ≡ work = ap (λ (b : Bool). if b then work else want.group.library) own in (
        seen.0,
        through at within row_index.0 (row_index.1) want wanted
            (subst (λ (u : ScopeUnit). Contains (own_groups u.library u.unit) want.group) (sym row_index.2) owned)
            (subst (λ (n : List ℕ). Contains names n × (has rows at (number_of names n) ≡ true)) (sym library_number) (in_first at within work (Contains-first work (codes "std" ∷ (unit_at units at).names))))
            (number_of names name) (seen.1),
      )

  step_owner : (steps : ℕ) → HasSeen steps → (at : ℕ) → at < length units → (name : List ℕ) → has_by_owner units (seen_after units steps) (unit_at units at) name ≡ true → Contains names name × (has rows at (number_of names name) ≡ true)
  step_owner steps before at within name told = by_kind (or_cases (is_primary_of user found.0) (is_configured_by user found.0) (parts.0)) where
    user : ScopeUnit
    user = unit_at units at

    found : (v : ScopeUnit) × Contains units v × ((belongs_to user v && seen_after units steps v name) ≡ true)
    found = some_of (λ (p : ScopeUnit). belongs_to user p && seen_after units steps p name) units told

    parts : (belongs_to user found.0 ≡ true) × (seen_after units steps found.0 name ≡ true)
    parts = and_cases (belongs_to user found.0) (seen_after units steps found.0 name) found.2

    by_kind : (is_primary_of user found.0 ≡ true) ⊎ (is_configured_by user found.0 ≡ true) → Contains names name × (has rows at (number_of names name) ≡ true)
    by_kind (inl is_primary) =
        let given = primary_wanted user found.0 is_primary in
        from_owner steps before at within name found.0 found.1 (parts.1) (primary_want user.library given.0) refl (want_of_primary user given.0 given.1) given.2
    by_kind (inr is_configured) =
        let given = configured_wanted user found.0 is_configured in
        from_owner steps before at within name found.0 found.1 (parts.1) (architecture_want user.library given.0 given.1) refl (want_of_configured user given.0 given.1 given.2 given.3) given.4

  step_context : (steps : ℕ) → HasSeen steps → (at : ℕ) → at < length units → (name : List ℕ) → has_by_context units (seen_after units steps) (unit_at units at) name ≡ true → Contains names name × (has rows at (number_of names name) ≡ true)
  step_context steps before at within name told =
      let some = (and_cases (not (is_implicit name)) (list_any (λ (r : Ref). seen_after units steps (unit_at units at) r.library && list_any (λ (c : ScopeUnit). is_context_of (unit_at units at) r c && seen_after units steps c name) units) (unit_at units at).contexts) told).1 in
      let ref = some_of (λ (r : Ref). seen_after units steps (unit_at units at) r.library && list_any (λ (c : ScopeUnit). is_context_of (unit_at units at) r c && seen_after units steps c name) units) (unit_at units at).contexts some in
      let open_parts = and_cases (seen_after units steps (unit_at units at) ref.0.library) (list_any (λ (c : ScopeUnit). is_context_of (unit_at units at) ref.0 c && seen_after units steps c name) units) ref.2 in
      let found = some_of (λ (c : ScopeUnit). is_context_of (unit_at units at) ref.0 c && seen_after units steps c name) units (open_parts.1) in
      let parts = and_cases (is_context_of (unit_at units at) ref.0 found.0) (seen_after units steps found.0 name) found.2 in
      let row_index = index_of found.0 found.1 in
      let library_number = before at within ref.0.library (open_parts.0) in
      let seen = before row_index.0 (row_index.1) name (subst (λ (v : ScopeUnit). seen_after units steps v name ≡ true) (sym row_index.2) (parts.1)) in (
        seen.0,
        through at within row_index.0 (row_index.1) (context_want (unit_at units at).library ref.0)
            (want_of_context (unit_at units at) ref.0 ref.1)
            (subst (λ (v : ScopeUnit). Contains (own_groups v.library v.unit) (context_want (unit_at units at).library ref.0).group) (sym row_index.2) (context_wanted (unit_at units at) ref.0 found.0 (parts.0)))
            (subst (λ (n : List ℕ). Contains names n × (has rows at (number_of names n) ≡ true)) (sym (library_number_is (unit_at units at).library ref.0)) library_number)
            (number_of names name) (seen.1),
      )

  by_grown : (steps : ℕ) → HasSeen steps → (at : ℕ) → at < length units → (name : List ℕ) → grown units (seen_after units steps) (unit_at units at) name ≡ true → Contains names name × (has rows at (number_of names name) ≡ true)
  by_grown steps before at within name told = by_part (or_cases (seen_after units steps (unit_at units at) name || has_by_owner units (seen_after units steps) (unit_at units at) name) (has_by_context units (seen_after units steps) (unit_at units at) name) told) where
    by_first : (seen_after units steps (unit_at units at) name ≡ true) ⊎ (has_by_owner units (seen_after units steps) (unit_at units at) name ≡ true) → Contains names name × (has rows at (number_of names name) ≡ true)
    by_first (inl same) = before at within name same
    by_first (inr owner) = step_owner steps before at within name owner

    by_part : ((seen_after units steps (unit_at units at) name || has_by_owner units (seen_after units steps) (unit_at units at) name) ≡ true) ⊎ (has_by_context units (seen_after units steps) (unit_at units at) name ≡ true) → Contains names name × (has rows at (number_of names name) ≡ true)
    by_part (inl first) = by_first (or_cases (seen_after units steps (unit_at units at) name) (has_by_owner units (seen_after units steps) (unit_at units at) name) first)
    by_part (inr context) = step_context steps before at within name context

  steps_seen : (steps : ℕ) → HasSeen steps
  unfolding seen_after
  steps_seen zero at within name told = in_first at within name (in_own (unit_at units at) name told)
  steps_seen (suc steps) at within name told = by_grown steps (steps_seen steps) at within name told

  -- what is seen is in the row
  pub all_seen : (at : ℕ) → at < length units → (name : List ℕ) → sees units (get_or units at no_unit) name ≡ true → Contains names name × (has rows at (number_of names name) ≡ true)
  all_seen at within name told = steps_seen (enough_steps units) at within name told

  pub rows_enough : length units ≤ length rows
  rows_enough = omega (arith, first_long, is.spread.each)
