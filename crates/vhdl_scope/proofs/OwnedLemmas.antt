-- What stays of the numbers of groups when groups are added.
use Rattle.std.proofs.Common.{◌≡◌, ℕ, ◌+◌, ◌<◌, ◌≤◌, Bool, true, false, true≢false, ◌||◌, cond, not, List, [], ◌∷◌, ◌++◌, Contains, Option, Some, None, length, map, take, get_or, nat_eq, ◌⊎◌, inl, inr, refl, sym, ◌∙◌, ap, subst, arith, length-append, append-nil}
use Rattle.std.specs.List.{AllZip, flat_map, list_any, slice_get}
use Rattle.std.proofs.lemmas.Bool.{cases_lt, eq-eqb, false_from_ne_true}
use Rattle.std.proofs.lemmas.Bool.Decides.{nat_tests}
use Rattle.std.proofs.lemmas.List.Folds.{position_or_len_push}
use Rattle.std.proofs.lemmas.List.Sums.{prefix_len-le-length}
use Rattle.std.proofs.lemmas.List.Elements.{Contains-append_cases, Contains-append_left, Contains-append_right}
use Rattle.std.proofs.lemmas.Grind.{flat_map-append}
use Rattle.std.proofs.lemmas.Option.{get_or_from_slice_get, same_Some, slice_get_within}
use Rattle.base.specs.declared.design.Scan.{Scan}
use Rattle.base.specs.declared.design.Unit.{Unit as DesignUnit}
use Rattle.vhdl_spec.specs.References.{is_configuration}
use Rattle.vhdl_spec.specs.Visibility.{ScopeUnit, scope_unit}
use Rattle.vhdl_spec.proofs.SomeTests.{Contains-first}
use Rattle.vhdl_scope.specs.declared.groups.Owned.{Owned}
use Rattle.vhdl_scope.specs.declared.want.Group.{Group}
use Rattle.vhdl_scope.specs.Groups.{is_same_group}
use Rattle.vhdl_scope.specs.Names.{HasAll, group_number}
use Rattle.vhdl_scope.specs.Owned.{AddsOwned, HasGrown, IsNumbered, IsOnly, IsOwned, IsOwnedBy}
use Rattle.vhdl_scope.specs.Scopes.{NeedNoMore}
use Rattle.vhdl_scope.specs.Wants.{kept_groups, user_groups}
use Rattle.vhdl_scope.proofs.KeyLemmas.{all_both, all_more, all_none, already, numbered}
use Rattle.vhdl_scope.proofs.ScopeLemmas.{unit_more}
use Rattle.vhdl_scope.proofs.LookLemmas.{one_of}
use Rattle.vhdl_scope.proofs.NameLemmas.{same_group, told_group}
use Rattle.vhdl_scope.proofs.Exact.{any_by}

-- the groups after one was put among them, where it wasn't there
abbrev pub with_group : List Group → Group → List Group
with_group groups group = cond (list_any (is_same_group group) groups) groups (groups ++ group ∷ [])

not_equal : (m n : ℕ) → m < n → nat_eq m n ≡ false
not_equal m n less = grind (arith, nat_tests)

pushed : (groups : List Group) (last group : Group) → group_number groups group < length groups → group_number (groups ++ last ∷ []) group ≡ group_number groups group
pushed groups last group within =
    position_or_len_push (is_same_group group) groups last
    ∙ ap (λ (b : Bool). cond b (length groups + cond (is_same_group group last) 0 1) (group_number groups group)) (not_equal (group_number groups group) (length groups) within)

pub grown_none : (groups : List Group) → HasGrown groups groups
grown_none groups = record { long = omega arith; same = λ group within. refl }

pub grown_both : (old mid new : List Group) → HasGrown old mid → HasGrown mid new → HasGrown old new
grown_both old mid new one two = record {
  long = omega (arith, one.long, two.long);
  same = λ (group : Group) (within : group_number old group < length old). two.same group (let same = one.same group within in omega (arith, one.long)) ∙ one.same group within;
}

pub grown_one : (groups : List Group) (group : Group) → HasGrown groups (with_group groups group)
grown_one groups group = by_any (list_any (is_same_group group) groups) where
  by_any : (b : Bool) → HasGrown groups (cond b groups (groups ++ group ∷ []))
  by_any true = grown_none groups
  by_any false = record { long = omega (arith, length-append groups (group ∷ [])); same = λ (other : Group) (within : group_number groups other < length groups). pushed groups group other within }

pub all_one : (groups : List Group) (group : Group) → HasAll (group ∷ []) groups (with_group groups group)
all_one groups group = by_any (list_any (is_same_group group) groups) refl where
  last : Contains (groups ++ group ∷ []) group
  last = Contains-append_right groups (group ∷ []) group (Contains-first group [])

  by_any : (b : Bool) → list_any (is_same_group group) groups ≡ b → HasAll (group ∷ []) groups (cond b groups (groups ++ group ∷ []))
  by_any true told = already is_same_group same_group told_group groups group told
  by_any false told = record {
    added = λ (other : Group) (there : Contains (group ∷ []) other). subst (Contains (groups ++ group ∷ [])) (one_of group other there) last;
    unchanged = λ (other : Group) (there : Contains groups other). Contains-append_left groups (group ∷ []) other there;
  }

-- a group keeps the number that it has or gets
pub same_number : (groups : List Group) (group : Group) → group_number (with_group groups group) group ≡ group_number groups group
same_number groups group = by_index (cases_lt (group_number groups group) (length groups)) where
  most : group_number groups group ≤ length groups
  most = prefix_len-le-length (λ (other : Group). not (is_same_group group other)) groups

  at_end : length groups ≤ group_number groups group → (b : Bool) → group_number (cond b groups (groups ++ group ∷ [])) group ≡ group_number groups group
  at_end past true = refl
  at_end past false =
      let is : group_number groups group ≡ length groups = omega (arith, most) in
      let none : length groups + 0 ≡ group_number groups group = omega (arith, is) in
      position_or_len_push (is_same_group group) groups group
      ∙ (ap (λ (b : Bool). cond b (length groups + cond (is_same_group group group) 0 1) (group_number groups group)) (eq-eqb (group_number groups group) (length groups) is)
      ∙ (ap (λ (b : Bool). length groups + cond b 0 1) (told_group group group refl) ∙ none))

  by_index : (group_number groups group < length groups) ⊎ (length groups ≤ group_number groups group) → group_number (with_group groups group) group ≡ group_number groups group
  by_index (inl within) = (grown_one groups group).same group within
  by_index (inr past) = at_end past (list_any (is_same_group group) groups)

pub number_within : (old new : List Group) (group : Group) (number : ℕ) → HasAll (group ∷ []) old new → number ≡ group_number new group → number < length new
number_within old new group number all is =
    let there = numbered is_same_group same_group told_group new group group (all.added group (Contains-first group [])) in
    omega (arith, is, there.0)

-- numbers are those of grown groups too
stays_only : (old new own : List Group) (number : ℕ) → HasGrown old new → IsOnly old own number → IsOnly new own number
stays_only old new own number grown is = record {
  group = is.group;
  only = is.only;
  is = is.is ∙ sym (grown.same is.group (subst (λ (n : ℕ). n < length old) is.is is.within));
  within = omega (arith, grown.long, is.within);
}

pub stays_numbered : (old new own : List Group) (number : Option ℕ) → HasGrown old new → IsNumbered old own number → IsNumbered new own number
stays_numbered old new own None grown is = is
stays_numbered old new own (Some number) grown is = stays_only old new own number grown is

pub stays_owned : (keeps : Bool) (old new : List Group) (library : List ℕ) (unit : DesignUnit) (owned : Owned) → HasGrown old new → IsOwned keeps old library unit owned → IsOwned keeps new library unit owned
stays_owned keeps old new library unit owned grown is = record { primary = stays_numbered old new _ owned.primary grown is.primary; context = stays_numbered old new _ owned.context grown is.context; architecture = stays_numbered old new _ owned.architecture grown is.architecture }

pub stay_owned : (keeps : Bool) (old new : List Group) (owned : List Owned) (users : List ScopeUnit) → HasGrown old new → AllZip (IsOwnedBy keeps old) owned users → AllZip (IsOwnedBy keeps new) owned users
stay_owned keeps old new [] [] grown all = all
stay_owned keeps old new [] (user ∷ users) grown all = all
stay_owned keeps old new (one ∷ owned) [] grown all = all
stay_owned keeps old new (one ∷ owned) (user ∷ users) grown all = (stays_owned keeps old new user.library user.unit one grown (all.0), stay_owned keeps old new owned users grown (all.1))

-- the groups of the units of a scan
pub groups_of_units : (keeps : Bool) (library text : List ℕ) (scan : Scan) (units : List DesignUnit) → flat_map (user_groups keeps) (map (scope_unit library text scan) units) ≡ flat_map (kept_groups keeps library) units
groups_of_units keeps library text scan [] = refl
groups_of_units keeps library text scan (unit ∷ units) = ap (λ (rest : List Group). kept_groups keeps library unit ++ rest) (groups_of_units keeps library text scan units)

-- no unit so far, and one unit more
pub owned_none : (keeps : Bool) (library : List ℕ) (groups : List Group) (owned : List Owned) → AddsOwned keeps library [] groups owned groups owned
owned_none keeps library groups owned = record {
  all = all_none groups;
  grown = grown_none groups;
  each = λ (users : List ScopeUnit) (text : List ℕ) (scan : Scan) (zipped : AllZip (IsOwnedBy keeps groups) owned users). subst (AllZip (IsOwnedBy keeps groups) owned) (sym (append-nil users)) zipped;
}

pub owned_more : (keeps : Bool) (library : List ℕ) (designs : List DesignUnit) (number : ℕ) (unit : DesignUnit) (one : Owned) (old mid new : List Group) (first owned : List Owned) → slice_get designs number ≡ Some unit → AddsOwned keeps library (take number designs) old first mid owned → IsOwned keeps new library unit one → HasAll (kept_groups keeps library unit) mid new → HasGrown mid new → AddsOwned keeps library (take (number + 1) designs) old first new (owned ++ one ∷ [])
owned_more keeps library designs number unit one old mid new first owned is so_far own all grown = record {
  all = all_more [] (kept_groups keeps library) designs number unit old mid new within so_far.all (subst (λ (u : DesignUnit). HasAll (kept_groups keeps library u) mid new) here all);
  grown = grown_both old mid new so_far.grown grown;
  each = λ (users : List ScopeUnit) (text : List ℕ) (scan : Scan) (zipped : AllZip (IsOwnedBy keeps old) first users).
      unit_more (IsOwnedBy keeps new) (scope_unit library text scan) designs number owned one users within (λ (u : DesignUnit) (there : slice_get designs number ≡ Some u). subst (λ (v : DesignUnit). IsOwned keeps new library v one) (same_Some unit u (sym is ∙ there)) own)
      (stay_owned keeps mid new owned (users ++ map (scope_unit library text scan) (take number designs)) grown (so_far.each users text scan zipped));
} where
  within : number < length designs
  within = slice_get_within designs number unit is

  here : unit ≡ get_or designs number unit
  here = sym (get_or_from_slice_get designs number unit unit is)

-- the groups of the units of one file more
pub grouped_more : (keeps : Bool) (users : List ScopeUnit) (library : List ℕ) (scan : Scan) (text : List ℕ) (old new : List Group) → HasAll (flat_map (user_groups keeps) users) [] old → HasAll (flat_map (kept_groups keeps library) scan.units) old new → HasAll (flat_map (user_groups keeps) (users ++ map (scope_unit library text scan) scan.units)) [] new
grouped_more keeps users library scan text old new one two =
    subst (λ (all : List Group). HasAll all [] new)
    (sym (flat_map-append (user_groups keeps) users (map (scope_unit library text scan) scan.units) ∙ ap (λ (rest : List Group). flat_map (user_groups keeps) users ++ rest) (groups_of_units keeps library text scan scan.units)))
    (all_both (flat_map (user_groups keeps) users) (flat_map (kept_groups keeps library) scan.units) [] old new one two)

-- a unit that isn't a configuration needs none of architectures
none_of : {X : Type 0} (test : X → Bool) (xs : List X) (x : X) → list_any test xs ≡ false → Contains xs x → test x ≡ false
none_of test xs x none there = false_from_ne_true (test x) (λ told. true≢false (sym (any_by test xs x there told) ∙ none))

-- the units of a scan, as others see them
first_plain : (first rest rest_seen : Bool) → (first || rest) ≡ false → (rest ≡ false → rest_seen ≡ false) → (first || rest_seen) ≡ false
first_plain true rest rest_seen never later = never
first_plain false rest rest_seen none later = later none

none_seen : (library text : List ℕ) (scan : Scan) (units : List DesignUnit) → list_any (λ unit. is_configuration unit.kind) units ≡ false → list_any (λ (u : ScopeUnit). is_configuration u.unit.kind) (map (scope_unit library text scan) units) ≡ false
none_seen library text scan [] none = refl
none_seen library text scan (unit ∷ units) none =
    first_plain (is_configuration unit.kind) (list_any (λ (u : DesignUnit). is_configuration u.kind) units) (list_any (λ (u : ScopeUnit). is_configuration u.unit.kind) (map (scope_unit library text scan) units)) none (none_seen library text scan units)

-- where groups of architectures aren't kept, the units of one file more need none either
pub enough_more : (keeps : Bool) (users : List ScopeUnit) (library text : List ℕ) (scan : Scan) → NeedNoMore keeps users → (keeps ≡ false → list_any (λ unit. is_configuration unit.kind) scan.units ≡ false) → NeedNoMore keeps (users ++ map (scope_unit library text scan) scan.units)
enough_more keeps users library text scan so_far none without user there = by_part (Contains-append_cases users (map (scope_unit library text scan) scan.units) user there) where
  by_part : Contains users user ⊎ Contains (map (scope_unit library text scan) scan.units) user → is_configuration user.unit.kind ≡ false
  by_part (inl before) = so_far without user before
  by_part (inr here) = none_of (λ (u : ScopeUnit). is_configuration u.unit.kind) (map (scope_unit library text scan) scan.units) user (none_seen library text scan scan.units (none without)) here

-- no file of those in which none passes has one that does
pub file_none : {X : Type 0} (test : X → Bool) (xs : List X) (at : ℕ) (x : X) → list_any test xs ≡ false → slice_get xs at ≡ Some x → test x ≡ false
file_none test xs at x none there = none_of test xs x none (at, slice_get_within xs at x there, get_or_from_slice_get xs at x x there)
