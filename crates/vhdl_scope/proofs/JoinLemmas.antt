-- The links that are added for what is wanted, and to those of groups.
use Rattle.std.proofs.Common.{◌≡◌, Bool, ◌≢◌, ℕ, ◌+◌, ◌<◌, ◌≤◌, true, false, List, [], ◌∷◌, ◌++◌, Contains, length, nat_eq, replicate, ◌⊎◌, inl, inr, refl, sym, ◌∙◌, ap, subst, arith}
use Rattle.std.specs.Str.{bytes_eq}
use Rattle.std.proofs.Math.ListN.{set}
use Rattle.std.proofs.lemmas.Bool.{cases_lt}
use Rattle.std.proofs.lemmas.Bool.Decides.{eqb_tells}
use Rattle.std.proofs.lemmas.List.{get_or_past, get_or-replicate, get_or-set_same, get_or-set_other, length-replicate, length-set}
use Rattle.std.proofs.lemmas.List.Elements.{Contains-append_cases, Contains-append_left, Contains-append_right}
use Rattle.vhdl_spec.specs.Visibility.{ScopeUnit}
use Rattle.vhdl_spec.proofs.SomeTests.{Contains-first}
use Rattle.vhdl_scope.specs.declared.links.Link.{Link}
use Rattle.vhdl_scope.specs.declared.want.Group.{Group}
use Rattle.vhdl_scope.specs.declared.want.Want.{Want}
use Rattle.vhdl_scope.specs.Groups.{is_same_group}
use Rattle.vhdl_scope.specs.Links.{links_at}
use Rattle.vhdl_scope.specs.Names.{group_number, number_of}
use Rattle.vhdl_scope.specs.Wants.{needed_library}
use Rattle.vhdl_scope.specs.Joins.{AreMembersTo, HasLinked, HasMember, IsLinkFor, IsOneOf, IsThere, groups_at, link_for}
use Rattle.vhdl_scope.proofs.KeyLemmas.{there_by}
use Rattle.vhdl_scope.proofs.LookLemmas.{one_of}
use Rattle.vhdl_scope.proofs.NameLemmas.{same_bytes, same_group, told_group, told_same}

pub linked_one : (names : List (List ℕ)) (groups : List Group) (row_indices : ℕ) (want : Want) (old : List Link) (library_number group : ℕ) → library_number ≡ number_of names (needed_library want) → library_number < length names → group ≡ group_number groups want.group → group < length groups → HasLinked names groups row_indices (want ∷ []) old (old ++ record { library_number = library_number; source = row_indices + group } ∷ [])
linked_one names groups row_indices want old library_number group is_library_number library_number_within is_group group_within = record {
  unchanged = λ (link : Link) there. Contains-append_left old (new ∷ []) link there;
  linked = λ (other : Want) (there : Contains (want ∷ []) other) (known : IsThere names groups other).
      subst (λ (w : Want). Contains (old ++ new ∷ []) (link_for names groups row_indices w)) (one_of want other there)
      (subst (Contains (old ++ new ∷ [])) same (Contains-append_right old (new ∷ []) new (Contains-first new [])));
  only = λ (link : Link) (there : Contains (old ++ new ∷ []) link). by_part link (Contains-append_cases old (new ∷ []) link there);
} where
  new : Link
  new = record { library_number = library_number; source = row_indices + group }

  same : record { library_number = library_number; source = row_indices + group } ≡ link_for names groups row_indices want
  same = cc

  known : IsThere names groups want
  known = record {
    library_number = there_by bytes_eq same_bytes told_same names (needed_library want) (subst (λ (n : ℕ). n < length names) is_library_number library_number_within);
    group = there_by is_same_group same_group told_group groups want.group (subst (λ (n : ℕ). n < length groups) is_group group_within);
  }

  by_part : (link : Link) → Contains old link ⊎ Contains (new ∷ []) link → Contains old link ⊎ IsLinkFor names groups row_indices (want ∷ []) link
  by_part link (inl before) = inl before
  by_part link (inr last) = inr (record { want = want; wanted = Contains-first want []; there = known; is = sym (one_of new link last) ∙ same })

weaker_for : (names : List (List ℕ)) (groups : List Group) (row_indices : ℕ) (some all : List Want) (link : Link) → ((want : Want) → Contains some want → Contains all want) → IsLinkFor names groups row_indices some link → IsLinkFor names groups row_indices all link
weaker_for names groups row_indices some all link within is = record { want = is.want; wanted = within is.want is.wanted; there = is.there; is = is.is }

pub linked_none : (names : List (List ℕ)) (groups : List Group) (row_indices : ℕ) (old : List Link) → HasLinked names groups row_indices [] old old
linked_none names groups row_indices old = record {
  unchanged = λ (link : Link) there. there;
  linked = λ (want : Want) (there : Contains [] want) known. absurd (omega (arith, there.1));
  only = λ (link : Link) there. inl there;
}

pub linked_both : (names : List (List ℕ)) (groups : List Group) (row_indices : ℕ) (first next : List Want) (old mid new : List Link) → HasLinked names groups row_indices first old mid → HasLinked names groups row_indices next mid new → HasLinked names groups row_indices (first ++ next) old new
linked_both names groups row_indices first next old mid new one two = record {
  unchanged = λ (link : Link) there. two.unchanged link (one.unchanged link there);
  linked = λ (want : Want) (there : Contains (first ++ next) want) (known : IsThere names groups want). by_part want known (Contains-append_cases first next want there);
  only = λ (link : Link) (there : Contains new link). by_next link (two.only link there);
} where
  by_part : (want : Want) → IsThere names groups want → Contains first want ⊎ Contains next want → Contains new (link_for names groups row_indices want)
  by_part want known (inl there) = two.unchanged (link_for names groups row_indices want) (one.linked want there known)
  by_part want known (inr there) = two.linked want there known

  by_first : (link : Link) → Contains old link ⊎ IsLinkFor names groups row_indices first link → Contains old link ⊎ IsLinkFor names groups row_indices (first ++ next) link
  by_first link (inl there) = inl there
  by_first link (inr is) = inr (weaker_for names groups row_indices first (first ++ next) link (λ (want : Want) there. Contains-append_left first next want there) is)

  by_next : (link : Link) → Contains mid link ⊎ IsLinkFor names groups row_indices next link → Contains old link ⊎ IsLinkFor names groups row_indices (first ++ next) link
  by_next link (inl there) = by_first link (one.only link there)
  by_next link (inr is) = inr (weaker_for names groups row_indices next (first ++ next) link (λ (want : Want) there. Contains-append_right first next want there) is)

-- a link was added to those of one group
module _ (groups : List Group) (group : Group) (link : Link) (old : List (List Link)) (number : ℕ) (entry : List Link) (is_number : number ≡ group_number groups group) (within : number < length old) (known : number < length groups) (is : entry ≡ links_at old number ++ link ∷ []) where
  here : links_at (set old number entry) number ≡ links_at old number ++ link ∷ []
  here = get_or-set_same old number entry [] within ∙ is

  there : Contains groups group
  there = there_by is_same_group same_group told_group groups group (subst (λ (n : ℕ). n < length groups) is_number known)

  stays : (at : ℕ) (other : Link) → Contains (links_at old at) other → Contains (links_at (set old number entry) at) other
  stays at other before = by_index (eqb_tells at number) where
    by_index : ((nat_eq at number ≡ true) × (at ≡ number)) ⊎ ((nat_eq at number ≡ false) × (at ≢ number)) → Contains (links_at (set old number entry) at) other
    by_index (inl (_, same)) =
        subst (λ (n : ℕ). Contains (links_at (set old number entry) n) other) (sym same)
        (subst (λ (some : List Link). Contains some other) (sym here) (Contains-append_left (links_at old number) (link ∷ []) other (subst (λ (n : ℕ). Contains (links_at old n) other) same before)))
    by_index (inr (_, differ)) = subst (λ (some : List Link). Contains some other) (sym (get_or-set_other old number at entry [] differ)) before

  last : Contains (links_at (set old number entry) (group_number groups group)) link
  last = subst (λ (n : ℕ). Contains (links_at (set old number entry) n) link) is_number (subst (λ (some : List Link). Contains some link) (sym here) (Contains-append_right (links_at old number) (link ∷ []) link (Contains-first link [])))

  by_part : (at : ℕ) (other : Link) → at ≡ number → Contains (links_at old number) other ⊎ Contains (link ∷ []) other → Contains (links_at old at) other ⊎ ((other ≡ link) × IsOneOf groups (group ∷ []) at)
  by_part at other same (inl before) = inl (subst (λ (n : ℕ). Contains (links_at old n) other) (sym same) before)
  by_part at other same (inr new) = inr (sym (one_of link other new), record { group = group; owned = Contains-first group []; there = there; is = same ∙ is_number })

  only_there : (at : ℕ) (other : Link) → Contains (links_at (set old number entry) at) other → Contains (links_at old at) other ⊎ ((other ≡ link) × IsOneOf groups (group ∷ []) at)
  only_there at other after = by_index (eqb_tells at number) where
    by_index : ((nat_eq at number ≡ true) × (at ≡ number)) ⊎ ((nat_eq at number ≡ false) × (at ≢ number)) → Contains (links_at old at) other ⊎ ((other ≡ link) × IsOneOf groups (group ∷ []) at)
    by_index (inl (_, same)) =
        by_part at other same (Contains-append_cases (links_at old number) (link ∷ []) other (subst (λ (some : List Link). Contains some other) here (subst (λ (n : ℕ). Contains (links_at (set old number entry) n) other) same after)))
    by_index (inr (_, differ)) = inl (subst (λ (some : List Link). Contains some other) (get_or-set_other old number at entry [] differ) after)

  pub member_one : HasMember groups (group ∷ []) link old (set old number entry)
  member_one = record {
    each = length-set old number entry;
    unchanged = stays;
    joined = λ (other : Group) (in_own : Contains (group ∷ []) other) (in_groups : Contains groups other). subst (λ (g : Group). Contains (links_at (set old number entry) (group_number groups g)) link) (one_of group other in_own) last;
    only = only_there;
  }

weaker_one : (groups some all : List Group) (at : ℕ) → ((group : Group) → Contains some group → Contains all group) → IsOneOf groups some at → IsOneOf groups all at
weaker_one groups some all at within is = record { group = is.group; owned = within is.group is.owned; there = is.there; is = is.is }

pub member_none : (groups : List Group) (link : Link) (members : List (List Link)) → HasMember groups [] link members members
member_none groups link members = record {
  each = refl;
  unchanged = λ (at : ℕ) (other : Link) there. there;
  joined = λ (group : Group) (owned : Contains [] group) known. absurd (omega (arith, owned.1));
  only = λ (at : ℕ) (other : Link) there. inl there;
}

pub member_both : (groups first next : List Group) (link : Link) (old mid new : List (List Link)) → HasMember groups first link old mid → HasMember groups next link mid new → HasMember groups (first ++ next) link old new
member_both groups first next link old mid new one two = record {
  each = two.each ∙ one.each;
  unchanged = λ (at : ℕ) (other : Link) there. two.unchanged at other (one.unchanged at other there);
  joined = λ (group : Group) (owned : Contains (first ++ next) group) (known : Contains groups group). by_part group known (Contains-append_cases first next group owned);
  only = λ (at : ℕ) (other : Link) (there : Contains (links_at new at) other). by_next at other (two.only at other there);
} where
  by_part : (group : Group) → Contains groups group → Contains first group ⊎ Contains next group → Contains (links_at new (group_number groups group)) link
  by_part group known (inl there) = two.unchanged (group_number groups group) link (one.joined group there known)
  by_part group known (inr there) = two.joined group there known

  by_first : (at : ℕ) (other : Link) → Contains (links_at old at) other ⊎ ((other ≡ link) × IsOneOf groups first at) → Contains (links_at old at) other ⊎ ((other ≡ link) × IsOneOf groups (first ++ next) at)
  by_first at other (inl there) = inl there
  by_first at other (inr (same, is)) = inr (same, weaker_one groups first (first ++ next) at (λ (group : Group) there. Contains-append_left first next group there) is)

  by_next : (at : ℕ) (other : Link) → Contains (links_at mid at) other ⊎ ((other ≡ link) × IsOneOf groups next at) → Contains (links_at old at) other ⊎ ((other ≡ link) × IsOneOf groups (first ++ next) at)
  by_next at other (inl there) = by_first at other (one.only at other there)
  by_next at other (inr (same, is)) = inr (same, weaker_one groups next (first ++ next) at (λ (group : Group) there. Contains-append_right first next group there) is)

-- the unit of one index more
pub members_more : (keeps : Bool) (groups : List Group) (units : List ScopeUnit) (library_number end : ℕ) (own : List Group) (old new : List (List Link)) → own ≡ groups_at keeps units end → AreMembersTo keeps end groups units library_number old → HasMember groups own (record { library_number = library_number; source = end }) old new → AreMembersTo keeps (end + 1) groups units library_number new
members_more keeps groups units library_number end own old new is before more = record {
  each = more.each ∙ before.each;
  joined = λ (at : ℕ) (below : at < end + 1) (group : Group) owned known. by_joined at below group owned known (eqb_tells at end);
  only = λ (row_index : ℕ) (link : Link) (there : Contains (links_at new row_index) link). by_only row_index link (more.only row_index link there);
} where
  by_joined : (at : ℕ) → at < end + 1 → (group : Group) → Contains (groups_at keeps units at) group → Contains groups group → (((nat_eq at end ≡ true) × (at ≡ end)) ⊎ ((nat_eq at end ≡ false) × (at ≢ end))) → Contains (links_at new (group_number groups group)) (record { library_number = library_number; source = at })
  by_joined at below group owned known (inl (_, same)) =
      subst (λ (n : ℕ). Contains (links_at new (group_number groups group)) (record { library_number = library_number; source = n })) (sym same)
      (more.joined group (subst (λ (some : List Group). Contains some group) (sym is) (subst (λ (n : ℕ). Contains (groups_at keeps units n) group) same owned)) known)
  by_joined at below group owned known (inr (_, differ)) = more.unchanged (group_number groups group) (record { library_number = library_number; source = at }) (before.joined at (omega arith) group owned known)

  by_only : (row_index : ℕ) (link : Link) → Contains (links_at old row_index) link ⊎ ((link ≡ record { library_number = library_number; source = end }) × IsOneOf groups own row_index) → (link.library_number ≡ library_number) × (link.source < end + 1) × IsOneOf groups (groups_at keeps units link.source) row_index
  by_only row_index link (inl there) = let h = before.only row_index link there in (h.0, omega (arith, h.1), h.2)
  by_only row_index link (inr (same, one)) = (
    ap (λ (l : Link). l.library_number) same,
    (let source : link.source ≡ end = ap (λ (l : Link). l.source) same in omega arith),
    subst (λ (n : ℕ). IsOneOf groups (groups_at keeps units n) row_index) (sym (ap (λ (l : Link). l.source) same)) (subst (λ (some : List Group). IsOneOf groups some row_index) is one),
  )

pub members_none : (keeps : Bool) (groups : List Group) (units : List ScopeUnit) (library_number : ℕ) → AreMembersTo keeps 0 groups units library_number (replicate (length groups) [])
members_none keeps groups units library_number = record {
  each = length-replicate (length groups) [];
  joined = λ (at : ℕ) below. absurd (omega arith);
  only = λ (row_index : ℕ) (link : Link) (there : Contains (links_at (replicate (length groups) []) row_index) link). absurd (no_link row_index link there (cases_lt row_index (length groups)));
} where
  no_link : (row_index : ℕ) (link : Link) → Contains (links_at (replicate (length groups) []) row_index) link → ((row_index < length groups) ⊎ (length groups ≤ row_index)) → ⊥
  no_link row_index link there (inl within) =
      let none : links_at (replicate (length groups) []) row_index ≡ [] = get_or-replicate (length groups) row_index [] [] within in
      let in_none : Contains [] link = subst (λ (some : List Link). Contains some link) none there in omega (arith, in_none.1)
  no_link row_index link there (inr past) =
      let none : links_at (replicate (length groups) []) row_index ≡ [] = get_or_past (replicate (length groups) []) row_index [] (omega (arith, length-replicate {A = List Link} (length groups) [])) in
      let in_none : Contains [] link = subst (λ (some : List Link). Contains some link) none there in omega (arith, in_none.1)
