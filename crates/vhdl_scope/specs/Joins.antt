-- Links between units and groups, by what units want and are.
use Rattle.std.specs.Prelude.{◌≡◌, ℕ, ◌+◌, ◌<◌, ◌⊎◌, Bool, List, [], Contains, length, slice_index_or}
use Rattle.base.specs.declared.child.MaybeText.TheVariants.{Nothing}
use Rattle.base.specs.declared.design.UnitKind.TheVariants.{Entity}
use Rattle.vhdl_spec.specs.Visibility.{ScopeUnit}
use Rattle.vhdl_scope.specs.declared.links.Link.{Link}
use Rattle.vhdl_scope.specs.declared.want.Group.{Group}
use Rattle.vhdl_scope.specs.declared.want.Want.{Want}
use Rattle.vhdl_scope.specs.Links.{links_at}
use Rattle.vhdl_scope.specs.Names.{group_number, number_of}
use Rattle.vhdl_scope.specs.Wants.{needed_library, unit_wants, user_groups}

-- the link for what is wanted: to the index of the group, after those of the units
abbrev pub link_for : List (List ℕ) → List Group → ℕ → Want → Link
link_for names groups row_indices want = record { library_number = number_of names (needed_library want); source = row_indices + group_number groups want.group }

-- the library and the group that are wanted have numbers
pub record IsThere (names : List (List ℕ)) (groups : List Group) (want : Want) : Type 0 where
  pub library_number : Contains names (needed_library want)
  pub group : Contains groups want.group

-- a link is one for what is wanted
pub record IsLinkFor (names : List (List ℕ)) (groups : List Group) (row_indices : ℕ) (wants : List Want) (link : Link) : Type 0 where
  pub want : Want
  pub wanted : Contains wants want
  pub there : IsThere names groups want
  pub is : link ≡ link_for names groups row_indices want

-- the links for what is wanted were added
pub record HasLinked (names : List (List ℕ)) (groups : List Group) (row_indices : ℕ) (wants : List Want) (old new : List Link) : Type 0 where
  pub unchanged : (link : Link) → Contains old link → Contains new link
  pub linked : (want : Want) → Contains wants want → IsThere names groups want → Contains new (link_for names groups row_indices want)
  pub only : (link : Link) → Contains new link → Contains old link ⊎ IsLinkFor names groups row_indices wants link

-- links are exactly those for what is wanted
abbrev pub IsLinked : List (List ℕ) → List Group → ℕ → List Want → List Link → Type 0
IsLinked names groups row_indices wants links = HasLinked names groups row_indices wants [] links

-- links are exactly those for what a unit wants
abbrev pub IsLinkedFor : List (List ℕ) → List Group → ℕ → List Link → ScopeUnit → Type 0
IsLinkedFor names groups row_indices links unit = IsLinked names groups row_indices (unit_wants unit) links

-- an index is that of one of some groups
pub record IsOneOf (groups own : List Group) (at : ℕ) : Type 0 where
  pub group : Group
  pub owned : Contains own group
  pub there : Contains groups group
  pub is : at ≡ group_number groups group

-- a link was added to those of some groups
pub record HasMember (groups own : List Group) (link : Link) (old new : List (List Link)) : Type 0 where
  pub each : length new ≡ length old
  pub unchanged : (at : ℕ) (other : Link) → Contains (links_at old at) other → Contains (links_at new at) other
  pub joined : (group : Group) → Contains own group → Contains groups group → Contains (links_at new (group_number groups group)) link
  pub only : (at : ℕ) (other : Link) → Contains (links_at new at) other → Contains (links_at old at) other ⊎ ((other ≡ link) × IsOneOf groups own at)

-- an empty unit, for an index that no unit has
pub no_user : ScopeUnit
no_user = record { library = []; unit = record { kind = Entity; name = []; owner = Nothing; lead = 0; first = 0; last = 0 }; names = []; contexts = []; configured = Nothing }

-- the groups of the unit of an index
abbrev pub groups_at : Bool → List ScopeUnit → ℕ → List Group
groups_at keeps users at = user_groups keeps (slice_index_or users at no_user)

-- the links of groups lead to exactly the units in them, up to an index
pub record AreMembersTo (keeps : Bool) (end : ℕ) (groups : List Group) (users : List ScopeUnit) (library_number : ℕ) (members : List (List Link)) : Type 0 where
  pub each : length members ≡ length groups
  pub joined : (at : ℕ) → at < end → (group : Group) → Contains (groups_at keeps users at) group → Contains groups group → Contains (links_at members (group_number groups group)) (record { library_number = library_number; source = at })
  pub only : (row_index : ℕ) (link : Link) → Contains (links_at members row_index) link → (link.library_number ≡ library_number) × (link.source < end) × IsOneOf groups (groups_at keeps users link.source) row_index

-- for each group, by number, the links that lead to exactly the units in it
abbrev pub AreMembers : Bool → List Group → List ScopeUnit → ℕ → List (List Link) → Type 0
AreMembers keeps groups users library_number members = AreMembersTo keeps (length users) groups users library_number members
