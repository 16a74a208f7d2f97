-- Who is in a group, and who wants it.
use Rattle.std.proofs.Common.{◌≡◌, ℕ, zero, suc, Bool, true, false, ◌&&◌, not, if◌then◌else◌, List, [], ◌∷◌, ◌++◌, Contains, map, ◌⊎◌, inl, inr, refl, sym, ◌∙◌, ap, subst, arith}
use Rattle.std.specs.Str.{bytes_eq}
use Rattle.std.proofs.lemmas.List.Elements.{Contains-append_cases, Contains-append_left, Contains-append_right}
use Rattle.base.specs.declared.child.MaybeText.{MaybeText}
use Rattle.base.specs.declared.child.MaybeText.TheVariants.{Nothing, Given}
use Rattle.base.specs.declared.design.UnitKind.{UnitKind}
use Rattle.base.specs.declared.design.UnitKind.TheVariants as kinds
use Rattle.base.specs.declared.refs.Ref.{Ref}
use Rattle.vhdl_spec.specs.References.{work, is_configuration, is_context_kind, owner_name}
use Rattle.vhdl_spec.specs.Visibility.{ScopeUnit, configured_name, is_architecture_kind, is_configured_by, is_context_of, is_given, is_primary_of, is_secondary, primary_name, resolved}
use Rattle.vhdl_spec.proofs.SomeTests.{and_both, and_cases, Contains-first, Contains-later}
use Rattle.vhdl_scope.specs.declared.want.Group.{Group}
use Rattle.vhdl_scope.specs.declared.want.Want.{Want}
use Rattle.vhdl_scope.specs.Wants.{architecture_want, architectures_of, configured_wants, context_want, needed_library, group_of, kept_groups, own_groups, primary_want, primary_wants, unit_wants}
use Rattle.vhdl_scope.proofs.LookLemmas.{one_of}
use Rattle.vhdl_scope.proofs.NameLemmas.{Contains-map, same_bytes, told_same}

unless : {X : Type 0} (b : Bool) (x y : X) → Contains (if b then [] else x ∷ []) y → (b ≡ false) × (x ≡ y)
unless true x y (k, within, is) = absurd (omega arith)
unless false x y there = (refl, one_of x y there)

where_true : {X : Type 0} (b : Bool) (x y : X) → Contains (if b then x ∷ [] else []) y → (b ≡ true) × (x ≡ y)
where_true true x y there = (refl, one_of x y there)
where_true false x y (k, within, is) = absurd (omega arith)

put_unless : {X : Type 0} (b : Bool) (x : X) → b ≡ false → Contains (if b then [] else x ∷ []) x
put_unless true x told = let never : ⊥ = cc in absurd never
put_unless false x told = Contains-first x []

put_where : {X : Type 0} (b : Bool) (x : X) → b ≡ true → Contains (if b then x ∷ [] else []) x
put_where true x told = Contains-first x []
put_where false x told = let never : ⊥ = cc in absurd never

not_false : (b : Bool) → not b ≡ true → b ≡ false
not_false true told = let never : ⊥ = cc in absurd never
not_false false told = refl

not_true : (b : Bool) → b ≡ false → not b ≡ true
not_true true told = let never : ⊥ = cc in absurd never
not_true false told = refl

-- the groups of a unit, by kind
abbrev primary_part : ScopeUnit → List Group
primary_part v = if is_secondary v.unit.kind then [] else group_of false v.library v.unit.name ∷ []

abbrev context_part : ScopeUnit → List Group
context_part v = if is_context_kind v.unit.kind then group_of true v.library v.unit.name ∷ [] else []

abbrev architecture_part : ScopeUnit → List Group
architecture_part v = if is_architecture_kind v.unit.kind then architectures_of v.library (owner_name v.unit.owner) v.unit.name ∷ [] else []

-- a group that a unit is in is that of its primary units, of its context declarations, or of its architectures
data GroupOf (v : ScopeUnit) (g : Group) : Type 0 where
  of_primary : is_secondary v.unit.kind ≡ false → group_of false v.library v.unit.name ≡ g → GroupOf v g
  of_context : is_context_kind v.unit.kind ≡ true → group_of true v.library v.unit.name ≡ g → GroupOf v g
  of_architecture : is_architecture_kind v.unit.kind ≡ true → architectures_of v.library (owner_name v.unit.owner) v.unit.name ≡ g → GroupOf v g

own_cases : (v : ScopeUnit) (g : Group) → Contains (own_groups v.library v.unit) g → GroupOf v g
own_cases v g there = by_part (Contains-append_cases (primary_part v) (context_part v ++ architecture_part v) g there) where
  by_rest : Contains (context_part v) g ⊎ Contains (architecture_part v) g → GroupOf v g
  by_rest (inl second) = let is = where_true (is_context_kind v.unit.kind) (group_of true v.library v.unit.name) g second in of_context is.0 is.1
  by_rest (inr third) = let is = where_true (is_architecture_kind v.unit.kind) (architectures_of v.library (owner_name v.unit.owner) v.unit.name) g third in of_architecture is.0 is.1

  by_part : Contains (primary_part v) g ⊎ Contains (context_part v ++ architecture_part v) g → GroupOf v g
  by_part (inl first) = let is = unless (is_secondary v.unit.kind) (group_of false v.library v.unit.name) g first in of_primary is.0 is.1
  by_part (inr rest) = by_rest (Contains-append_cases (context_part v) (architecture_part v) g rest)

primary_there : (v : ScopeUnit) → is_secondary v.unit.kind ≡ false → Contains (own_groups v.library v.unit) (group_of false v.library v.unit.name)
primary_there v told = Contains-append_left (primary_part v) (context_part v ++ architecture_part v) (group_of false v.library v.unit.name) (put_unless (is_secondary v.unit.kind) (group_of false v.library v.unit.name) told)

context_there : (v : ScopeUnit) → is_context_kind v.unit.kind ≡ true → Contains (own_groups v.library v.unit) (group_of true v.library v.unit.name)
context_there v told =
    Contains-append_right (primary_part v) (context_part v ++ architecture_part v) (group_of true v.library v.unit.name)
    (Contains-append_left (context_part v) (architecture_part v) (group_of true v.library v.unit.name) (put_where (is_context_kind v.unit.kind) (group_of true v.library v.unit.name) told))

architecture_there : (v : ScopeUnit) → is_architecture_kind v.unit.kind ≡ true → Contains (own_groups v.library v.unit) (architectures_of v.library (owner_name v.unit.owner) v.unit.name)
architecture_there v told =
    Contains-append_right (primary_part v) (context_part v ++ architecture_part v) (architectures_of v.library (owner_name v.unit.owner) v.unit.name)
    (Contains-append_right (context_part v) (architecture_part v) (architectures_of v.library (owner_name v.unit.owner) v.unit.name) (put_where (is_architecture_kind v.unit.kind) (architectures_of v.library (owner_name v.unit.owner) v.unit.name) told))

-- a unit that a primary want reaches is a primary unit of the one that wants
pub is_primary : (user v : ScopeUnit) (name : List ℕ) → primary_name user.unit.kind user.unit ≡ Given name → Contains (own_groups v.library v.unit) (group_of false user.library name) → is_primary_of user v ≡ true
is_primary user v name given there = by_case (own_cases v (group_of false user.library name) there) where
  tests : is_secondary v.unit.kind ≡ false → v.library ≡ user.library → v.unit.name ≡ name → is_primary_of user v ≡ true
  tests plain library same =
      and_both (not (is_secondary v.unit.kind) && bytes_eq v.library user.library) (is_given (primary_name user.unit.kind user.unit) v.unit.name)
      (and_both (not (is_secondary v.unit.kind)) (bytes_eq v.library user.library) (not_true (is_secondary v.unit.kind) plain) (told_same v.library user.library library))
      (subst (λ (m : MaybeText). is_given m v.unit.name ≡ true) (sym given) (told_same name v.unit.name (sym same)))

  by_case : GroupOf v (group_of false user.library name) → is_primary_of user v ≡ true
  by_case (of_primary plain same) = tests plain (ap (λ (g : Group). g.library) same) (ap (λ (g : Group). g.name) same)
  by_case (of_context _ same) = let never : true ≡ false = ap (λ (g : Group). g.context) same in let impossible : ⊥ = cc in absurd impossible
  by_case (of_architecture _ same) = let never : true ≡ false = ap (λ (g : Group). g.architecture) same in let impossible : ⊥ = cc in absurd impossible

-- one that the want of a configuration reaches is the architecture that it configures
pub is_configured : (user v : ScopeUnit) (entity name : List ℕ) → user.unit.owner ≡ Given entity → configured_name user.unit.kind user.configured ≡ Given name → Contains (own_groups v.library v.unit) (architectures_of user.library entity name) → is_configured_by user v ≡ true
is_configured user v entity name owner given there = by_case (own_cases v (architectures_of user.library entity name) there) where
  tests : is_architecture_kind v.unit.kind ≡ true → v.library ≡ user.library → owner_name v.unit.owner ≡ entity → v.unit.name ≡ name → is_configured_by user v ≡ true
  tests kind library of same =
      and_both (is_architecture_kind v.unit.kind && bytes_eq v.library user.library && is_given user.unit.owner (owner_name v.unit.owner)) (is_given (configured_name user.unit.kind user.configured) v.unit.name)
      (and_both (is_architecture_kind v.unit.kind && bytes_eq v.library user.library) (is_given user.unit.owner (owner_name v.unit.owner))
      (and_both (is_architecture_kind v.unit.kind) (bytes_eq v.library user.library) kind (told_same v.library user.library library))
      (subst (λ (m : MaybeText). is_given m (owner_name v.unit.owner) ≡ true) (sym owner) (told_same entity (owner_name v.unit.owner) (sym of))))
      (subst (λ (m : MaybeText). is_given m v.unit.name ≡ true) (sym given) (told_same name v.unit.name (sym same)))

  by_case : GroupOf v (architectures_of user.library entity name) → is_configured_by user v ≡ true
  by_case (of_primary _ same) = let never : false ≡ true = ap (λ (g : Group). g.architecture) same in let impossible : ⊥ = cc in absurd impossible
  by_case (of_context _ same) = let never : true ≡ false = ap (λ (g : Group). g.context) same in let impossible : ⊥ = cc in absurd impossible
  by_case (of_architecture kind same) = tests kind (ap (λ (g : Group). g.library) same) (ap (λ (g : Group). g.owner) same) (ap (λ (g : Group). g.name) same)

-- and one that a context reference reaches is a context declaration that it names
pub is_context : (user : ScopeUnit) (ref : Ref) (v : ScopeUnit) → Contains (own_groups v.library v.unit) (context_want user.library ref).group → is_context_of user ref v ≡ true
is_context user ref v there = by_case (own_cases v (context_want user.library ref).group there) where
  tests : is_context_kind v.unit.kind ≡ true → v.library ≡ resolved user ref.library → v.unit.name ≡ ref.name → is_context_of user ref v ≡ true
  tests kind library same =
      and_both (is_context_kind v.unit.kind && bytes_eq v.library (resolved user ref.library)) (bytes_eq v.unit.name ref.name)
      (and_both (is_context_kind v.unit.kind) (bytes_eq v.library (resolved user ref.library)) kind (told_same v.library (resolved user ref.library) library))
      (told_same v.unit.name ref.name same)

  by_case : GroupOf v (context_want user.library ref).group → is_context_of user ref v ≡ true
  by_case (of_primary _ same) = let never : false ≡ true = ap (λ (g : Group). g.context) same in let impossible : ⊥ = cc in absurd impossible
  by_case (of_context kind same) = tests kind (ap (λ (g : Group). g.library) same) (ap (λ (g : Group). g.name) same)
  by_case (of_architecture _ same) = let never : false ≡ true = ap (λ (g : Group). g.context) same in let impossible : ⊥ = cc in absurd impossible

-- back: the group of a primary unit is wanted
pub primary_wanted : (user v : ScopeUnit) → is_primary_of user v ≡ true → (name : List ℕ) × (primary_name user.unit.kind user.unit ≡ Given name) × Contains (own_groups v.library v.unit) (group_of false user.library name)
primary_wanted user v told = by_name (primary_name user.unit.kind user.unit) refl (parts.1) where
  parts : ((not (is_secondary v.unit.kind) && bytes_eq v.library user.library) ≡ true) × (is_given (primary_name user.unit.kind user.unit) v.unit.name ≡ true)
  parts = and_cases (not (is_secondary v.unit.kind) && bytes_eq v.library user.library) (is_given (primary_name user.unit.kind user.unit) v.unit.name) told

  firsts : (not (is_secondary v.unit.kind) ≡ true) × (bytes_eq v.library user.library ≡ true)
  firsts = and_cases (not (is_secondary v.unit.kind)) (bytes_eq v.library user.library) (parts.0)

  by_name : (m : MaybeText) → primary_name user.unit.kind user.unit ≡ m → is_given m v.unit.name ≡ true → (name : List ℕ) × (primary_name user.unit.kind user.unit ≡ Given name) × Contains (own_groups v.library v.unit) (group_of false user.library name)
  by_name Nothing is given = let never : ⊥ = cc in absurd never
  by_name (Given name) is given =
      let library : v.library ≡ user.library = same_bytes v.library user.library (firsts.1) in
      let same : v.unit.name ≡ name = sym (same_bytes name v.unit.name given) in (
        name,
        is,
        subst (λ (n : List ℕ). Contains (own_groups v.library v.unit) (group_of false user.library n)) same
            (subst (λ (l : List ℕ). Contains (own_groups v.library v.unit) (group_of false l v.unit.name)) library (primary_there v (not_false (is_secondary v.unit.kind) (firsts.0)))),
      )

-- what is given is a name
given_name : (m : MaybeText) (name : List ℕ) → is_given m name ≡ true → m ≡ Given name
given_name Nothing name told = let never : ⊥ = cc in absurd never
given_name (Given other) name told = ap Given (same_bytes other name told)

-- an architecture that a unit configures is in the group of the entity and the name that the unit configures
pub configured_wanted : (user v : ScopeUnit) → is_configured_by user v ≡ true → (entity : List ℕ) × (name : List ℕ) × (user.unit.owner ≡ Given entity) × (configured_name user.unit.kind user.configured ≡ Given name) × Contains (own_groups v.library v.unit) (architectures_of user.library entity name)
configured_wanted user v told = (
  owner_name v.unit.owner,
  v.unit.name,
  given_name user.unit.owner (owner_name v.unit.owner) (owners.1),
  given_name (configured_name user.unit.kind user.configured) v.unit.name (parts.1),
  subst (λ (l : List ℕ). Contains (own_groups v.library v.unit) (architectures_of l (owner_name v.unit.owner) v.unit.name)) (same_bytes v.library user.library (firsts.1)) (architecture_there v (firsts.0)),
) where
  parts : ((is_architecture_kind v.unit.kind && bytes_eq v.library user.library && is_given user.unit.owner (owner_name v.unit.owner)) ≡ true) × (is_given (configured_name user.unit.kind user.configured) v.unit.name ≡ true)
  parts = and_cases (is_architecture_kind v.unit.kind && bytes_eq v.library user.library && is_given user.unit.owner (owner_name v.unit.owner)) (is_given (configured_name user.unit.kind user.configured) v.unit.name) told

  owners : ((is_architecture_kind v.unit.kind && bytes_eq v.library user.library) ≡ true) × (is_given user.unit.owner (owner_name v.unit.owner) ≡ true)
  owners = and_cases (is_architecture_kind v.unit.kind && bytes_eq v.library user.library) (is_given user.unit.owner (owner_name v.unit.owner)) (parts.0)

  firsts : (is_architecture_kind v.unit.kind ≡ true) × (bytes_eq v.library user.library ≡ true)
  firsts = and_cases (is_architecture_kind v.unit.kind) (bytes_eq v.library user.library) (owners.0)

pub context_wanted : (user : ScopeUnit) (ref : Ref) (v : ScopeUnit) → is_context_of user ref v ≡ true → Contains (own_groups v.library v.unit) (context_want user.library ref).group
context_wanted user ref v told =
    let parts = and_cases (is_context_kind v.unit.kind && bytes_eq v.library (resolved user ref.library)) (bytes_eq v.unit.name ref.name) told in
    let firsts = and_cases (is_context_kind v.unit.kind) (bytes_eq v.library (resolved user ref.library)) (parts.0) in
    subst (λ (n : List ℕ). Contains (own_groups v.library v.unit) (group_of true (resolved user ref.library) n)) (same_bytes v.unit.name ref.name (parts.1))
    (subst (λ (l : List ℕ). Contains (own_groups v.library v.unit) (group_of true l v.unit.name)) (same_bytes v.library (resolved user ref.library) (firsts.1)) (context_there v (firsts.0)))

library_number_by : (own : Bool) (library named : List ℕ) → (own ≡ true → named ≡ work) → (if own then work else (if own then library else named)) ≡ named
library_number_by true library named is = sym (is refl)
library_number_by false library named is = refl

-- what a reference wants is there where the library that it names is seen
pub library_number_is : (library : List ℕ) (ref : Ref) → needed_library (context_want library ref) ≡ ref.library
library_number_is library ref = library_number_by (bytes_eq ref.library work) library ref.library (same_bytes ref.library work)

-- what a unit wants of others, by kind
abbrev primary_side : ScopeUnit → List Want
primary_side user = primary_wants user.library (primary_name user.unit.kind user.unit)

abbrev configured_side : ScopeUnit → List Want
configured_side user = configured_wants user.library user.unit.owner (configured_name user.unit.kind user.configured)

abbrev context_side : ScopeUnit → List Want
context_side user = map (context_want user.library) user.contexts

pub want_of_primary : (user : ScopeUnit) (name : List ℕ) → primary_name user.unit.kind user.unit ≡ Given name → Contains (unit_wants user) (primary_want user.library name)
want_of_primary user name given =
    Contains-append_left (primary_side user) (configured_side user ++ context_side user) (primary_want user.library name)
    (subst (λ (m : MaybeText). Contains (primary_wants user.library m) (primary_want user.library name)) (sym given) (Contains-first _ []))

pub want_of_configured : (user : ScopeUnit) (entity name : List ℕ) → user.unit.owner ≡ Given entity → configured_name user.unit.kind user.configured ≡ Given name → Contains (unit_wants user) (architecture_want user.library entity name)
want_of_configured user entity name owner given =
    Contains-append_right (primary_side user) (configured_side user ++ context_side user) (architecture_want user.library entity name)
    (Contains-append_left (configured_side user) (context_side user) (architecture_want user.library entity name)
    (subst (λ (m : MaybeText). Contains (configured_wants user.library m (configured_name user.unit.kind user.configured)) (architecture_want user.library entity name)) (sym owner)
    (subst (λ (m : MaybeText). Contains (configured_wants user.library (Given entity) m) (architecture_want user.library entity name)) (sym given) (Contains-first _ []))))

pub want_of_context : (user : ScopeUnit) (ref : Ref) → Contains user.contexts ref → Contains (unit_wants user) (context_want user.library ref)
want_of_context user ref there =
    Contains-append_right (primary_side user) (configured_side user ++ context_side user) (context_want user.library ref)
    (Contains-append_right (configured_side user) (context_side user) (context_want user.library ref) (Contains-map (context_want user.library) user.contexts ref there))

from_map : {X Y : Type 0} (f : X → Y) (xs : List X) (y : Y) → Contains (map f xs) y → (x : X) × Contains xs x × (f x ≡ y)
from_map f [] y (k, within, is) = absurd (omega arith)
from_map f (x ∷ xs) y (zero, within, is) = (x, Contains-first x xs, is)
from_map f (x ∷ xs) y (suc k, within, is) = let rest = from_map f xs y (k, omega arith, is) in (rest.0, Contains-later x rest.0 xs rest.1, rest.2)

-- what is wanted is a primary unit's, an architecture's that is configured, or a context declaration's
pub data Wants (user : ScopeUnit) (want : Want) : Type 0 where
  a_primary : (name : List ℕ) → primary_name user.unit.kind user.unit ≡ Given name → want ≡ primary_want user.library name → Wants user want
  an_architecture : (entity name : List ℕ) → user.unit.owner ≡ Given entity → configured_name user.unit.kind user.configured ≡ Given name → want ≡ architecture_want user.library entity name → Wants user want
  a_context : (ref : Ref) → Contains user.contexts ref → context_want user.library ref ≡ want → Wants user want

pub want_cases : (user : ScopeUnit) (want : Want) → Contains (unit_wants user) want → Wants user want
want_cases user want there = by_part (Contains-append_cases (primary_side user) (configured_side user ++ context_side user) want there) where
  by_name : (m : MaybeText) → primary_name user.unit.kind user.unit ≡ m → Contains (primary_wants user.library m) want → Wants user want
  by_name Nothing is none = absurd (omega (arith, none.1))
  by_name (Given name) is one = a_primary name is (sym (one_of _ want one))

  by_names : (owner name : MaybeText) → user.unit.owner ≡ owner → configured_name user.unit.kind user.configured ≡ name → Contains (configured_wants user.library owner name) want → Wants user want
  by_names Nothing name is given none = absurd (omega (arith, none.1))
  by_names (Given entity) Nothing is given none = absurd (omega (arith, none.1))
  by_names (Given entity) (Given name) is given one = an_architecture entity name is given (sym (one_of _ want one))

  by_ref : (ref : Ref) × Contains user.contexts ref × (context_want user.library ref ≡ want) → Wants user want
  by_ref (ref, named, same) = a_context ref named same

  by_rest : Contains (configured_side user) want ⊎ Contains (context_side user) want → Wants user want
  by_rest (inl second) = by_names user.unit.owner (configured_name user.unit.kind user.configured) refl refl second
  by_rest (inr third) = by_ref (from_map (context_want user.library) user.contexts want third)

  by_part : Contains (primary_side user) want ⊎ Contains (configured_side user ++ context_side user) want → Wants user want
  by_part (inl first) = by_name (primary_name user.unit.kind user.unit) refl first
  by_part (inr rest) = by_rest (Contains-append_cases (configured_side user) (context_side user) want rest)

-- groups that are kept are own ones
pub kept_own : (keeps : Bool) (v : ScopeUnit) (g : Group) → Contains (kept_groups keeps v.library v.unit) g → Contains (own_groups v.library v.unit) g
kept_own true v g there = there
kept_own false v g there = by_part (Contains-append_cases (primary_part v) (context_part v ++ []) g there) where
  by_rest : Contains (context_part v) g ⊎ Contains [] g → Contains (own_groups v.library v.unit) g
  by_rest (inl second) = Contains-append_right (primary_part v) (context_part v ++ architecture_part v) g (Contains-append_left (context_part v) (architecture_part v) g second)
  by_rest (inr (k, within, is)) = absurd (omega arith)

  by_part : Contains (primary_part v) g ⊎ Contains (context_part v ++ []) g → Contains (own_groups v.library v.unit) g
  by_part (inl first) = Contains-append_left (primary_part v) (context_part v ++ architecture_part v) g first
  by_part (inr rest) = by_rest (Contains-append_cases (context_part v) [] g rest)

-- own groups are kept, but for those of architectures
pub own_kept : (keeps : Bool) (v : ScopeUnit) (g : Group) → Contains (own_groups v.library v.unit) g → (keeps ≡ false → g.architecture ≡ false) → Contains (kept_groups keeps v.library v.unit) g
own_kept true v g there plain = there
own_kept false v g there plain = by_part (Contains-append_cases (primary_part v) (context_part v ++ architecture_part v) g there) where
  by_rest : Contains (context_part v) g ⊎ Contains (architecture_part v) g → Contains (kept_groups false v.library v.unit) g
  by_rest (inl second) = Contains-append_right (primary_part v) (context_part v ++ []) g (Contains-append_left (context_part v) [] g second)
  by_rest (inr third) =
      let is = where_true (is_architecture_kind v.unit.kind) (architectures_of v.library (owner_name v.unit.owner) v.unit.name) g third in
      let never : true ≡ false = ap (λ (one : Group). one.architecture) is.1 ∙ plain refl in
      let impossible : ⊥ = cc in absurd impossible

  by_part : Contains (primary_part v) g ⊎ Contains (context_part v ++ architecture_part v) g → Contains (kept_groups false v.library v.unit) g
  by_part (inl first) = Contains-append_left (primary_part v) (context_part v ++ []) g first
  by_part (inr rest) = by_rest (Contains-append_cases (context_part v) (architecture_part v) g rest)

-- a unit that isn't a configuration configures no architecture
configures_none : (kind : UnitKind) (configured : MaybeText) → is_configuration kind ≡ false → configured_name kind configured ≡ Nothing
configures_none kinds.Entity configured is = refl
configures_none kinds.Architecture configured is = refl
configures_none kinds.Configuration configured is = let never : ⊥ = cc in absurd never
configures_none kinds.Package configured is = refl
configures_none kinds.PackageBody configured is = refl
configures_none kinds.PackageInstance configured is = refl
configures_none kinds.Context configured is = refl

-- nor does it want one
pub plain_want : (user : ScopeUnit) (want : Want) → is_configuration user.unit.kind ≡ false → Wants user want → want.group.architecture ≡ false
plain_want user want is (a_primary given given_is same) = ap (λ (w : Want). w.group.architecture) same
plain_want user want is (an_architecture entity given entity_is given_is same) =
    let never : ◌≡◌ {A = MaybeText} Nothing (Given given) = sym (configures_none user.unit.kind user.configured is) ∙ given_is in
    let impossible : ⊥ = cc in absurd impossible
plain_want user want is (a_context ref ref_there same) = sym (ap (λ (w : Want). w.group.architecture) same)
