-- The order of groups, which is that of their parts.
use Rattle.std.specs.Prelude.{◌≡◌, ℕ, List}
use Rattle.std.proofs.Common.{ap}
use Rattle.std.specs.Bool.{Decides}
use Rattle.std.specs.Cmp.{IsEquivalence, IsTotalOrder, decided, on_total}
use Rattle.std.specs.Ordering.{is_eq, on}
use Rattle.std.specs.declared.cmp.Ordering.{Ordering}
use Rattle.vhdl_units.specs.KeyParts.{KeyParts, parts_cmp, parts_decide, parts_ties, parts_total}
use Rattle.vhdl_scope.specs.declared.want.Group.{Group}
use Rattle.vhdl_scope.specs.Groups.{group_parts, is_same_group}

-- the order of groups: by name, owner and library, and then by their kind
abbrev pub group_cmp : Group → Group → Ordering
group_cmp = on group_parts parts_cmp

-- the order of groups is total
pub group_total : IsTotalOrder group_cmp
group_total = on_total group_parts parts_total

-- the test finds two groups the same exactly where the order finds them equal
pub group_ties : (a b : Group) → is_same_group a b ≡ is_eq (group_cmp a b)
group_ties a b = parts_ties (group_parts a) (group_parts b)

-- a group by its parts
abbrev group_of_parts : KeyParts → Group
group_of_parts k = record { context = k.first; architecture = k.second; library = k.library; owner = k.owner; name = k.name }

-- the test of two groups is true exactly where they are equal
pub groups_decide : (a b : Group) → Decides (is_same_group a b) (a ≡ b)
groups_decide a b =
    let same = parts_decide (group_parts a) (group_parts b) in (λ told. ap group_of_parts (same.0 told), λ (is : a ≡ b). same.1 (ap group_parts is))

-- the test of two groups is an equivalence
pub groups_alike : IsEquivalence is_same_group
groups_alike = decided is_same_group groups_decide
