-- What the walk through a unit keeps.
use Rattle.std.specs.Prelude.{◌≡◌, ℕ, ◌≤◌, Bool, true, false, List, [], ◌∷◌, ◌++◌, length, count_by, slice_range}
use Rattle.base.specs.declared.design.Role.{Role}
use Rattle.vhdl_spec.specs.Units.{begins_generate, is_opening, is_closing}
use Rattle.vhdl_units.specs.declared.level.Counts.{Counts}
use Rattle.vhdl_units.specs.declared.class.Class.{Class}
use Rattle.vhdl_units.specs.declared.class.Known.{Known}
use Rattle.vhdl_units.specs.declared.class.Class.TheVariants.{Single, Items, Region, Close}

-- the parentheses between a unit's start and a token
pub record AreCounts (roles : List Role) (start at : ℕ) (counts : Counts) : Type 0 where
  pub ordered : start ≤ at
  pub within : at ≤ length roles
  pub opened : counts.opened ≡ count_by is_opening (slice_range roles start at)
  pub closed : counts.closed ≡ count_by is_closing (slice_range roles start at)

-- the facts that the walk knows are right, and concern only tokens up to `at`
pub record IsKnown (roles : List Role) (start at : ℕ) (known : Known) : Type 0 where
  pub counts : AreCounts roles start known.counted known.counts
  pub counted : known.counted ≤ at
  pub begins : known.begins ≡ begins_generate roles known.decided
  pub decided : known.decided ≤ at

-- the outer regions and the innermost one before and after a token, and whether it ended the unit's own
abbrev pub IsStep : Class → List Bool → Bool → List Bool → Bool → Bool → Type 0
IsStep Single frames inside next_frames next_inside ended = (ended ≡ false) × (next_frames ≡ frames) × (next_inside ≡ inside)
IsStep Items frames inside next_frames next_inside ended = (ended ≡ false) × (next_frames ≡ frames ++ inside ∷ []) × (next_inside ≡ false)
IsStep Region frames inside next_frames next_inside ended = (ended ≡ false) × (next_frames ≡ frames ++ inside ∷ []) × (next_inside ≡ true)
IsStep Close frames inside next_frames next_inside true = frames ≡ []
IsStep Close frames inside next_frames next_inside false = frames ≡ next_frames ++ next_inside ∷ []
