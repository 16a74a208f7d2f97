-- What the walk through the roles of a file finds.
use Rattle.std.specs.Prelude.{◌≢◌, ℕ, ◌<◌, ◌≤◌, Bool, false, List, length, Option, Some, None}
use Rattle.base.specs.declared.design.Role.{Role}
use Rattle.base.specs.declared.design.Role.TheVariants.{Is, Semicolon}
use Rattle.vhdl_spec.specs.Units.{role_at, IsLevel, OpensItems, IsGenerateOpener, Closes, IsSingle, Items, IsPlainEnd, IsFirstSemicolon, IsOwner, IsEndPart}
use Rattle.vhdl_units.specs.Delimiters.{IsDelimiter}
use Rattle.vhdl_units.specs.declared.class.Class.{Class}
use Rattle.vhdl_units.specs.declared.class.Class.TheVariants.{Single, Items as OpensPlain, Region, Close}

-- the first `;` from a token on, or none
abbrev pub IsSemicolonFrom : List Role → ℕ → Option ℕ → Type 0
IsSemicolonFrom roles start None = (at : ℕ) → IsFirstSemicolon roles start at → ⊥
IsSemicolonFrom roles start (Some at) = IsFirstSemicolon roles start at

-- how many NAMEs of an owner come before its last, or `None` if there is no owner
abbrev pub IsOwnerFrom : List Role → ℕ → Option ℕ → Type 0
IsOwnerFrom roles start None = (before : ℕ) → IsOwner roles start before → ⊥
IsOwnerFrom roles start (Some before) = IsOwner roles start before

-- the first `is` or `;` at level from a token on, or the end of the file
pub record IsNextDelimiter (roles : List Role) (start from delimiter : ℕ) : Type 0 where
  pub after : from ≤ delimiter
  pub within : delimiter ≤ length roles
  pub none : (between : ℕ) → from ≤ between → between < delimiter → IsLevel roles start between → (role_at roles between ≢ Is) × (role_at roles between ≢ Semicolon)
  pub there : delimiter < length roles → IsLevel roles start delimiter × IsDelimiter (role_at roles delimiter)

-- the class of a token
abbrev pub IsClass : List Role → ℕ → Bool → ℕ → Class → Type 0
IsClass roles start inside at Single = IsSingle roles start inside at
IsClass roles start inside at OpensPlain = OpensItems roles start at
IsClass roles start inside at Region = IsGenerateOpener roles at
IsClass roles start inside at Close = Closes roles inside at

-- the plain end that ends the unit whose items start at a token, or none
pub record IsUnitClose (roles : List Role) (start close : ℕ) : Type 0 where
  pub inside : Items roles start false start close
  pub ends : IsPlainEnd roles close

-- the token that ends the items of a unit, or none where nothing ends them
abbrev pub IsCloseFrom : List Role → ℕ → Option ℕ → Type 0
IsCloseFrom roles start None = (close : ℕ) → IsUnitClose roles start close → ⊥
IsCloseFrom roles start (Some close) = IsUnitClose roles start close

-- the last token of a unit's end part, or none
abbrev pub IsEndFrom : List Role → ℕ → Option ℕ → Type 0
IsEndFrom roles start None = (last : ℕ) → IsEndPart roles start last → ⊥
IsEndFrom roles start (Some last) = IsEndPart roles start last
