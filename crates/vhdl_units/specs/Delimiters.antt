-- The next `is` or `;` of each depth of parentheses, found once for a whole file.
use Rattle.std.specs.Prelude.{◌≡◌, ◌≢◌, ◌⊎◌, ℕ, ◌+◌, ◌<◌, ◌≤◌, Bool, true, false, List, length, take, drop, count_by, slice_index}
use Rattle.base.specs.declared.design.Role.{Role}
use Rattle.base.specs.declared.design.Role.TheVariants.{Is, Semicolon, Function, Procedure}
use Rattle.vhdl_spec.specs.Units.{role_at, is_opening, is_closing}

-- The number of parentheses that open before a token or close from it on. It is the same for two tokens of one depth, and
-- never more than the number of tokens in the file.
abbrev pub level_at : List Role → ℕ → ℕ
level_at roles at = count_by is_opening (take at roles) + count_by is_closing (drop at roles)

-- `is` or `;`
abbrev pub IsDelimiter : Role → Type 0
IsDelimiter role = (role ≡ Is) ⊎ (role ≡ Semicolon)

-- `function` or `procedure`
abbrev pub IsSubprogramWord : Role → Type 0
IsSubprogramWord role = (role ≡ Function) ⊎ (role ≡ Procedure)

-- whether a role is that of `function` or `procedure`
abbrev pub is_subprogram_word : Role → Bool
is_subprogram_word Function = true
is_subprogram_word Procedure = true
is_subprogram_word _ = false

-- the first `is` or `;` of a level from a token on, or the end of the file
pub record IsFirstDelimiter (roles : List Role) (from level delimiter : ℕ) : Type 0 where
  pub after : from ≤ delimiter
  pub within : delimiter ≤ length roles
  pub none : (between : ℕ) → from ≤ between → between < delimiter → level_at roles between ≡ level → (role_at roles between ≢ Is) × (role_at roles between ≢ Semicolon)
  pub there : delimiter < length roles → (level_at roles delimiter ≡ level) × IsDelimiter (role_at roles delimiter)

-- by level the first delimiters from a token on
pub record AreNearest (roles : List Role) (from : ℕ) (nearest : List ℕ) : Type 0 where
  pub entries : length nearest ≡ length roles + 1
  pub first : (level : ℕ) → level ≤ length roles → IsFirstDelimiter roles from level (slice_index nearest level)

-- by token, for each subprogram's word from a token on, the first delimiter after it of its own level
pub record AreDelimiters (roles : List Role) (from : ℕ) (delimiters : List ℕ) : Type 0 where
  pub entries : length delimiters ≡ length roles
  pub first : (at : ℕ) → from ≤ at → at < length roles → IsSubprogramWord (role_at roles at) → IsFirstDelimiter roles (at + 1) (level_at roles at) (slice_index delimiters at)
