-- Tokens at which the roles alone rule out a call of a test case.
use Rattle.std.specs.Prelude.{ℕ, ◌+◌, Bool, true, false, ◌&&◌, List}
use Rattle.base.specs.declared.design.Role.{Role}
use Rattle.base.specs.declared.design.Role.TheVariants.{Other}
use Rattle.vhdl_spec.specs.Passing.{HasPassedOver, NonePasses}
use Rattle.vhdl_spec.specs.Units.{is_closing, is_opening, role_at}

-- a token that no rule names, as a string
abbrev pub is_other : Role → Bool
is_other Other = true
is_other _ = false

-- `(`, such a token and `)` follow a token
abbrev pub may_call : List Role → ℕ → Bool
may_call roles at = is_opening (role_at roles (at + 1)) && is_other (role_at roles (at + 2)) && is_closing (role_at roles (at + 3))

-- no token from one up to another is followed by `(`, such a token and `)`
abbrev pub IsUncalled : List Role → ℕ → ℕ → Type 0
IsUncalled roles from end = NonePasses (may_call roles) from end

-- a walk that goes up to an index at most has passed over tokens that they don't follow
abbrev pub HasPassed : List Role → ℕ → ℕ → ℕ → Type 0
HasPassed roles from end at = HasPassedOver (may_call roles) from end at
