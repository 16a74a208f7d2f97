-- Tokens other than dots, and tokens that no dot follows.
use Rattle.std.specs.Prelude.{ℕ, ◌+◌, Bool, List}
use Rattle.base.specs.declared.design.Role.{Role}
use Rattle.vhdl_spec.specs.Passing.{HasPassedOver, NonePasses}
use Rattle.vhdl_spec.specs.References.{is_dot}
use Rattle.vhdl_spec.specs.Units.{role_at}

-- no token from one up to another is a dot
abbrev pub IsDotless : List Role → ℕ → ℕ → Type 0
IsDotless roles from end = NonePasses (λ at. is_dot (role_at roles at)) from end

-- a dot follows a token
abbrev pub is_dotted : List Role → ℕ → Bool
is_dotted roles at = is_dot (role_at roles (at + 1))

-- a walk that goes up to an index at most has passed over tokens that no dot follows
abbrev pub HasPassed : List Role → ℕ → ℕ → ℕ → Type 0
HasPassed roles from end at = HasPassedOver (is_dotted roles) from end at
