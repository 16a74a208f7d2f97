-- Reports that tell nothing of what they hold.
use Rattle.std.specs.Prelude.{ℕ, List, Option, None}

-- the report of each path, where none is told
abbrev pub no_report : List ℕ → Option (List ℕ)
no_report path = None
