-- How a child of the program ends.
use Rattle.std.specs.Prelude.{ℕ, List, [], ◌∷◌, ◌++◌, codes}
use Rattle.base.specs.declared.child.Exit.{Exit}
use Rattle.base.specs.declared.child.MaybeText.TheVariants.{Nothing}

-- an end with this code and output, and no results
abbrev pub ends_with : ℕ → List ℕ → Exit
ends_with code output = record { code = code; output = output; results = Nothing }

-- the answer to an input that isn't a request
unfoldable pub bad_request : Exit
bad_request = ends_with 2 (codes "bad request" ++ 10 ∷ [])
