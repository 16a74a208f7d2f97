-- What the dependencies of a file have to be.
use Rattle.std.specs.Prelude.{◌≢◌, ℕ, ◌<◌, List, All}
use Rattle.std.specs.List.Sorted.{IsStrictlyIncreasing}

-- positions that can be what a file of a project depends on: they rise, are files, and the file isn't among them
pub record AreDeps (count file : ℕ) (deps : List ℕ) : Type 0 where
  pub rising : IsStrictlyIncreasing deps
  pub within : All (λ dep. dep < count) deps
  pub others : All (λ dep. dep ≢ file) deps
