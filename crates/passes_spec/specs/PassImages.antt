-- Which passes an image of a disk has, during and after a run.
use Rattle.std.specs.Prelude.{◌≡◌, ◌⊎◌, ℕ, Bool, true, List, [], ◌++◌, take}
use Rattle.passes_spec.specs.Passes.{Pass, IsAllOrLast}

-- What a run goes on from: all passes that it found, or the last of the same tests alone; or none, where it empties them.
abbrev pub IsBase : List Pass → Bool → List Pass → Type 0
IsBase before clean base = IsAllOrLast before base ⊎ ((clean ≡ true) × (base ≡ []))

-- The passes of an image: the passes that a run goes on from, followed by the first of the passes that it records.
pub record HasPasses (before : List Pass) (clean : Bool) (recorded now : List Pass) : Type 0 where
  pub base : List Pass
  pub from : IsBase before clean base
  pub count : ℕ
  pub are : now ≡ base ++ take count recorded
