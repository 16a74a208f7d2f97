-- Runs of durable steps on a disk.
use Rattle.std.specs.Prelude.{◌≡◌, ◌⊎◌, ℕ, ◌-◌, List, [], ◌∷◌, length}
use Rattle.outside.specs.declared.disk.Side.{Side}
use Rattle.outside.specs.Disks.{DiskState, Moments, Goes, on_side, writing, written_through, cutting, cut_through}

-- a step: the disk inside of it, and after it
pub record Step : Type 0 where
  pub during : DiskState
  pub after : DiskState

-- The moments of steps that run in order, up to some step. Each step before that one succeeded; that one may have failed.
unfoldable pub Went : List Step → Moments → Moments → Type 0
Went [] old new = ⊥
Went (step ∷ steps) old new = Goes step.during old new ⊎ ((middle : Moments) × Goes step.during old middle × (middle.now ≡ step.after) × Went steps middle new)

-- a write of bytes to a side from an offset on, with the sync that makes it last
abbrev pub write_step : Side → ℕ → List ℕ → DiskState → Step
write_step side at bytes disk = record { during = on_side side (writing at (length bytes)) disk; after = on_side side (written_through at bytes) disk }

-- a cut of a side to no bytes, with the sync that makes it last
abbrev pub cut_step : Side → DiskState → Step
cut_step side disk = record { during = on_side side cutting disk; after = on_side side cut_through disk }

-- what the disk is after a step, and the steps from there on
abbrev pub then_steps : Step → (DiskState → List Step) → List Step
then_steps step rest = step ∷ rest step.after

-- Making a side of bytes: it is emptied and made dead, then all bytes but the first are written, then the first.
unfoldable pub making : Side → List ℕ → DiskState → List Step
making side bytes disk =
    then_steps (cut_step side disk) (λ emptied.
    then_steps (write_step side 0 (0 ∷ []) emptied) (λ dead.
    then_steps (write_step side 1 bytes dead) (λ full.
    write_step side 0 (1 ∷ []) full ∷ [])))

-- A commit: what comes after the closed commit byte, and then the commit byte alone.
unfoldable pub committing : Side → (len : ℕ) → List ℕ → DiskState → List Step
committing live len bytes disk =
    then_steps (write_step live len bytes disk) (λ after.
    write_step live (len - 1) (1 ∷ []) after ∷ [])

-- Emptying a side that counts: the other side first, then that one is made dead, and then it is made.
unfoldable pub emptying : (live other : Side) → List ℕ → DiskState → List Step
emptying live other bytes disk =
    then_steps (cut_step other disk) (λ emptied.
    then_steps (write_step live 0 (0 ∷ []) emptied) (λ dead.
    making live bytes dead))

-- the disk after the last step
unfoldable pub last_moment : DiskState → List Step → DiskState
last_moment disk [] = disk
last_moment disk (step ∷ steps) = last_moment step.after steps
