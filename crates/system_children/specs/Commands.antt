-- What command words start.
use Rattle.std.specs.Prelude.{◌≡◌, ℕ, List, [], ◌∷◌, codes, Option, Some}
use Rattle.std.specs.Process.{command_program, command_args}
use Rattle.std.specs.declared.process.command.Command.{Command}
use Rattle.std.specs.Global.{Global}

-- the program that a first word names: the word @self names the own one, where it is known, and another itself
pub record IsProgram (own : Option (List ℕ)) (word program : List ℕ) : Type 0 where
  pub own_one : word ≡ codes "@self" → own ≡ Some program
  pub other : ¬ (word ≡ codes "@self") → program ≡ word

-- the command of the words: the first word names the program, and the others are its arguments, unchanged
abbrev pub IsCommandOf : Option (List ℕ) → List (List ℕ) → Command Global → Type 0
IsCommandOf own [] command = ⊥
IsCommandOf own (word ∷ words) command = IsProgram own word (command_program command) × (command_args command ≡ words)
