use Rattle.std.proofs.Common.{◌≡◌}
use Rattle.std.specs.Prelude.{take}
use Rattle.std.specs.Process.{command_program, command_args}
use Rattle.system_children.proofs.child.command_of.Given as goal

-- the words so far are the arguments
abbrev pub invariant-loop-word : goal.invariant-loop-word
invariant-loop-word l = (command_program l.command ≡ command_program l.initial.command) × (command_args l.command ≡ take l.word-index l.rest)
