use Rattle.std.proofs.Common.{◌≡◌, drop}
use Rattle.memory_outside.specs.Scripts.{answer_of}
use Rattle.memory_outside.proofs.table.exit_of.Given as goal

abbrev pub invariant-loop-answer : goal.invariant-loop-answer
invariant-loop-answer l = answer_of l.answers l.request ≡ answer_of (drop l.answer-index l.answers) l.request
