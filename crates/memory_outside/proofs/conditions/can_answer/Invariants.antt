use Rattle.std.proofs.Common.{◌↔◌, drop}
use Rattle.memory_outside.specs.Scripts.{CanAnswer}
use Rattle.memory_outside.proofs.conditions.can_answer.Given as goal

abbrev pub invariant-loop-answer : goal.invariant-loop-answer
invariant-loop-answer l = CanAnswer l.answers ↔ CanAnswer (drop l.answer-index l.answers)
