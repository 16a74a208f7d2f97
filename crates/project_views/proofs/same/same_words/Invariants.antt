-- What the loops of `same_words` keep, and why they end.
use Rattle.std.proofs.Common.{◌≡◌, take}
use Rattle.project_views.proofs.same.same_words.Given as goal

abbrev pub invariant-loop-i : goal.invariant-loop-i
invariant-loop-i l = take l.i l.a ≡ take l.i l.b
