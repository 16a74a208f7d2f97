-- The added paths, and then those of the remaining keys, are all.
use Rattle.std.proofs.Common.{◌≡◌, ◌++◌, filter, map}
use Rattle.outside.specs.Trees.{is_listed}
use Rattle.memory_outside.specs.Trees.{paths_of}
use Rattle.session_texts.proofs.texts.Overlays.add_listed.Given as goal

abbrev pub invariant-loop-path : goal.invariant-loop-path
invariant-loop-path l =
    (goal.iterator-loop-path).can_next l.path-iterator ×
    (goal.iterator-loop-path).is_finite l.path-iterator ×
    (l.paths ++ filter is_listed (map (λ key. key.items) l.path-iterator) ≡ l.initial.paths ++ filter is_listed (paths_of l.self))
