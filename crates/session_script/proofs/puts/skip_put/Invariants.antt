use Rattle.std.proofs.Common.{◌≡◌, ◌≤◌, ◌-◌, ℕ, List}
use Rattle.session_script.specs.declared.limits.TheConstants.{LINE_COUNT_LIMIT}
use Rattle.session_script.specs.Scripts.{script_of_put}
use Rattle.session_script.specs.Steps.{KeepsPut}
use Rattle.session_script.proofs.puts.skip_put.Given as goal

-- The skipped lines are more text of the put, no call of the input has failed, and the count has not fallen.
abbrev pub invariant-loop-ending : goal.invariant-loop-ending
invariant-loop-ending g l =
    (g.S.Source.tells → (path text : List ℕ) → KeepsPut path text (script_of_put path text l.fn.lines (g.S.Source.left l.fn.input)) l.lines (g.S.Source.left l.input))
    × (g.S.Source.failed_takes l.input ≡ g.S.Source.failed_takes l.fn.input)
    × (l.fn.lines ≤ l.lines)

-- the lines that may still be taken
abbrev pub decreases-loop-ending : goal.decreases-loop-ending
decreases-loop-ending g l = LINE_COUNT_LIMIT - l.lines
