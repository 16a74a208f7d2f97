use Rattle.std.proofs.Common.{◌≡◌, ◌≤◌, ◌-◌, ℕ, List, [], length}
use Rattle.session_script.specs.declared.limits.TheConstants.{LINE_COUNT_LIMIT}
use Rattle.session_script.specs.Scripts.{script_of_put}
use Rattle.session_script.proofs.puts.take_put.Given as goal

-- The text so far is within the limit, the script continues with it, no call of the input has failed, and the count has not fallen.
abbrev pub invariant-loop-text : goal.invariant-loop-text
invariant-loop-text g l =
    (length l.text.items ≤ l.fn.limit)
    × (g.S.Source.tells → (path : List ℕ) → script_of_put path [] l.fn.lines (g.S.Source.left l.fn.input) ≡ script_of_put path l.text.items l.lines (g.S.Source.left l.input))
    × (g.S.Source.failed_takes l.input ≡ g.S.Source.failed_takes l.fn.input)
    × (l.fn.lines ≤ l.lines)

-- the lines that may still be taken
abbrev pub decreases-loop-text : goal.decreases-loop-text
decreases-loop-text g l = LINE_COUNT_LIMIT - l.lines
