-- The next line at the limits.
use Rattle.std.proofs.Common.{◌≡◌, ◌∙◌, ℕ, ◌<◌, ◌≤◌, List, ◌∷◌, length, nat_le, nat_lt, if◌then◌else◌}
use Rattle.std.proofs.lemmas.Bool.{cond-true, cond-false, lt-ltb, le-ltb, le-leb, lt-leb}
use Rattle.session_script.specs.declared.limits.TheConstants.{LINE_COUNT_LIMIT, LINE_LIMIT}
use Rattle.session_script.specs.declared.lines.Ending.{Ending}
use Rattle.session_script.specs.declared.lines.Ending.TheVariants.{OverLine, OverLines}
use Rattle.session_script.specs.declared.lines.NextLine.{NextLine}
use Rattle.session_script.specs.declared.lines.NextLine.TheVariants.{Got, Ends}
use Rattle.session_script.specs.Scripts.{next_of}

-- a line that is not too long is taken, or is one too many
abbrev short_line : ℕ → List ℕ → NextLine
short_line taken line = if nat_lt taken LINE_COUNT_LIMIT then Got line else Ends OverLines

pub next_taken : (at_end : Ending) (taken : ℕ) (line : List ℕ) (lines : List (List ℕ)) → length line ≤ LINE_LIMIT → taken < LINE_COUNT_LIMIT → next_of at_end taken (line ∷ lines) ≡ Got line
next_taken at_end taken line lines short few =
    cond-true (nat_le (length line) LINE_LIMIT) (short_line taken line) (Ends OverLine) (le-leb _ _ short)
    ∙ cond-true (nat_lt taken LINE_COUNT_LIMIT) (Got line) (Ends OverLines) (lt-ltb _ _ few)

pub next_long : (at_end : Ending) (taken : ℕ) (line : List ℕ) (lines : List (List ℕ)) → LINE_LIMIT < length line → next_of at_end taken (line ∷ lines) ≡ Ends OverLine
next_long at_end taken line lines long = cond-false (nat_le (length line) LINE_LIMIT) (short_line taken line) (Ends OverLine) (lt-leb _ _ long)

pub next_many : (at_end : Ending) (taken : ℕ) (line : List ℕ) (lines : List (List ℕ)) → length line ≤ LINE_LIMIT → LINE_COUNT_LIMIT ≤ taken → next_of at_end taken (line ∷ lines) ≡ Ends OverLines
next_many at_end taken line lines short many =
    cond-true (nat_le (length line) LINE_LIMIT) (short_line taken line) (Ends OverLine) (le-leb _ _ short)
    ∙ cond-false (nat_lt taken LINE_COUNT_LIMIT) (Got line) (Ends OverLines) (le-ltb _ _ many)
