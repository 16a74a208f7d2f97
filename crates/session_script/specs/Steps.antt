-- Steps through a put: one line of it, and the lines that are skipped.
use Rattle.std.specs.Prelude.{◌≡◌, ℕ, ◌+◌, ◌≤◌, ◌<◌, true, false, List, ◌++◌, length, Option, Some, None}
use Rattle.session_script.specs.declared.lines.Ending.{Ending}
use Rattle.session_script.specs.declared.puts.Added.{Added}
use Rattle.session_script.specs.declared.puts.Added.TheVariants.{More, TooMuch, Done}
use Rattle.session_script.specs.declared.puts.PutStep.{PutStep}
use Rattle.session_script.specs.declared.puts.PutStep.TheVariants.{Took, Ends}
use Rattle.session_script.specs.Commands.{is_put_end, text_line}
use Rattle.session_script.specs.Scripts.{Script, Put, ends, with_command, script_after, script_of_put}
use Rattle.session_script.specs.declared.limits.TheConstants.{LINE_COUNT_LIMIT}

-- a line of a put is added to its text, would make the text exceed the limit, or ends the put
abbrev pub AddsLine : ℕ → List ℕ → Added → (old new : List ℕ) → Type 0
AddsLine limit line More old new = (is_put_end line ≡ false) × (new ≡ old ++ text_line line) × (length new ≤ limit)
AddsLine limit line TooMuch old new = (is_put_end line ≡ false) × (limit < length (old ++ text_line line))
AddsLine limit line Done old new = (is_put_end line ≡ true) × (new ≡ old)

-- the text of a put exceeds the limit, and the script continues inside the put
pub record GoesOver (limit : ℕ) (path : List ℕ) (script : Script) (taken : ℕ) (left : List ℕ) : Type 0 where
  pub text : List ℕ
  pub long : limit < length text
  pub more : script ≡ script_of_put path text taken left

-- the script of a put continues after one line
abbrev pub PassesLine : ℕ → (path : List ℕ) → PutStep → (old new : List ℕ) → Script → (taken : ℕ) → (left : List ℕ) → Type 0
PassesLine limit path (Took More) old new script taken left = script ≡ script_of_put path new taken left
PassesLine limit path (Took TooMuch) old new script taken left = GoesOver limit path script taken left
PassesLine limit path (Took Done) old new script taken left = script ≡ with_command (Put path new) (script_after taken left)
PassesLine limit path (Ends ending) old new script taken left = script ≡ ends ending

-- after a line the text of a put is within the limit, and the line that ends the put does not change it
abbrev pub FitsAdded : ℕ → PutStep → (old new : List ℕ) → Type 0
FitsAdded limit (Took More) old new = length new ≤ limit
FitsAdded limit (Took TooMuch) old new = Unit {0}
FitsAdded limit (Took Done) old new = new ≡ old
FitsAdded limit (Ends ending) old new = Unit {0}

-- a taken line of a put raises the count, which stays within the limit
abbrev pub CountsPut : PutStep → (old new : ℕ) → Type 0
CountsPut (Took added) old new = (new ≡ old + 1) × (new ≤ LINE_COUNT_LIMIT)
CountsPut (Ends ending) old new = new ≡ old

-- a script begins with a put whose text begins with these bytes
pub record PutsMore (path text : List ℕ) (script rest : Script) : Type 0 where
  pub more : List ℕ
  pub begins : script ≡ with_command (Put path (text ++ more)) rest

-- The skipped lines are what the script has next: the rest of the put, or the end of the input inside the put.
abbrev pub SkipsPut : (path text : List ℕ) → Option Ending → (script rest : Script) → Type 0
SkipsPut path text None script rest = PutsMore path text script rest
SkipsPut path text (Some ending) script rest = script ≡ ends ending

-- the script continues inside the put, with more text
pub record KeepsPut (path text : List ℕ) (script : Script) (taken : ℕ) (left : List ℕ) : Type 0 where
  pub more : List ℕ
  pub same : script ≡ script_of_put path (text ++ more) taken left
