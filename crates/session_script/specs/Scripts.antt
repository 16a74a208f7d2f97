-- The script of an input: its commands, and how the input ends.
use Rattle.std.specs.Prelude.{◌≡◌, ℕ, ◌+◌, ◌≤◌, ◌<◌, nat_le, nat_lt, if◌then◌else◌, List, [], ◌∷◌, ◌++◌, length, Option, Some, None}
use Rattle.std.specs.List.{onto_first}
use Rattle.outside.specs.Streams.{is_line_feed}
use Rattle.session_script.specs.declared.limits.TheConstants.{LINE_LIMIT, LINE_COUNT_LIMIT}
use Rattle.session_script.specs.declared.lines.Ending.{Ending}
use Rattle.session_script.specs.declared.lines.Ending.TheVariants.{Quits, Unended, OverLine, OverLines}
use Rattle.session_script.specs.declared.lines.NextLine.{NextLine}
use Rattle.session_script.specs.declared.lines.NextLine.TheVariants.{Got, Ends}
use Rattle.session_script.specs.declared.puts.PutEnd.{PutEnd}
use Rattle.session_script.specs.declared.puts.PutEnd.TheVariants as taken
use Rattle.session_script.specs.Commands.{CommandLine, PutLine, DropLine, RunLine, QuitLine, UnknownLine, command_of, is_put_end, text_line}

-- A command with its path, text or words. The text of a put may have any length, and its path any bytes.
pub data Command : Type 0 where
  Put : (path text : List ℕ) → Command
  Drop : (path : List ℕ) → Command
  Run : (words : List (List ℕ)) → Command
  Unknown : Command

-- the commands of an input in order, and how the input ends after them
pub record Script : Type 0 where
  pub commands : List Command
  pub ending : Ending

-- the script without commands that ends this way
abbrev pub ends : Ending → Script
ends ending = record { commands = []; ending = ending }

-- a script with one more command in front
abbrev pub with_command : Command → Script → Script
with_command command script = record { commands = command ∷ script.commands; ending = script.ending }

-- The lines of an input, without their line feeds. A last line may lack its line feed.
unfoldable pub lines_of : List ℕ → List (List ℕ)
lines_of [] = []
lines_of (byte ∷ bytes) = if is_line_feed byte then [] ∷ lines_of bytes else onto_first byte (lines_of bytes)

-- The next line after some taken lines, or how the input ends there. A line that is too long is reported as such, even
-- after the last allowed line.
abbrev pub next_of : Ending → ℕ → List (List ℕ) → NextLine
next_of at_end taken [] = Ends at_end
next_of at_end taken (line ∷ lines) = if nat_le (length line) LINE_LIMIT then (if nat_lt taken LINE_COUNT_LIMIT then Got line else Ends OverLines) else Ends OverLine

-- the next line of an input after some taken lines, or how the input ends there
abbrev pub next_line : Ending → ℕ → List ℕ → NextLine
next_line at_end taken input = next_of at_end taken (lines_of input)

-- A taken line raises the count, which stays within the limit. The end of the input does not change the count.
abbrev pub Counts : NextLine → (old new : ℕ) → Type 0
Counts (Got line) old new = (new ≡ old + 1) × (new ≤ LINE_COUNT_LIMIT)
Counts (Ends ending) old new = new ≡ old

-- a taken line is within the limit of a line
abbrev pub FitsNext : NextLine → Type 0
FitsNext (Got line) = length line ≤ LINE_LIMIT
FitsNext (Ends ending) = Unit {0}

-- a put whose end has not been reached: its path, and its text so far
pub record OpenPut : Type 0 where
  pub path : List ℕ
  pub text : List ℕ

-- how an input without more lines ends, inside a put or between two commands
abbrev pub end_in : Option OpenPut → Ending
end_in None = Quits
end_in (Some put) = Unended

-- the script that begins with a command line, from the script of the lines after it
abbrev pub then_command : CommandLine → (Option OpenPut → Script) → Script
then_command (PutLine path) rest = rest (Some (record { path = path; text = [] }))
then_command (DropLine path) rest = with_command (Drop path) (rest None)
then_command (RunLine words) rest = with_command (Run words) (rest None)
then_command QuitLine rest = ends Quits
then_command UnknownLine rest = with_command Unknown (rest None)

-- the script that begins with a line, from the script of the lines after it
abbrev pub then_line : Option OpenPut → List ℕ → (Option OpenPut → Script) → Script
then_line None line rest = then_command (command_of line) rest
then_line (Some put) line rest =
    if is_put_end line then with_command (Put put.path put.text) (rest None)
    else rest (Some (record { path = put.path; text = put.text ++ text_line line }))

-- the script that begins with the next line, or ends where the input ends
abbrev pub then_next : NextLine → (List ℕ → Script) → Script
then_next (Got line) rest = rest line
then_next (Ends ending) rest = ends ending

-- the script of lines after some taken lines, inside a put or between two commands
unfoldable pub script_in : Option OpenPut → ℕ → List (List ℕ) → Script
script_in put taken [] = ends (end_in put)
script_in put taken (line ∷ lines) = then_next (next_of (end_in put) taken (line ∷ lines)) (λ next. then_line put next (λ following. script_in following (taken + 1) lines))

-- the rest of a script between two commands, after some taken lines
abbrev pub script_after : ℕ → List ℕ → Script
script_after taken input = script_in None taken (lines_of input)

-- the rest of a script inside a put, after some taken lines
abbrev pub script_of_put : (path text : List ℕ) → ℕ → List ℕ → Script
script_of_put path text taken input = script_in (Some (record { path = path; text = text })) taken (lines_of input)

-- the script of a whole input
abbrev pub script_of : List ℕ → Script
script_of input = script_after 0 input

-- the taken text is within the limit
abbrev pub FitsPut : ℕ → PutEnd → Type 0
FitsPut limit (taken.Got text) = length text ≤ limit
FitsPut limit taken.TooLong = Unit {0}
FitsPut limit (taken.Ends ending) = Unit {0}

-- a script begins with a put whose text exceeds the limit
pub record PutsTooMuch (limit : ℕ) (path : List ℕ) (script rest : Script) : Type 0 where
  pub text : List ℕ
  pub long : limit < length text
  pub begins : script ≡ with_command (Put path text) rest

-- The answer for a put is what the script has next. A text is the put's text, `TooLong` is a put whose text exceeds the
-- limit, and an ending means that the script ends inside the put.
abbrev pub TakesPut : ℕ → (path : List ℕ) → PutEnd → (script rest : Script) → Type 0
TakesPut limit path (taken.Got text) script rest = (length text ≤ limit) × (script ≡ with_command (Put path text) rest)
TakesPut limit path taken.TooLong script rest = PutsTooMuch limit path script rest
TakesPut limit path (taken.Ends ending) script rest = script ≡ ends ending
