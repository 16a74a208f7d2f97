-- Command lines of a session, and the text lines of a put.
use Rattle.std.specs.Prelude.{ℕ, Bool, not, ◌||◌, ◌==◌, if◌then◌else◌, List, [], ◌∷◌, ◌++◌, length, drop, filter, codes}
use Rattle.std.specs.List.{slice_split, starts_with}
use Rattle.std.specs.Str.{bytes_eq}
use Rattle.session_script.specs.declared.commands.LineCommand.{LineCommand}
use Rattle.session_script.specs.declared.commands.LineCommand.TheVariants as line

-- A command line. The text of a put follows in the next lines.
pub data CommandLine : Type 0 where
  PutLine : (path : List ℕ) → CommandLine
  DropLine : (path : List ℕ) → CommandLine
  RunLine : (words : List (List ℕ)) → CommandLine
  QuitLine : CommandLine
  UnknownLine : CommandLine

-- the byte separates two words
abbrev pub is_space : ℕ → Bool
is_space byte = byte == 32

-- a part between two spaces is a word if it is not empty
abbrev pub is_word : List ℕ → Bool
is_word part = not (length part == 0)

-- the words of bytes: the parts between spaces, without empty parts
abbrev pub words_of : List ℕ → List (List ℕ)
words_of bytes = filter is_word (slice_split is_space bytes)

-- bytes begin with a word
abbrev pub has_prefix : List ℕ → List ℕ → Bool
has_prefix word bytes = starts_with (λ a b. a == b) bytes word

-- a line is `run`, or begins with `run` and a space
abbrev pub is_run : List ℕ → Bool
is_run line = bytes_eq line (codes "run") || has_prefix (codes "run ") line

-- The command of a line. Upper case, a space before the command, or a byte after `quit` make the line unknown.
unfoldable pub command_of : List ℕ → CommandLine
command_of line =
    if bytes_eq line (codes "quit") then QuitLine
    else if is_run line then RunLine (words_of (drop 3 line))
    else if has_prefix (codes "put ") line then PutLine (drop 4 line)
    else if has_prefix (codes "drop ") line then DropLine (drop 5 line)
    else UnknownLine

-- the command that the code's command line stands for
abbrev pub line_command : LineCommand → CommandLine
line_command (line.Put path) = PutLine path.now
line_command (line.Drop path) = DropLine path.now
line_command (line.Run words) = RunLine (words_of words.now)
line_command line.Quit = QuitLine
line_command line.Unknown = UnknownLine

-- a line without a leading dot
abbrev pub without_dot : List ℕ → List ℕ
without_dot [] = []
without_dot (byte ∷ bytes) = if byte == 46 then bytes else byte ∷ bytes

-- the bytes that a line of a put adds to its text: the line without a leading dot, and a line feed
abbrev pub text_line : List ℕ → List ℕ
text_line line = without_dot line ++ 10 ∷ []

-- the line ends a put: it is a single dot
abbrev pub is_put_end : List ℕ → Bool
is_put_end line = bytes_eq line (46 ∷ [])
