-- Scripts of small inputs, worked out by hand.
use Rattle.std.specs.Prelude.{◌≡◌, List, [], ◌∷◌, codes}
use Rattle.session_script.specs.declared.lines.Ending.{Ending}
use Rattle.session_script.specs.declared.lines.Ending.TheVariants.{Quits, Unended, OverLines}
use Rattle.session_script.specs.declared.limits.TheConstants.{LINE_COUNT_LIMIT}
use Rattle.session_script.specs.Scripts.{Command, Put, Drop, Run, Unknown, Script, script_after, script_of}

-- the script with these commands and this ending
abbrev pub script : List Command → Ending → Script
script commands ending = record { commands = commands; ending = ending }

-- Examples of commands, cut at spaces.
pub record CommandExamples : Type 0 where
  -- an empty input, and nothing behind `quit` is read
  pub nothing : script_of [] ≡ script [] Quits
  pub quits : script_of (codes "quit\nfrob\n") ≡ script [] Quits
  -- bytes after `quit`, and a carriage return
  pub after_quit : script_of (codes "quit \nquit\r\n") ≡ script (Unknown ∷ Unknown ∷ []) Quits
  -- empty lines, a space in front, upper case, and a command without its space
  pub unknown : script_of (codes "\n run -f\nRUN -f\nrunx\nput\ndrop\n") ≡ script (Unknown ∷ Unknown ∷ Unknown ∷ Unknown ∷ Unknown ∷ Unknown ∷ []) Quits
  -- several spaces separate words like one, and a run may have no word
  pub words : script_of (codes "run  -f \nrun -p 4\nrun\n") ≡ script (Run (codes "-f" ∷ []) ∷ Run (codes "-p" ∷ codes "4" ∷ []) ∷ Run [] ∷ []) Quits
  -- a drop with a path, a drop with an empty path, and a last line without a line feed
  pub drops : script_of (codes "drop a.vhd\ndrop \ndrop b") ≡ script (Drop (codes "a.vhd") ∷ Drop [] ∷ Drop (codes "b") ∷ []) Quits

-- Examples of puts, alone and among other commands.
pub record PutExamples : Type 0 where
  -- a text of two lines between two commands
  pub text : script_of (codes "put b.vhd\nx\ny\n.\nrun\n") ≡ script (Put (codes "b.vhd") (codes "x\ny\n") ∷ Run [] ∷ []) Quits
  -- a put without a text, with an empty path
  pub empty : script_of (codes "put \n.\n") ≡ script (Put [] [] ∷ []) Quits
  -- one leading dot of a line goes
  pub dots : script_of (codes "put vunit.csv\n.lib,a.vhd\n..\n.\n") ≡ script (Put (codes "vunit.csv") (codes "lib,a.vhd\n.\n") ∷ []) Quits
  -- a dot and a carriage return do not end a put
  pub returns : script_of (codes "put a\r\n.\r\n") ≡ script [] Unended
  -- a command inside a put is a line of its text
  pub inside : script_of (codes "put a\nquit\n.\nquit\n") ≡ script (Put (codes "a") (codes "quit\n") ∷ []) Quits
  -- the input ends inside the second put
  pub unended : script_of (codes "put a\n.\nput b\nx") ≡ script (Put (codes "a") [] ∷ []) Unended
  -- a project listed before and after a put
  pub listed : script_of (codes "run -f\nput b.vhd\npackage b is\nend package b;\n.\nrun -f\nquit\n")
      ≡ script (Run (codes "-f" ∷ []) ∷ Put (codes "b.vhd") (codes "package b is\nend package b;\n") ∷ Run (codes "-f" ∷ []) ∷ []) Quits
  -- any bytes may be a path
  pub outside : script_of (codes "put ../x\n.\ndrop a.vhd\nfrob\n") ≡ script (Put (codes "../x") [] ∷ Drop (codes "a.vhd") ∷ Unknown ∷ []) Quits

-- Examples at the limit of lines.
pub record LimitExamples : Type 0 where
  -- the last allowed line is a command, also `quit`, and the input ends after it
  pub last : script_after 999999 (codes "\n") ≡ script (Unknown ∷ []) Quits
  pub last_quit : script_after 999999 (codes "quit\n") ≡ script [] Quits
  pub ended : script_after LINE_COUNT_LIMIT [] ≡ script [] Quits
  -- any line after it is one too many, also `quit`
  pub over : script_after 999999 (codes "\n\n") ≡ script (Unknown ∷ []) OverLines
  pub over_quit : script_after LINE_COUNT_LIMIT (codes "quit\n") ≡ script [] OverLines
  -- a put may pass the limit
  pub over_put : script_after 999999 (codes "put a\n.\n") ≡ script [] OverLines
