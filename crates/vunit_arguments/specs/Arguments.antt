-- The command line, and what its words say.
use Rattle.std.specs.Prelude.{◌≡◌, ⊤, ℕ, ◌^◌, ◌-◌, ◌&&◌, Bool, true, false, if◌then◌else◌, List, [], ◌∷◌, codes, Option, Some, None, option_map, unwrap_or, Result, Ok, Err}
use Rattle.std.specs.List.{list_all}
use Rattle.std.specs.Option.{option_map_or, option_and_then}
use Rattle.std.specs.Str.{bytes_eq, is_utf8}
use Rattle.std.specs.Str.Parse.{digits_value, without_leading_plus}
use Rattle.clap.specs.Words.{App, Row, Rule, Text, all_of, fault_of, first_of, matches_of, new_rule, with_rule}
use Rattle.clap.specs.Simple.{new_shape}
use Rattle.clap.specs.Lexer.{usize_max}
use Rattle.clap.specs.ValueTests.{is_unsigned_in}
use Rattle.clap.specs.declared.builder.action.ArgAction.TheVariants.{SetTrue}
use Rattle.clap.specs.declared.builder.value_parser.ValueParser.TheVariants.{Unsigned}
use Rattle.base.specs.declared.child.MaybeText.{MaybeText}
use Rattle.base.specs.declared.child.MaybeText.TheVariants.{Nothing, Given}
use Rattle.vunit_arguments.specs.declared.setting.Setting.{Setting}
use Rattle.vunit_arguments.specs.declared.setting.ArgumentsFault.{ArgumentsFault}
use Rattle.vunit_arguments.specs.declared.setting.ArgumentsFault.TheVariants as fault

-- ## The command, as `clap` reads it

-- `--name`
abbrev pub flag : Text → Rule
flag name = record (new_rule name) { long = Some name; action = Some SetTrue }

-- `--name VALUE`
abbrev pub valued : Text → Rule
valued name = record (new_rule name) { long = Some name }

-- `--name N`, of a number from 1 to 2^64 - 1
abbrev pub numbered : Text → Rule
numbered name = record (valued name) { parser = Some (Unsigned 1 (2 ^ 64 - 1)) }

-- an option with a short name too, as `-p`
abbrev pub lettered : ℕ → Rule → Rule
lettered letter rule = record rule { short = Some letter }

-- the most children at once, 1 where none is given
abbrev pub threads : Rule
threads = record (lettered 112 (numbered (codes "num-threads"))) { defaults = codes "1" ∷ [] }

-- the arguments that aren't options, which are patterns: any number of them; without a pattern, `*` is assumed
abbrev pub patterns : Rule
patterns = record (new_rule (codes "patterns")) { range = Some (record { start_inclusive = 0; end_inclusive = usize_max }); defaults = codes "*" ∷ [] }

-- the command with the options that choose the task and how it is done
abbrev pub with_modes : App → App
with_modes app =
    with_rule (with_rule (with_rule (with_rule (with_rule (with_rule (with_rule app
    (lettered 108 (flag (codes "list"))))
    (lettered 102 (flag (codes "files"))))
    (flag (codes "compile")))
    (lettered 109 (flag (codes "minimal"))))
    (lettered 107 (flag (codes "keep-compiling"))))
    (flag (codes "fail-fast")))
    (flag (codes "clean"))

-- the command with the options that say what is written, all others, and the patterns
abbrev pub with_outputs : App → App
with_outputs app =
    with_rule (with_rule (with_rule (with_rule (with_rule (with_rule (with_rule (with_rule app
    (lettered 120 (valued (codes "xunit-xml"))))
    (flag (codes "exit-0")))
    (lettered 118 (flag (codes "verbose"))))
    (lettered 113 (flag (codes "quiet"))))
    threads)
    (valued (codes "export-json")))
    (numbered (codes "generate")))
    patterns

-- the command: no words of clap's own, and no name of the program before the words
abbrev pub bare_command : App
bare_command = record {
  top = record (new_shape (codes "vunit_run")) {
    no_binary_name = true;
    disable_help_flag = true;
    disable_version_flag = true;
  };
  subs = [];
}

-- the whole command: all options, and the patterns
abbrev pub command_line : App
command_line = with_outputs (with_modes bare_command)

-- ## What the words say

-- a flag was given
abbrev pub has_flag : List Row → Text → Bool
has_flag rows name = option_map_or (bytes_eq (codes "true")) (first_of name rows) false

-- a text that may be missing, as the program holds it
abbrev pub maybe : Option Text → MaybeText
maybe None = Nothing
maybe (Some text) = Given text

-- the number that a text is, from 1 to 2^64 - 1
abbrev pub number_of : Text → Option ℕ
number_of text = if is_unsigned_in 1 (2 ^ 64 - 1) text then Some (digits_value 10 (without_leading_plus text)) else None

-- the number of an option, or another one where the option has no value
abbrev pub number_in : List Row → Text → ℕ → Option ℕ
number_in rows name other = option_map_or number_of (first_of name rows) (Some other)

-- what found options say, with these numbers of threads and of packages
abbrev pub setting_over : List Row → ℕ → ℕ → Setting
setting_over rows threads size = record {
  list = has_flag rows (codes "list");
  files = has_flag rows (codes "files");
  compile = has_flag rows (codes "compile");
  minimal = has_flag rows (codes "minimal");
  keep_compiling = has_flag rows (codes "keep-compiling");
  fail_fast = has_flag rows (codes "fail-fast");
  clean = has_flag rows (codes "clean");
  xunit_xml = maybe (first_of (codes "xunit-xml") rows);
  exit_0 = has_flag rows (codes "exit-0");
  verbose = has_flag rows (codes "verbose");
  quiet = has_flag rows (codes "quiet");
  num_threads = threads;
  export_json = maybe (first_of (codes "export-json") rows);
  generate = size;
  patterns = unwrap_or (all_of (codes "patterns") rows) [];
}

-- what found options say; nothing where the number of threads or of packages isn't one from 1 to 2^64 - 1
abbrev pub setting_in : List Row → Option Setting
setting_in rows = option_and_then (λ threads. option_map (setting_over rows threads) (number_in rows (codes "generate") 0)) (number_in rows (codes "num-threads") 1)

-- a list has no items: nothing is wrong
abbrev pub has_none : {X : Type 0} → List X → Bool
has_none [] = true
has_none (x ∷ xs) = false

-- words are read where each is UTF-8 and the command takes them
abbrev pub takes_arguments : List Text → Bool
takes_arguments arguments = list_all is_utf8 arguments && has_none (fault_of command_line arguments)

-- what the words say, where they are a command line
unfoldable pub setting_of : List Text → Option Setting
setting_of arguments = if takes_arguments arguments then setting_in (matches_of command_line arguments) else None

-- an answer is right if it is the setting of the arguments, or `Bad` if they are not a command line, or out of memory
abbrev pub ReadsArguments : Option Setting → Result Setting ArgumentsFault → Type 0
ReadsArguments said (Ok setting) = said ≡ Some setting
ReadsArguments said (Err fault.Bad) = said ≡ None
ReadsArguments said (Err fault.NoMemory) = ⊤

-- why words aren't read as texts
abbrev pub AreNoText : List Text → ArgumentsFault → Type 0
AreNoText arguments fault.Bad = list_all is_utf8 arguments ≡ false
AreNoText arguments fault.NoMemory = ⊤

-- words are read as texts where each is UTF-8
abbrev pub AreArguments : {V : Type 0} → (V → List Text) → List Text → Result V ArgumentsFault → Type 0
AreArguments texts arguments (Ok read) = (list_all is_utf8 arguments ≡ true) × (texts read ≡ arguments)
AreArguments texts arguments (Err why) = AreNoText arguments why
