-- The texts that are put. Each line ends with a line feed.
use Rattle.std.specs.Prelude.{ℕ, ◌-◌, ◌==◌, ◌||◌, if◌then◌else◌, List, [], ◌∷◌, ◌++◌, length, take, slice_get, slice_index, codes}
use Rattle.std.specs.Fmt.{decimal}
use Rattle.std.specs.List.{list_any, flat_map}
use Rattle.std.specs.Option.{option_map_or}
use Rattle.base.specs.declared.graph.Entry.{Entry}
use Rattle.base.specs.declared.file.FileName.{FileName}
use Rattle.base_outcomes.specs.declared.bench.TestFault.{TestFault}
use Rattle.base_outcomes.specs.declared.bench.TestFault.TheVariants as test
use Rattle.base.specs.declared.lexical.LexFault.{LexFault}
use Rattle.base.specs.declared.lexical.LexFault.TheVariants as lex
use Rattle.base.specs.declared.design.UnitFault.{UnitFault}
use Rattle.base.specs.declared.design.UnitFault.TheVariants as unit
use Rattle.base.specs.declared.project.ProjectFile.{ProjectFile}
use Rattle.base.specs.declared.linking.Warning.{Warning}
use Rattle.base.specs.declared.project.ProjectFault.{ProjectFault}
use Rattle.base.specs.declared.project.ProjectFault.TheVariants as fault
use Rattle.run_spec.specs.declared.statuses.FileStatus.{FileStatus}
use Rattle.run_spec.specs.declared.statuses.FileStatus.TheVariants.{Fresh, Compiled, Refused, Skipped, Left}
use Rattle.base_outcomes.specs.declared.outcome.Refusal.{Refusal}
use Rattle.base_outcomes.specs.declared.outcome.Refusal.TheVariants as refusal
use Rattle.base_outcomes.specs.declared.outcome.Limit.{Limit}
use Rattle.base_outcomes.specs.declared.outcome.Limit.TheVariants as limit
use Rattle.run_spec.specs.Statuses.{is_refused, is_compiled}

-- a line feed where the bytes aren't empty and don't end with one
abbrev pub line_end : List ℕ → List ℕ
line_end bytes = if length bytes == 0 || slice_index bytes (length bytes - 1) == 10 then [] else 10 ∷ []

-- the first bytes of what a child printed, up to a limit, as whole lines
abbrev pub shown : ℕ → List ℕ → List ℕ
shown limit output = take limit output ++ line_end (take limit output)

-- how much of what a child printed is shown
abbrev pub shown_bytes : ℕ
shown_bytes = 4096

-- the line of a file, up to the word for its status
unfoldable pub compiling : Entry → List ℕ
compiling entry = codes "Compiling into " ++ (entry.name.library ++ (codes ": " ++ entry.name.path))

-- the end of the line of a file that was compiled
unfoldable pub passed : List ℕ
passed = codes " passed" ++ 10 ∷ []

-- the end of the line of a file that the compiler refused
unfoldable pub failed : List ℕ
failed = codes " failed" ++ 10 ∷ []

-- the end of the line of a file that depends on a refused one
unfoldable pub skipped : List ℕ
skipped = codes " skipped" ++ 10 ∷ []

-- what is put of a file
abbrev pub file_text : ℕ → Entry → FileStatus → List ℕ
file_text limit entry Fresh = []
file_text limit entry Compiled = compiling entry ++ passed
file_text limit entry (Refused code output) = compiling entry ++ (failed ++ shown limit output)
file_text limit entry Skipped = compiling entry ++ skipped
file_text limit entry Left = []

-- what is put of all files, in compile order
unfoldable pub files_text : ℕ → List Entry → List FileStatus → List ℕ
files_text limit [] statuses = []
files_text limit (entry ∷ entries) [] = []
files_text limit (entry ∷ entries) (status ∷ statuses) = file_text limit entry status ++ files_text limit entries statuses

-- the last line where a file was refused
unfoldable pub compile_failed : List ℕ
compile_failed = codes "Compile failed" ++ 10 ∷ []

-- the last line where files were compiled, and none was refused
unfoldable pub compile_passed : List ℕ
compile_passed = codes "Compile passed" ++ 10 ∷ []

-- the last line where no file was compiled or refused
unfoldable pub not_needed : List ℕ
not_needed = codes "Re-compile not needed" ++ 10 ∷ []

-- the last line: the result of the whole build
abbrev pub build_line : List FileStatus → List ℕ
build_line statuses = if list_any is_refused statuses then compile_failed else if list_any is_compiled statuses then compile_passed else not_needed

-- what is put of a build
abbrev pub build_text : ℕ → List Entry → List FileStatus → List ℕ
build_text limit graph statuses = files_text limit graph statuses ++ build_line statuses

-- what begins each line that says why nothing was done
unfoldable pub program : List ℕ
program = codes "vunit_run: "

-- before the number of a line of `vunit.csv` that can't be read
unfoldable pub bad_line : List ℕ
bad_line = codes "vunit.csv: bad line "

-- the folder has no project file
unfoldable pub no_project : List ℕ
no_project = codes "no vunit.toml and no vunit.csv"

-- the library and the path of a file, for a message
unfoldable pub file_words : FileName → List ℕ
file_words file = file.library ++ (codes ", " ++ file.path)

-- the project file can't be read as TOML
unfoldable pub not_toml : List ℕ
not_toml = codes "vunit.toml isn't TOML"

-- a key that `vunit.toml` has to have is missing
unfoldable pub no_key : List ℕ → List ℕ
no_key key = codes "vunit.toml: no key " ++ key

-- a key of `vunit.toml` has a value of another form than it has to have
unfoldable pub wrong_value : List ℕ → List ℕ
wrong_value key = codes "vunit.toml: wrong value of " ++ key

-- a library has the name `work`, which stands for the library of the file itself
unfoldable pub work_library : List ℕ
work_library = codes "a library may not be named work"

-- after the name of what the project has twice
unfoldable pub stands_twice : List ℕ
stands_twice = codes " stands twice"

-- two libraries of the project have this name
unfoldable pub library_twice : List ℕ → List ℕ
library_twice name = codes "library " ++ (name ++ stands_twice)

-- no file has a path that this pattern of the project matches
unfoldable pub nothing_matches : List ℕ → List ℕ
nothing_matches pattern = codes "nothing matches " ++ pattern

-- after a file that isn't in the project, though another one is said to depend on it
unfoldable pub not_in_project : List ℕ
not_in_project = codes " isn't in the project"

-- the message for a fault in a project file
abbrev pub fault_words : ProjectFault → List ℕ
fault_words fault.NotToml = not_toml
fault_words (fault.MissingKey key) = no_key key
fault_words (fault.WrongType key) = wrong_value key
fault_words fault.WorkLibrary = work_library
fault_words (fault.DuplicateLibrary name) = library_twice name
fault_words (fault.DuplicateFile name) = file_words name ++ stands_twice
fault_words (fault.NothingMatches pattern) = nothing_matches pattern
fault_words (fault.BadLine line) = bad_line ++ decimal line
fault_words (fault.UnknownDependency name) = file_words name ++ not_in_project

-- before the offset at which a string literal begins that doesn't end
unfoldable pub unclosed_string : List ℕ
unclosed_string = codes ": unclosed string at "

-- before the offset at which an extended identifier begins that doesn't end
unfoldable pub unclosed_extended : List ℕ
unclosed_extended = codes ": unclosed extended identifier at "

-- before the offset at which a delimited comment begins that doesn't end
unfoldable pub unclosed_comment : List ℕ
unclosed_comment = codes ": unclosed comment at "

-- the message for a lexical fault in a text, with its offset
abbrev pub lex_words : LexFault → List ℕ
lex_words (lex.UnclosedString at) = unclosed_string ++ decimal at
lex_words (lex.UnclosedExtended at) = unclosed_extended ++ decimal at
lex_words (lex.UnclosedComment at) = unclosed_comment ++ decimal at

-- after a file that the folder doesn't have
unfoldable pub is_absent : List ℕ
is_absent = codes " is absent"

-- before the offset of a token that begins neither a context item nor a design unit
unfoldable pub no_unit : List ℕ
no_unit = codes ": no design unit at "

-- before the offset at which a context item or design unit begins that has no end
unfoldable pub not_ended : List ℕ
not_ended = codes ": design unit not ended at "

-- the message for a fault in the design units of a text, with its offset
abbrev pub unit_words : UnitFault → List ℕ
unit_words (unit.NotUnit at) = no_unit ++ decimal at
unit_words (unit.NotEnded at) = not_ended ++ decimal at

-- two files, as those in which a unit is
unfoldable pub both_files : FileName → FileName → List ℕ
both_files first second = codes " stands in " ++ (file_words first ++ (codes " and " ++ file_words second))

-- a unit of a library
unfoldable pub unit_name : List ℕ → List ℕ → List ℕ
unit_name library unit = library ++ (codes "." ++ unit)

-- what a file refers to and a library doesn't have: a unit
unfoldable pub missing_unit : List ℕ → List ℕ → List ℕ
missing_unit library unit = codes ": no unit " ++ unit_name library unit

-- before the name of an architecture that an entity doesn't have
unfoldable pub no_architecture : List ℕ
no_architecture = codes ": no architecture "

-- what a file refers to and a library doesn't have: an architecture of an entity
unfoldable pub missing_architecture : List ℕ → List ℕ → List ℕ → List ℕ
missing_architecture library entity architecture = no_architecture ++ (architecture ++ (codes " of " ++ unit_name library entity))

-- the end of a line, and a file of a cycle on the next
unfoldable pub cycle_line : FileName → List ℕ
cycle_line file = 10 ∷ (codes "  " ++ file_words file)

-- before the files of a cycle
unfoldable pub cycle_word : List ℕ
cycle_word = codes "cycle"

-- a bench has more than one architecture
unfoldable pub two_architectures : List ℕ → List ℕ
two_architectures bench = codes "bench " ++ (bench ++ codes " has two architectures")

-- a bench has no architecture
unfoldable pub lacks_architecture : List ℕ → List ℕ
lacks_architecture bench = codes "bench " ++ (bench ++ codes " has no architecture")

-- a bench has a case without a name, or whose full name isn't UTF-8 or has a control character
unfoldable pub bad_test_name : List ℕ → List ℕ
bad_test_name bench = codes "bench " ++ (bench ++ codes " has a bad test name")

-- two cases have this full name
unfoldable pub test_twice : List ℕ → List ℕ
test_twice name = codes "test " ++ (name ++ stands_twice)

-- the message for a fault in the benches of a project
abbrev pub test_words : TestFault → List ℕ
test_words (test.TwoArchitectures bench) = two_architectures bench
test_words (test.NoArchitecture bench) = lacks_architecture bench
test_words (test.DuplicateTest name) = test_twice name
test_words (test.BadName bench) = bad_test_name bench

-- why the program refuses what it was asked, without its name before it; nothing where the compiler refused a file
abbrev pub refusal_words : Refusal → List ℕ
refusal_words refusal.NoProject = no_project
refusal_words (refusal.Project fault) = fault_words fault
refusal_words (refusal.AbsentFile file) = file_words file ++ is_absent
refusal_words (refusal.Lex file fault) = file_words file ++ lex_words fault
refusal_words (refusal.Units file fault) = file_words file ++ unit_words fault
refusal_words (refusal.DuplicateUnit unit first second) = unit ++ both_files first second
refusal_words (refusal.MissingUnit file library unit) = file_words file ++ missing_unit library unit
refusal_words (refusal.MissingArchitecture file library entity architecture) = file_words file ++ missing_architecture library entity architecture
refusal_words (refusal.Cycle files) = cycle_word ++ flat_map cycle_line files
refusal_words (refusal.Tests fault) = test_words fault
refusal_words (refusal.Compiler files) = []

-- what is put of a refusal that isn't the compiler's
abbrev pub refusal_text : Refusal → List ℕ
refusal_text reason = program ++ (refusal_words reason ++ 10 ∷ [])

-- before the quantity that is over its limit
unfoldable pub over_limit : List ℕ
over_limit = codes "over limit: "

-- the quantity that is over its limit
unfoldable pub limit_words : Limit → List ℕ
limit_words limit.Slots = codes "slots "
limit_words limit.Names = codes "names "
limit_words limit.Files = codes "files "
limit_words limit.TextBytes = codes "text bytes "
limit_words limit.TotalBytes = codes "total bytes "
limit_words limit.Tests = codes "tests "

-- what is put where a quantity is over this limit
unfoldable pub limit_text : Limit → ℕ → List ℕ
limit_text over number = program ++ (over_limit ++ (limit_words over ++ (decimal number ++ 10 ∷ [])))

-- what is put where the words aren't a command line of the program
unfoldable pub usage_text : List ℕ
usage_text = codes "usage: vunit_run [-lfkmvq] [--compile] [--fail-fast] [--clean] [--exit-0] [-x FILE] [-p N] [--export-json FILE] [--generate N] [PATTERN ...]" ++ 10 ∷ []

-- what a child puts whose input is over the limit
unfoldable pub bad_request : List ℕ
bad_request = codes "bad request" ++ 10 ∷ []

-- before each warning
unfoldable pub warning_word : List ℕ
warning_word = codes "warning: "

-- what a use of a whole library gives
unfoldable pub use_of_all : List ℕ → List ℕ
use_of_all library = codes ": use of " ++ (library ++ codes ".all gives no dependency")

-- what is put of a use of a whole library in a file
abbrev pub warning_line : FileName → List ℕ → List ℕ
warning_line file library = program ++ (warning_word ++ (file_words file ++ (use_of_all library ++ 10 ∷ [])))

-- what is put of a warning about a file of a project; nothing where the project has no such file
unfoldable pub warning_of : List ProjectFile → Warning → List ℕ
warning_of files warning = option_map_or (λ file. warning_line file.name warning.library) (slice_get files warning.file) []

-- what is put of all warnings, in order
abbrev pub warning_text : List ProjectFile → List Warning → List ℕ
warning_text files warnings = flat_map (warning_of files) warnings

-- a file that is listed, on a line of its own
abbrev pub listed_line : Entry → List ℕ
listed_line entry = file_words entry.name ++ 10 ∷ []

-- how many files are listed
unfoldable pub listed_count : ℕ → List ℕ
listed_count count = codes "Listed " ++ (decimal count ++ (codes " files" ++ 10 ∷ []))

-- what is put of the files of a graph, in compile order
abbrev pub files_list : List Entry → List ℕ
files_list graph = flat_map listed_line graph ++ listed_count (length graph)
