-- A project file in TOML: a table of keys, and tables of libraries and of dependencies in it.
use Rattle.std.specs.Prelude.{ℕ, nat_le, Bool, false, not, ◌&&◌, if◌then◌else◌, List, [], ◌∷◌, ◌++◌, length, map, filter, position, codes, Option, Some, None, option_map, option_and_then, Result, Ok, Err}
use Rattle.std.specs.List.{list_any}
use Rattle.std.specs.Option.{ok_or, option_map_or}
use Rattle.std.specs.Char.{to_ascii_lowercase}
use Rattle.std.specs.Str.{is_utf8, bytes_eq}
use Rattle.toml.specs.Data.{Data, Items, no_items, item, Members, get_member, as_str, as_bool, as_array, as_table}
use Rattle.toml.specs.Parse.{parse_document}
use Rattle.base.specs.declared.file.FileName.{FileName}
use Rattle.base.specs.declared.project.Pair.{Pair}
use Rattle.base.specs.declared.project.Project.{Project}
use Rattle.base.specs.declared.project.ProjectFile.{ProjectFile}
use Rattle.base.specs.declared.project.ProjectFault.{ProjectFault}
use Rattle.base.specs.declared.project.ProjectFault.TheVariants.{NotToml, MissingKey, WrongType, WorkLibrary, DuplicateLibrary, NothingMatches, UnknownDependency}
use Rattle.base.specs.declared.limits.TheConstants.{WORD_LIMIT, LISTED_WORD_LIMIT}
use Rattle.base.specs.Names.{is_same_name}
use Rattle.project_file.specs.Csv.{is_library, is_path, listed_command, listed_simulator, then_read}
use Rattle.project_file.specs.Paths.{matches_path}

-- ## Values

-- the values of an array, in order
abbrev pub list_of : Items → List Data
list_of no_items = []
list_of (item value more) = value ∷ list_of more

-- what is read of each, where something is read of each
abbrev pub all_read : {S T : Type 0} → (S → Option T) → List S → Option (List T)
all_read read [] = Some []
all_read read (x ∷ xs) = option_and_then (λ first. option_map (λ others. first ∷ others) (all_read read xs)) (read x)

-- a word of a command: 1 to 1,024 bytes
abbrev pub word_in : List ℕ → Option (List ℕ)
word_in text = if nat_le 1 (length text) && nat_le (length text) WORD_LIMIT then Some text else None

-- a name of a library, in lower case
abbrev pub library_in : List ℕ → Option (List ℕ)
library_in text = if is_library text then Some (map to_ascii_lowercase text) else None

-- a text that is a path
abbrev pub path_in : List ℕ → Option (List ℕ)
path_in text = if is_path text then Some text else None

-- a text of such a form
abbrev pub text_of : (List ℕ → Option (List ℕ)) → Data → Option (List ℕ)
text_of form value = option_and_then form (as_str value)

-- a list, of each of whose items something is read
abbrev pub array_of : {T : Type 0} → (Data → Option T) → Data → Option (List T)
array_of read value = option_and_then (λ items. all_read read (list_of items)) (as_array value)

-- a list of texts of such a form
abbrev pub texts_of : (List ℕ → Option (List ℕ)) → Data → Option (List (List ℕ))
texts_of form value = array_of (text_of form) value

-- words, if there are at least `least` and at most 32 of them
abbrev pub few : ℕ → List (List ℕ) → Option (List (List ℕ))
few least words = if nat_le least (length words) && nat_le (length words) LISTED_WORD_LIMIT then Some words else None

-- an array of texts that are words of a command, at least `least` and at most 32 of them
abbrev pub words_of : ℕ → Data → Option (List (List ℕ))
words_of least value = option_and_then (few least) (texts_of word_in value)

-- ## Keys

-- The value of a key of a table, read by `read`. If `read` rejects the value, its type is a fault, which names the key after
-- `file_index`. If the key is missing, the result is `missing`.
abbrev pub value_or : {T : Type 0} → Result T ProjectFault → (Data → Option T) → List ℕ → List ℕ → Members → Result T ProjectFault
value_or missing read file_index key table = option_map_or (λ value. ok_or (read value) (WrongType (file_index ++ key))) (get_member key table) missing

-- the value of a key, read by `read`; a key that is missing is a fault, which names it after `file_index`
abbrev pub required : {T : Type 0} → (Data → Option T) → List ℕ → List ℕ → Members → Result T ProjectFault
required read file_index key table = value_or (Err (MissingKey (file_index ++ key))) read file_index key table

-- the value of a key, read by `read`; a default where the key is missing
abbrev pub optional : {T : Type 0} → (Data → Option T) → T → List ℕ → List ℕ → Members → Result T ProjectFault
optional read default file_index key table = value_or (Ok default) read file_index key table

-- ## Libraries

-- whether a text is in a list
abbrev pub is_among : List (List ℕ) → List ℕ → Bool
is_among texts text = list_any (bytes_eq text) texts

-- a library isn't `work`, and didn't come before
unfoldable pub new_library : List (List ℕ) → List ℕ → Result (List ℕ) ProjectFault
new_library before library = if bytes_eq library (codes "work") then Err WorkLibrary else if is_among before library then Err (DuplicateLibrary library) else Ok library

-- the name of a library after those before it
unfoldable pub library_after : List (List ℕ) → Members → Result (List ℕ) ProjectFault
library_after before table = then_read (required (text_of library_in) (codes "library.") (codes "name") table) (new_library before)

-- pattern by pattern, the names that it matches and that aren't there yet
unfoldable pub matching_names : List (List ℕ) → List (List ℕ) → List (List ℕ) → Result (List (List ℕ)) ProjectFault
matching_names names found [] = Ok found
matching_names names found (pattern ∷ patterns) =
    if list_any (matches_path pattern) names then matching_names names (found ++ filter (λ name. matches_path pattern name && not (is_among found name)) names) patterns
    else Err (NothingMatches pattern)

-- the file of a path in a library, with its compiler's command
abbrev pub file_in : List ℕ → List (List ℕ) → List ℕ → ProjectFile
file_in library command path = record { name = record { library = library; path = path }; command = command }

-- the files of a library: its command is the compiler's words, and then its options
unfoldable pub library_files : List (List ℕ) → List (List ℕ) → List ℕ → Members → Result (List ProjectFile) ProjectFault
library_files names compiler library table =
    then_read (required (texts_of Some) (codes "library.") (codes "files") table) (λ patterns.
    then_read (matching_names names [] patterns) (λ paths.
    then_read (optional (words_of 0) [] (codes "library.") (codes "options") table) (λ options.
    Ok (map (file_in library (compiler ++ options)) paths))))

-- the files of libraries, after libraries of these names
unfoldable pub files_of : List (List ℕ) → List (List ℕ) → List (List ℕ) → List Members → Result (List ProjectFile) ProjectFault
files_of names compiler before [] = Ok []
files_of names compiler before (table ∷ tables) =
    then_read (library_after before table) (λ library.
    then_read (library_files names compiler library table) (λ files.
    then_read (files_of names compiler (before ++ library ∷ []) tables) (λ others. Ok (files ++ others))))

-- ## Dependencies

-- the index of a file in the project
unfoldable pub index_of_file : List ProjectFile → FileName → Result ℕ ProjectFault
index_of_file files name = ok_or (position (λ file. is_same_name file.name name) files) (UnknownDependency name)

-- the file that two keys of a dependency name
abbrev pub named_file : List ℕ → List ℕ → Members → Result FileName ProjectFault
named_file library path table =
    then_read (required (text_of library_in) (codes "depends.") library table) (λ library.
    then_read (required (text_of path_in) (codes "depends.") path table) (λ path.
    Ok (record { library = library; path = path })))

-- a dependency: its four keys, and then its files
unfoldable pub pair_of : List ProjectFile → Members → Result Pair ProjectFault
pair_of files table =
    then_read (named_file (codes "library") (codes "path") table) (λ user.
    then_read (named_file (codes "on_library") (codes "on_path") table) (λ used.
    then_read (index_of_file files user) (λ user.
    then_read (index_of_file files used) (λ used. Ok (record { user = user; used = used })))))

-- the pairs of files that tables of dependencies name, or the first fault
unfoldable pub pairs_of : List ProjectFile → List Members → Result (List Pair) ProjectFault
pairs_of files [] = Ok []
pairs_of files (table ∷ tables) = then_read (pair_of files table) (λ pair. then_read (pairs_of files tables) (λ pairs. Ok (pair ∷ pairs)))

-- ## The project

-- the project of these files and settings, with the dependencies of a table
unfoldable pub linked_project : List ProjectFile → List (List ℕ) → List (List ℕ) → Bool → Members → Result Project ProjectFault
linked_project files simulator external bodies table =
    then_read (optional (array_of as_table) [] [] (codes "depends") table) (λ tables.
    then_read (pairs_of files tables) (λ depends.
    Ok (record { files = files; simulator = simulator; external = external; bodies = bodies; depends = depends; listed = false })))

-- the project of these settings, with the libraries and the dependencies of a table
unfoldable pub files_project : List (List ℕ) → List (List ℕ) → List (List ℕ) → List (List ℕ) → Bool → Members → Result Project ProjectFault
files_project names compiler simulator external bodies table =
    then_read (required (array_of as_table) [] (codes "library") table) (λ libraries.
    then_read (files_of names compiler [] libraries) (λ files. linked_project files simulator external bodies table))

-- the project of a table, over the names of all files: its settings first
unfoldable pub table_project : List (List ℕ) → Members → Result Project ProjectFault
table_project names table =
    then_read (optional (words_of 1) listed_command [] (codes "compiler") table) (λ compiler.
    then_read (optional (words_of 1) listed_simulator [] (codes "simulator") table) (λ simulator.
    then_read (optional (texts_of library_in) [] [] (codes "external") table) (λ external.
    then_read (optional as_bool false [] (codes "users_depend_on_bodies") table) (λ bodies. files_project names compiler simulator external bodies table))))

-- the project of the bytes, over the names of all files, or its first fault
unfoldable pub toml_project : List ℕ → List (List ℕ) → Result Project ProjectFault
toml_project bytes names = if is_utf8 bytes then option_map_or (table_project names) (parse_document bytes) (Err NotToml) else Err NotToml
