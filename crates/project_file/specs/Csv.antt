-- A project file of lines, each a library, a comma and a path.
use Rattle.std.specs.Prelude.{ℕ, ◌+◌, nat_le, Bool, true, false, not, ◌&&◌, ◌||◌, ◌==◌, if◌then◌else◌, List, [], ◌∷◌, ◌++◌, length, map, reverse, count_by, codes, Option, Some, None, Result, Ok, Err}
use Rattle.std.specs.List.{list_any, list_all, slice_split, before_first, after_first}
use Rattle.std.specs.Option.{ok_or}
use Rattle.std.specs.Char.{is_ascii_alphabetic, is_ascii_digit, to_ascii_lowercase}
use Rattle.std.specs.Str.{is_utf8, bytes_eq}
use Rattle.std.specs.Str.Lines.{lines}
use Rattle.base.specs.declared.file.FileName.{FileName}
use Rattle.base.specs.declared.project.Project.{Project}
use Rattle.base.specs.declared.project.ProjectFile.{ProjectFile}
use Rattle.base.specs.declared.project.ProjectFault.{ProjectFault}
use Rattle.base.specs.declared.project.ProjectFault.TheVariants.{WorkLibrary, DuplicateFile, BadLine}
use Rattle.base.specs.declared.limits.TheConstants.{LIBRARY_LIMIT, PATH_LIMIT}
use Rattle.base.specs.Names.{has_name}

-- an ASCII letter, a digit or an underscore
abbrev pub is_library_byte : ℕ → Bool
is_library_byte byte = is_ascii_alphabetic byte || is_ascii_digit byte || byte == 95

-- an ASCII letter comes first
abbrev pub begins_with_letter : List ℕ → Bool
begins_with_letter [] = false
begins_with_letter (byte ∷ bytes) = is_ascii_alphabetic byte

-- a letter, followed by letters, digits and underscores, at most 64 bytes
abbrev pub is_library : List ℕ → Bool
is_library name = begins_with_letter name && list_all is_library_byte name && nat_le (length name) LIBRARY_LIMIT

-- no component of a path is empty, `.` or `..`
abbrev pub is_component : List ℕ → Bool
is_component part = not (bytes_eq part []) && not (bytes_eq part (46 ∷ [])) && not (bytes_eq part (46 ∷ 46 ∷ []))

-- no control byte: those below the space, and 127
abbrev pub is_path_byte : ℕ → Bool
is_path_byte byte = nat_le 32 byte && not (byte == 127)

-- 1 to 1,024 bytes without a control byte
abbrev pub has_path_bytes : List ℕ → Bool
has_path_bytes path = nat_le 1 (length path) && nat_le (length path) PATH_LIMIT && list_all is_path_byte path

-- no component between the slashes of a path is empty, `.` or `..`
abbrev pub has_components : List ℕ → Bool
has_components path = list_all is_component (slice_split (λ byte. byte == 47) path)

-- a path: UTF-8, of path bytes, with components
abbrev pub is_path : List ℕ → Bool
is_path path = has_path_bytes path && has_components path && is_utf8 path

-- a space or a tab
abbrev pub is_line_blank : ℕ → Bool
is_line_blank byte = byte == 32 || byte == 9

-- the bytes after the blanks at their beginning
abbrev pub without_blanks : List ℕ → List ℕ
without_blanks [] = []
without_blanks (byte ∷ bytes) = if is_line_blank byte then without_blanks bytes else byte ∷ bytes

-- the bytes without blanks at either end
abbrev pub trim : List ℕ → List ℕ
trim bytes = reverse (without_blanks (reverse (without_blanks bytes)))

-- a line has one comma and no double quote, a library before the comma and a path after it
abbrev pub names_file : List ℕ → List ℕ → List ℕ → Bool
names_file line library path = count_by (λ byte. byte == 44) line == 1 && not (list_any (λ byte. byte == 34) line) && is_library library && is_path path

-- the file that a line names: its library is before the comma, and its path after it
unfoldable pub csv_file_of : List ℕ → Option FileName
csv_file_of line =
    let library = trim (before_first (λ byte. byte == 44) line) in
    let path = trim (after_first (λ byte. byte == 44) line) in
    if names_file line library path then Some (record { library = map to_ascii_lowercase library; path = path }) else None

-- the fault of a name after others: its library is `work`, or it came before
unfoldable pub name_fault : List FileName → FileName → Option ProjectFault
name_fault before name = if bytes_eq name.library (codes "work") then Some WorkLibrary else if has_name before name then Some (DuplicateFile name) else None

-- what the first reading says, or its fault
abbrev pub then_read : {S T : Type 0} → Result S ProjectFault → (S → Result T ProjectFault) → Result T ProjectFault
then_read (Ok read) next = next read
then_read (Err fault) next = Err fault

-- a name without a fault
abbrev pub admitted : Option ProjectFault → FileName → Result FileName ProjectFault
admitted None name = Ok name
admitted (Some fault) name = Err fault

-- the file that a line of this number adds
unfoldable pub added_by : List FileName → ℕ → List ℕ → Result FileName ProjectFault
added_by before number line = then_read (ok_or (csv_file_of line) (BadLine number)) (λ name. admitted (name_fault before name) name)

-- the files of the lines that remain, after those before them; line numbers count from 1
unfoldable pub files_after : List FileName → ℕ → List (List ℕ) → Result (List FileName) ProjectFault
files_after before number [] = Ok before
files_after before number (line ∷ rest) =
    if bytes_eq line [] then files_after before (number + 1) rest
    else then_read (added_by before number line) (λ name. files_after (before ++ name ∷ []) (number + 1) rest)

-- the files that the bytes list, or its first fault
abbrev pub csv_files : List ℕ → Result (List FileName) ProjectFault
csv_files bytes = files_after [] 1 (lines bytes)

-- the command of a listed file: the program itself, as a child
abbrev pub listed_command : List (List ℕ)
listed_command = codes "@self" ∷ codes "child-analyse" ∷ []

-- the command that runs the program as its own simulator
abbrev pub listed_simulator : List (List ℕ)
listed_simulator = codes "@self" ∷ codes "child-bench" ∷ []

-- a listed file, which is compiled by the program itself
abbrev pub listed_file : FileName → ProjectFile
listed_file name = record { name = name; command = listed_command }

-- the project of listed files
abbrev pub listed_project : List FileName → Project
listed_project names = record { files = map listed_file names; simulator = listed_simulator; external = []; bodies = false; depends = []; listed = true }

-- The project that the bytes of a `vunit.csv` list, or its first fault. `lib,a.vhd` and `LIB,a.vhd` on two lines name
-- the same file twice, since libraries are in lower case.
abbrev pub csv_project : List ℕ → Result Project ProjectFault
csv_project bytes = then_read (csv_files bytes) (λ names. Ok (listed_project names))
