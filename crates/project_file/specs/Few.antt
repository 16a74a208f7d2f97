-- Project files with more files than a project may have: their files are dropped, but their faults are still reported.
use Rattle.std.specs.Prelude.{◌≡◌, ◌≢◌, AllPairs, ℕ, nat_le, Bool, false, if◌then◌else◌, List, [], ◌∷◌, ◌++◌, length, map, codes, Option, Some, None, Result, Ok, Err}
use Rattle.std.specs.List.{list_any}
use Rattle.toml.specs.Data.{Members, as_table}
use Rattle.base.specs.declared.file.FileName.{FileName}
use Rattle.base.specs.declared.project.Project.{Project}
use Rattle.base.specs.declared.project.ProjectFile.{ProjectFile}
use Rattle.base.specs.declared.project.ProjectFault.{ProjectFault}
use Rattle.base.specs.declared.project.ProjectFault.TheVariants.{NothingMatches}
use Rattle.base.specs.declared.limits.TheConstants.{FILE_LIMIT}
use Rattle.base.specs.Names.{is_same_name}
use Rattle.project_file.specs.Csv.{then_read}
use Rattle.project_file.specs.Paths.{matches_path}
use Rattle.project_file.specs.Toml.{array_of, is_among, library_in, required, optional, text_of, texts_of, words_of, named_file, index_of_file, pairs_of, files_of}
use Rattle.project_file.specs.Libraries.{alone, libraries_of}

-- a project, or nothing where it has more files than may be
abbrev pub few_of : Project → Option Project
few_of project = if nat_le (length project.files) FILE_LIMIT then Some project else None

-- A project or its fault, with nothing in place of a project of over 4,096 files.
abbrev pub few_said : Result Project ProjectFault → Result (Option Project) ProjectFault
few_said said = then_read said (λ project. Ok (few_of project))

-- files, or nothing where they are more than may be
abbrev pub few_files : List ProjectFile → Option (List ProjectFile)
few_files files = if nat_le (length files) FILE_LIMIT then Some files else None

-- the kept files followed by more files; nothing if there are over 4,096 of them, or if the earlier files were dropped
-- already
abbrev pub few_with : Option (List ProjectFile) → List ProjectFile → Option (List ProjectFile)
few_with None more = None
few_with (Some files) more = few_files (files ++ more)

-- whether there is a fault, and nothing else
abbrev pub faults_of : {T : Type 0} → Result T ProjectFault → Result (Unit {0}) ProjectFault
faults_of said = then_read said (λ read. Ok tt)

-- the first of patterns that matches no name
unfoldable pub all_match : List (List ℕ) → List (List ℕ) → Result (Unit {0}) ProjectFault
all_match names [] = Ok tt
all_match names (pattern ∷ patterns) = if list_any (matches_path pattern) names then all_match names patterns else Err (NothingMatches pattern)

-- the name of a table's library
abbrev pub library_name : Members → Result (List ℕ) ProjectFault
library_name table = required (text_of library_in) (codes "library.") (codes "name") table

-- the files of a table's library come after those of the tables before it, whatever tables follow
pub record AddsTable (names compiler : List (List ℕ)) (table : Members) (old_keys new_keys : List FileName) (old_files new_files : Option (List ProjectFile)) : Type 0 where
  pub keys : new_keys ≡ map alone (libraries_of new_keys)
  pub named : map (λ key. Ok key.library) new_keys ≡ map (λ key. Ok key.library) old_keys ++ library_name table ∷ []
  pub few : few_with new_files [] ≡ new_files
  pub files : (rest : List Members) → then_read (files_of names compiler (libraries_of old_keys) (table ∷ rest)) (λ more. Ok (few_with old_files more)) ≡ then_read (files_of names compiler (libraries_of new_keys) rest) (λ more. Ok (few_with new_files more))

-- the libraries of tables, in order
pub record AreLibraries (tables : List Members) (keys : List FileName) : Type 0 where
  pub plain : keys ≡ map alone (libraries_of keys)
  pub named : map (λ key. Ok key.library) keys ≡ map library_name tables

-- whether one of files has a name
abbrev pub among_files : List ProjectFile → FileName → Bool
among_files files name = list_any (λ file. is_same_name file.name name) files

-- whether one of the patterns of a table's library matches a path
abbrev pub is_wanted : List ℕ → Members → Result Bool ProjectFault
is_wanted path table = then_read (required (texts_of Some) (codes "library.") (codes "files") table) (λ patterns. Ok (list_any (λ pattern. matches_path pattern path) patterns))

-- whether a table's library has a path, which is one of names
abbrev pub has_path : List (List ℕ) → List ℕ → Members → Result Bool ProjectFault
has_path names path table = if is_among names path then is_wanted path table else Ok false

-- the files of tables, their libraries, and all names
pub record IsLookup (names compiler : List (List ℕ)) (tables : List Members) (keys paths : List FileName) (files : List ProjectFile) : Type 0 where
  pub said : files_of names compiler [] tables ≡ Ok files
  pub libraries : AreLibraries tables keys
  pub index : paths ≡ map alone names
  pub once : AllPairs (λ name other. name ≢ other) names

-- ## Faults of a project whose files are not kept

-- the fault of a library's table whose files are too many to keep, if it has one
abbrev pub checked_library : List (List ℕ) → Members → Result (Option (List ProjectFile)) ProjectFault
checked_library names table =
    then_read (required (texts_of Some) (codes "library.") (codes "files") table) (λ patterns.
    then_read (all_match names patterns) (λ matched.
    then_read (optional (words_of 0) [] (codes "library.") (codes "options") table) (λ options. Ok None)))

-- the fault of a dependency's table whose pair isn't kept, if it has one
abbrev pub checked_pair : List ProjectFile → Members → Result (Unit {0}) ProjectFault
checked_pair files table =
    then_read (named_file (codes "library") (codes "path") table) (λ user.
    then_read (named_file (codes "on_library") (codes "on_path") table) (λ used.
    then_read (faults_of (index_of_file files user)) (λ known.
    faults_of (index_of_file files used))))

-- the first fault of the tables of dependencies, whose pairs aren't kept
abbrev pub checked_links : List ProjectFile → Members → Result (Unit {0}) ProjectFault
checked_links files table = then_read (optional (array_of as_table) [] [] (codes "depends") table) (λ tables. faults_of (pairs_of files tables))
