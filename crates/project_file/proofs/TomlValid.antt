-- The project of a TOML file is valid: its names are distinct, and its names and commands are within the limits.
use Rattle.std.proofs.Common.{◌≡◌, ◌≢◌, ℕ, zero, suc, ◌<◌, ◌≤◌, Bool, true, false, not, ◌&&◌, cond, List, [], ◌∷◌, ◌++◌, length, map, Option, Some, None, Result, Ok, Err, refl, sym, subst, ◌∙◌, arith, inl, inr}
use Rattle.std.specs.Prelude.{All, AllPairs, filter, codes, option_map, option_and_then, nat_le, IfOk, IfSome}
use Rattle.std.specs.List.{list_any}
use Rattle.std.specs.Option.{ok_or, option_map_or}
use Rattle.std.specs.Char.{to_ascii_lowercase}
use Rattle.std.specs.Str.{bytes_eq, is_utf8}
use Rattle.std.proofs.lemmas.Bool.{cases_Bool, and_parts, cond-true, cond-false, leb-true}
use Rattle.std.proofs.lemmas.List.{length-map, get_or-map, length-append}
use Rattle.std.proofs.lemmas.List.Elements.{All-append, All-cons, All-nil, All-filter}
use Rattle.std.proofs.lemmas.Option.{none-some, same_Some}
use Rattle.toml.specs.Data.{Data, Members, as_array, as_bool, as_str, as_table, get_member}
use Rattle.toml.specs.Parse.{parse_document}
use Rattle.base.specs.declared.memory.OrMemory.{OrMemory}
use Rattle.base.specs.declared.project.Project.{Project}
use Rattle.base.specs.declared.project.ProjectFile.{ProjectFile}
use Rattle.base.specs.declared.project.ProjectFault.{ProjectFault}
use Rattle.base.specs.declared.project.ProjectFault.TheVariants.{MissingKey, NotToml, NothingMatches, WrongType}
use Rattle.base.specs.declared.limits.TheConstants.{LIBRARY_LIMIT, LISTED_WORD_LIMIT, PATH_LIMIT, WORD_LIMIT}
use Rattle.base.specs.Names.{IsBetween, FitsCommand}
use Rattle.base.specs.Projects.{FitsSimulator, IsProject, IsProjectFile}
use Rattle.project_file.specs.Csv.{is_library, listed_command, listed_simulator}
use Rattle.project_file.specs.Paths.{matches_path}
use Rattle.project_file.specs.Pairs.{names_of}
use Rattle.project_file.specs.Steps.{ReadsStep}
use Rattle.project_file.specs.Toml.{all_read, array_of, few, file_in, files_of, files_project, is_among, library_after, library_files, library_in, linked_project, list_of, matching_names, new_library, optional, pairs_of, required, table_project, text_of, texts_of, toml_project, word_in, words_of}
use Rattle.project_file.specs.Few.{few_said}
use Rattle.project_file.proofs.CsvProject.{begins_not_empty}
use Rattle.project_file.proofs.FewLinks.{few_project_is}
use Rattle.project_file.proofs.TomlNames.{files_new, files_read, new_by, ok_same, then_ok}

-- ## Values

and_then_some : {A B : Type 0} (f : A → Option B) (o : Option A) (b : B) → option_and_then f o ≡ Some b → (a : A) × (o ≡ Some a) × (f a ≡ Some b)
and_then_some f None b h = absurd (none-some b h)
and_then_some f (Some a) b h = (a, refl, h)

cond_some : {A : Type 0} (t : Bool) (x y : A) → cond t (Some x) None ≡ Some y → (t ≡ true) × (x ≡ y)
cond_some true x y h = (refl, same_Some x y h)
cond_some false x y h = absurd (none-some y h)

-- what holds of each item that is read holds of all
all_hold : {S T : Type 0} (P : T → Type 0) (read : S → Option T) (xs : List S) (ys : List T) → ((x : S) (y : T) → read x ≡ Some y → P y) → all_read read xs ≡ Some ys → All P ys
all_hold P read [] ys each h = subst (All P) (same_Some [] ys h) (All-nil P)
all_hold {S} {T} P read (x ∷ xs) ys each h = go (λ zs b. all_hold P read xs zs each b) (read x) refl (all_read read xs) refl h
  where
    go : ((zs : List T) → all_read read xs ≡ Some zs → All P zs) → (first : Option T) → read x ≡ first → (rest : Option (List T)) → all_read read xs ≡ rest → option_and_then (λ one. option_map (λ others. one ∷ others) rest) first ≡ Some ys → All P ys
    go others None a rest b e = absurd (none-some ys e)
    go others (Some y) a None b e = absurd (none-some ys e)
    go others (Some y) a (Some zs) b e = subst (All P) (same_Some (y ∷ zs) ys e) (All-cons P y zs (each x y a) (others zs b))

-- what holds of each text of a form holds of a list of such texts
texts_hold : (P : List ℕ → Type 0) (form : List ℕ → Option (List ℕ)) (value : Data) (texts : List (List ℕ)) → ((text read : List ℕ) → form text ≡ Some read → P read) → texts_of form value ≡ Some texts → All P texts
texts_hold P form value texts each h =
    let items = and_then_some (λ items. all_read (text_of form) (list_of items)) (as_array value) texts h in
    all_hold P (text_of form) (list_of items.0) texts (λ x y e. let text = and_then_some form (as_str x) y e in each text.0 y text.2) items.2

word_fits : (text read : List ℕ) → word_in text ≡ Some read → IsBetween 1 WORD_LIMIT (length read)
word_fits text read h =
    let is = cond_some (nat_le 1 (length text) && nat_le (length text) WORD_LIMIT) text read h in
    let parts = and_parts _ _ is.0 in
    subst (λ t. IsBetween 1 WORD_LIMIT (length t)) is.1 (record { at_least = leb-true _ _ parts.0; at_most = leb-true _ _ parts.1 })

-- words of a command: at least `least` and at most 32, each of 1 to 1,024 bytes
pub record AreWordsOf (least : ℕ) (words : List (List ℕ)) : Type 0 where
  pub count : IsBetween least LISTED_WORD_LIMIT (length words)
  pub each : All (λ word. IsBetween 1 WORD_LIMIT (length word)) words

words_fit : (least : ℕ) (value : Data) (words : List (List ℕ)) → words_of least value ≡ Some words → AreWordsOf least words
words_fit least value words h =
    let texts = and_then_some (few least) (texts_of word_in value) words h in
    let is = cond_some (nat_le least (length texts.0) && nat_le (length texts.0) LISTED_WORD_LIMIT) texts.0 words texts.2 in
    let parts = and_parts _ _ is.0 in
    subst (AreWordsOf least) is.1 (record {
      count = record { at_least = leb-true _ _ parts.0; at_most = leb-true _ _ parts.1 };
      each = texts_hold (λ word. IsBetween 1 WORD_LIMIT (length word)) word_in value texts.0 word_fits texts.1;
    })

library_fits : (text read : List ℕ) → library_in text ≡ Some read → IsBetween 1 LIBRARY_LIMIT (length read)
library_fits text read h =
    let is = cond_some (is_library text) (map to_ascii_lowercase text) read h in
    let parts = and_parts _ _ is.0 in
    let begins = and_parts _ _ parts.0 in
    subst (λ t. IsBetween 1 LIBRARY_LIMIT (length t)) is.1
    (record { at_least = rw length-map (begins_not_empty text begins.0); at_most = rw length-map (leb-true _ _ parts.1) })

-- ## Keys

module _ {T : Type 0} (P : T → Type 0) (read : Data → Option T) (file_index key : List ℕ) (table : Members) (value : T) (each : (item : Data) (x : T) → read item ≡ Some x → P x) where
  got : (fault : ProjectFault) (item : Data) (r : Option T) → read item ≡ r → ok_or r fault ≡ Ok value → P value
  got fault item None e h = absurd cc
  got fault item (Some x) e h = subst P (ok_same x value h) (each item x e)

  optional_holds : (default : T) → P default → optional read default file_index key table ≡ Ok value → P value
  optional_holds default holds h = go (get_member key table) h
    where
      go : (o : Option Data) → option_map_or (λ item. ok_or (read item) (WrongType (file_index ++ key))) o (Ok default) ≡ Ok value → P value
      go None e = subst P (ok_same default value e) holds
      go (Some item) e = got (WrongType (file_index ++ key)) item (read item) refl e

  required_holds : required read file_index key table ≡ Ok value → P value
  required_holds h = go (get_member key table) h
    where
      go : (o : Option Data) → option_map_or (λ item. ok_or (read item) (WrongType (file_index ++ key))) o (Err (MissingKey (file_index ++ key))) ≡ Ok value → P value
      go None e = absurd cc
      go (Some item) e = got (WrongType (file_index ++ key)) item (read item) refl e

-- ## Files

matching_fit : (P : List ℕ → Type 0) (names found patterns paths : List (List ℕ)) → All P names → All P found → matching_names names found patterns ≡ Ok paths → All P paths
unfolding matching_names
matching_fit P names found [] paths fit so_far h = subst (All P) (ok_same found paths h) so_far
matching_fit P names found (pattern ∷ patterns) paths fit so_far h =
    let new : List ℕ → Bool = λ name. matches_path pattern name && not (is_among found name) in
    let others : Result (List (List ℕ)) ProjectFault = matching_names names (found ++ filter new names) patterns in
    elim (cases_Bool (list_any (matches_path pattern) names)) [
      | inl t ↦ matching_fit P names (found ++ filter new names) patterns paths fit (All-append P found (filter new names) so_far (All-filter new P names fit)) (sym (cond-true (list_any (matches_path pattern) names) others (Err (NothingMatches pattern)) t) ∙ h)
      | inr f ↦ let no : ◌≡◌ {A = Result (List (List ℕ)) ProjectFault} (Err (NothingMatches pattern)) (Ok paths) = sym (cond-false (list_any (matches_path pattern) names) others (Err (NothingMatches pattern)) f) ∙ h in absurd cc
    ]

short_words : (words : List (List ℕ)) → All (λ word. IsBetween 1 WORD_LIMIT (length word)) words → All (λ word. length word ≤ WORD_LIMIT) words
short_words words each k d low = (each k d low).at_most

command_fits : (compiler options : List (List ℕ)) → AreWordsOf 1 compiler → AreWordsOf 0 options → FitsCommand (compiler ++ options)
command_fits compiler options first second = record {
  count = record {
    at_least = let most = length-append compiler options in omega (arith, most, first.count.at_least);
    at_most = let most = length-append compiler options in omega (arith, most, first.count.at_most, second.count.at_most);
  };
  words = All-append (λ word. length word ≤ WORD_LIMIT) compiler options (short_words compiler first.each) (short_words options second.each);
}

library_files_fit : (library : List ℕ) (command paths : List (List ℕ)) → IsBetween 1 LIBRARY_LIMIT (length library) → FitsCommand command → All (λ path. IsBetween 1 PATH_LIMIT (length path)) paths → All IsProjectFile (map (file_in library command) paths)
library_files_fit library command [] fits words are k d low = absurd (omega (arith, low))
library_files_fit library command (path ∷ paths) fits words are zero d low = record { name = record { library = fits; path = are 0 path (omega arith) }; command = words }
library_files_fit library command (path ∷ paths) fits words are (suc k) d low = library_files_fit library command paths fits words (λ j e late. are (suc j) e (omega (arith, late))) k d (omega (arith, low))

module _ (names compiler : List (List ℕ)) (paths_fit : All (λ name. IsBetween 1 PATH_LIMIT (length name)) names) (words : AreWordsOf 1 compiler) where
  one_library : (library : List ℕ) (table : Members) (files : List ProjectFile) → IsBetween 1 LIBRARY_LIMIT (length library) → library_files names compiler library table ≡ Ok files → All IsProjectFile files
  one_library library table files fits h =
      let read = files_read names compiler library table files h in
      let are : AreWordsOf 0 read.options = optional_holds (AreWordsOf 0) (words_of 0) (codes "library.") (codes "options") table read.options (words_fit 0) [] (record { count = record { at_least = omega arith; at_most = omega arith }; each = All-nil (λ word. IsBetween 1 WORD_LIMIT (length word)) }) read.told in
      subst (All IsProjectFile) read.are
      (library_files_fit library (compiler ++ read.options) read.paths fits (command_fits compiler read.options words are)
      (matching_fit (λ path. IsBetween 1 PATH_LIMIT (length path)) names [] read.patterns read.paths paths_fit (All-nil (λ path. IsBetween 1 PATH_LIMIT (length path))) read.matched))

  library_named : (before : List (List ℕ)) (table : Members) (library : List ℕ) → library_after before table ≡ Ok library → IsBetween 1 LIBRARY_LIMIT (length library)
  unfolding library_after new_library
  library_named before table library h =
      let read = then_ok (required (text_of library_in) (codes "library.") (codes "name") table) (new_library before) library h in
      let fits : IsBetween 1 LIBRARY_LIMIT (length read.0) = required_holds (λ name. IsBetween 1 LIBRARY_LIMIT (length name)) (text_of library_in) (codes "library.") (codes "name") table read.0 (λ item name e. let text = and_then_some library_in (as_str item) name e in library_fits text.0 name text.2) read.1 in
      subst (λ name. IsBetween 1 LIBRARY_LIMIT (length name)) (new_by (bytes_eq read.0 (codes "work")) (is_among before read.0) read.0 library read.2).0 fits

  files_fit : (before : List (List ℕ)) (tables : List Members) (files : List ProjectFile) → files_of names compiler before tables ≡ Ok files → All IsProjectFile files
  unfolding files_of
  files_fit before [] files h = subst (All IsProjectFile) (ok_same [] files h) (All-nil IsProjectFile)
  files_fit before (table ∷ tables) files h =
      let library = then_ok (library_after before table) _ files h in
      let first = then_ok (library_files names compiler library.0 table) _ files library.2 in
      let others = then_ok (files_of names compiler (before ++ library.0 ∷ []) tables) _ files first.2 in
      subst (All IsProjectFile) (ok_same (first.0 ++ others.0) files others.2)
      (All-append IsProjectFile first.0 others.0 (one_library library.0 table first.0 (library_named before table library.0 library.1) first.1) (files_fit (before ++ library.0 ∷ []) tables others.0 others.1))

-- ## The project

simulator_fits : (words : List (List ℕ)) → AreWordsOf 1 words → FitsSimulator words
simulator_fits words are = record { count = record { at_least = are.count.at_least; at_most = omega (arith, are.count.at_most) }; each = are.each }

two_words : (first second : List ℕ) → IsBetween 1 WORD_LIMIT (length first) → IsBetween 1 WORD_LIMIT (length second) → AreWordsOf 1 (first ∷ second ∷ [])
two_words first second one two = record {
  count = record { at_least = omega arith; at_most = omega arith };
  each = All-cons (λ word. IsBetween 1 WORD_LIMIT (length word)) first (second ∷ []) one (All-cons (λ word. IsBetween 1 WORD_LIMIT (length word)) second [] two (All-nil (λ word. IsBetween 1 WORD_LIMIT (length word))));
}

linked_valid : (files : List ProjectFile) (simulator external : List (List ℕ)) (bodies : Bool) (table : Members) (project : Project) → AllPairs (λ a b. a ≢ b) (names_of files) → All IsProjectFile files → FitsSimulator simulator
    → linked_project files simulator external bodies table ≡ Ok project → IsProject project
unfolding linked_project
linked_valid files simulator external bodies table project once each runs h =
    let tables = then_ok (optional (array_of as_table) [] [] (codes "depends") table) _ project h in
    let depends = then_ok (pairs_of files tables.0) _ project tables.2 in
    subst IsProject (ok_same (record { files = files; simulator = simulator; external = external; bodies = bodies; depends = depends.0; listed = false }) project depends.2)
    (record {
      distinct = λ i j d a b same.
          let high : j < length (names_of files) = rw length-map b in
          let low : i < length files = omega arith in
          once i j d.name a high (get_or-map (λ (f : ProjectFile). f.name) files i d d.name low ∙ same ∙ sym (get_or-map (λ (f : ProjectFile). f.name) files j d d.name b));
      each = each;
      simulator = runs;
    })

module _ (names : List (List ℕ)) (names_once : AllPairs (λ a b. a ≢ b) names) (names_fit : All (λ name. IsBetween 1 PATH_LIMIT (length name)) names) where
  files_valid : (compiler simulator external : List (List ℕ)) (bodies : Bool) (table : Members) (project : Project) → AreWordsOf 1 compiler → AreWordsOf 1 simulator → files_project names compiler simulator external bodies table ≡ Ok project → IsProject project
  unfolding files_project
  files_valid compiler simulator external bodies table project words runs h =
      let libraries = then_ok (required (array_of as_table) [] (codes "library") table) _ project h in
      let files = then_ok (files_of names compiler [] libraries.0) _ project libraries.2 in
      linked_valid files.0 simulator external bodies table project (files_new names compiler [] libraries.0 files.0 names_once files.1).once
      (files_fit names compiler names_fit words [] libraries.0 files.0 files.1) (simulator_fits simulator runs) files.2

  table_valid : (table : Members) (project : Project) → table_project names table ≡ Ok project → IsProject project
  unfolding table_project
  table_valid table project h =
      let compiler = then_ok (optional (words_of 1) listed_command [] (codes "compiler") table) _ project h in
      let simulator = then_ok (optional (words_of 1) listed_simulator [] (codes "simulator") table) _ project compiler.2 in
      let external = then_ok (optional (texts_of library_in) [] [] (codes "external") table) _ project simulator.2 in
      let bodies = then_ok (optional as_bool false [] (codes "users_depend_on_bodies") table) _ project external.2 in
      let word : (t : List ℕ) → 1 ≤ length t → length t ≤ WORD_LIMIT → IsBetween 1 WORD_LIMIT (length t) = λ t one most. record { at_least = one; at_most = most } in
      let two : (second : List ℕ) → 1 ≤ length second → length second ≤ WORD_LIMIT → AreWordsOf 1 (codes "@self" ∷ second ∷ []) = λ second one most. two_words (codes "@self") second (word (codes "@self") (omega arith) (omega arith)) (word second one most) in
      files_valid compiler.0 simulator.0 external.0 bodies.0 table project
      (optional_holds (AreWordsOf 1) (words_of 1) [] (codes "compiler") table compiler.0 (words_fit 1) listed_command (two (codes "child-analyse") (omega arith) (omega arith)) compiler.1)
      (optional_holds (AreWordsOf 1) (words_of 1) [] (codes "simulator") table simulator.0 (words_fit 1) listed_simulator (two (codes "child-bench") (omega arith) (omega arith)) simulator.1)
      bodies.2

  toml_valid : (bytes : List ℕ) (project : Project) → toml_project bytes names ≡ Ok project → IsProject project
  unfolding toml_project
  toml_valid bytes project h = go (is_utf8 bytes) (parse_document bytes) h
    where
      go : (b : Bool) (parsed : Option Members) → cond b (option_map_or (table_project names) parsed (Err NotToml)) (Err NotToml) ≡ Ok project → IsProject project
      go false parsed e = absurd cc
      go true None e = absurd cc
      go true (Some table) e = table_valid table project e

  -- what is read is a project
  pub read_valid : (bytes : List ℕ) (result : Result (Option Project) (OrMemory ProjectFault)) → ReadsStep (few_said (toml_project bytes names)) result → IfOk result (λ read. IfSome read IsProject)
  read_valid bytes (Ok (Some project)) h = toml_valid bytes project (few_project_is (toml_project bytes names) project h)
  read_valid bytes (Ok None) h = tt
  read_valid bytes (Err fault) h = tt
