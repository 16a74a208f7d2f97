-- The names of the files of libraries are distinct.
use Rattle.std.proofs.Common.{◌≡◌, ◌≢◌, ℕ, zero, suc, Bool, true, false, not, ◌&&◌, cond, List, [], ◌∷◌, ◌++◌, get_or, map, Some, Ok, Err, Result, refl, sym, ap, subst, ◌∙◌, arith, inl, inr}
use Rattle.std.specs.Prelude.{All, AllPairs, filter, codes}
use Rattle.std.specs.List.{list_any}
use Rattle.std.specs.Str.{bytes_eq}
use Rattle.std.proofs.lemmas.Bool.{cases_Bool, both_ways, and_parts, not-true, or_parts, cond-true, cond-false}
use Rattle.std.proofs.lemmas.List.{map-append}
use Rattle.std.proofs.lemmas.List.Kept.{AllPairs-cons, AllPairs-filter}
use Rattle.std.proofs.lemmas.List.Elements.{All-append, filter_passes}
use Rattle.std.proofs.lemmas.List.Folds.{list_any_at, list_any-append}
use Rattle.std.proofs.lemmas.Slice.Eq.{bytes_eq-Decides}
use Rattle.toml.specs.Data.{Members}
use Rattle.base.specs.declared.file.FileName.{FileName}
use Rattle.base.specs.declared.project.ProjectFile.{ProjectFile}
use Rattle.base.specs.declared.project.ProjectFault.{ProjectFault}
use Rattle.base.specs.declared.project.ProjectFault.TheVariants.{WorkLibrary, DuplicateLibrary, NothingMatches}
use Rattle.project_file.specs.Csv.{then_read}
use Rattle.project_file.specs.Paths.{matches_path}
use Rattle.project_file.specs.Toml.{is_among, new_library, library_after, matching_names, file_in, library_files, files_of, required, optional, texts_of, text_of, library_in, words_of}
use Rattle.project_file.specs.Pairs.{names_of}
use Rattle.project_file.specs.Few.{library_name}

-- what a step read, where all was read
pub then_ok : {S T : Type 0} (said : Result S ProjectFault) (next : S → Result T ProjectFault) (y : T) → then_read said next ≡ Ok y → (x : S) × (said ≡ Ok x) × (next x ≡ Ok y)
then_ok (Ok x) next y h = (x, refl, h)
then_ok (Err fault) next y h = let no : ◌≡◌ {A = Result _ ProjectFault} (Err fault) (Ok y) = h in absurd cc

pub ok_same : {X : Type 0} (x y : X) → ◌≡◌ {A = Result X ProjectFault} (Ok x) (Ok y) → x ≡ y
ok_same x y e = cc

-- two lists of which no item of one is one of the other
pub pairs_append : {X : Type 0} (R : X → X → Type 0) (xs ys : List X) → AllPairs R xs → AllPairs R ys → All (λ x. All (R x) ys) xs → AllPairs R (xs ++ ys)
pairs_append R [] ys first second cross = second
pairs_append R (x ∷ xs) ys first second cross =
    AllPairs-cons R x (xs ++ ys) (All-append (R x) xs ys (λ k d low. first 0 (suc k) d (omega arith) (omega (arith, low))) (cross 0 x (omega arith)))
    (pairs_append R xs ys (λ i j d lt low. first (suc i) (suc j) d (omega (arith, lt)) (omega (arith, low))) second (λ k d low. cross (suc k) d (omega (arith, low))))

-- names that patterns match, each once
matching_once : (names found patterns paths : List (List ℕ)) → AllPairs (λ a b. a ≢ b) names → AllPairs (λ a b. a ≢ b) found → matching_names names found patterns ≡ Ok paths → AllPairs (λ a b. a ≢ b) paths
unfolding matching_names
matching_once names found [] paths once so_far h = subst (AllPairs (λ a b. a ≢ b)) (ok_same found paths h) so_far
matching_once names found (pattern ∷ patterns) paths once so_far h =
    let new : List ℕ → Bool = λ name. matches_path pattern name && not (is_among found name) in
    let others : Result (List (List ℕ)) ProjectFault = matching_names names (found ++ filter new names) patterns in
    let more : AllPairs (λ a b. a ≢ b) (found ++ filter new names) =
    pairs_append (λ a b. a ≢ b) found (filter new names) so_far (AllPairs-filter (λ a b. a ≢ b) new names once) (λ k d low j e late same.
    let passes : new (get_or (filter new names) j e) ≡ true = filter_passes new names j e late in
    let absent : is_among found (get_or (filter new names) j e) ≡ false = not-true _ (and_parts _ _ passes).1 in
    both_ways (is_among found (get_or (filter new names) j e)) absent (list_any_at (bytes_eq (get_or (filter new names) j e)) found k d low ((bytes_eq-Decides _ _).1 (sym same)))) in
    elim (cases_Bool (list_any (matches_path pattern) names)) [
      | inl t ↦ matching_once names (found ++ filter new names) patterns paths once more (sym (cond-true (list_any (matches_path pattern) names) others (Err (NothingMatches pattern)) t) ∙ h)
      | inr f ↦ let no : ◌≡◌ {A = Result (List (List ℕ)) ProjectFault} (Err (NothingMatches pattern)) (Ok paths) = sym (cond-false (list_any (matches_path pattern) names) others (Err (NothingMatches pattern)) f) ∙ h in absurd cc
    ]

-- the names of files of one library
in_library : (library : List ℕ) (command paths : List (List ℕ)) → All (λ name. name.library ≡ library) (names_of (map (file_in library command) paths))
in_library library command [] k d low = absurd (omega (arith, low))
in_library library command (path ∷ paths) zero d low = refl
in_library library command (path ∷ paths) (suc k) d low = in_library library command paths k d (omega (arith, low))

other_paths : (library : List ℕ) (command : List (List ℕ)) (path : List ℕ) (paths : List (List ℕ)) → All (λ other. path ≢ other) paths → All (λ name. (record { library = library; path = path }) ≢ name) (names_of (map (file_in library command) paths))
other_paths library command path [] h k d low same = omega (arith, low)
other_paths library command path (other ∷ paths) h zero d low same = h 0 other (omega arith) (ap (λ (name : FileName). name.path) same)
other_paths library command path (other ∷ paths) h (suc k) d low same = other_paths library command path paths (λ j e late. h (suc j) e (omega (arith, late))) k d (omega (arith, low)) same

names_once : (library : List ℕ) (command paths : List (List ℕ)) → AllPairs (λ a b. a ≢ b) paths → AllPairs (λ a b. a ≢ b) (names_of (map (file_in library command) paths))
names_once library command [] once = λ i j d lt low. absurd (omega (arith, low))
names_once library command (path ∷ paths) once =
    AllPairs-cons (λ a b. a ≢ b) (record { library = library; path = path }) (names_of (map (file_in library command) paths)) (other_paths library command path paths (λ k d low. once 0 (suc k) d (omega arith) (omega (arith, low))))
    (names_once library command paths (λ i j d lt low. once (suc i) (suc j) d (omega (arith, lt)) (omega (arith, low))))

pub new_by : (work came : Bool) (library named : List ℕ) → ◌≡◌ {A = Result (List ℕ) ProjectFault} (cond work (Err WorkLibrary) (cond came (Err (DuplicateLibrary library)) (Ok library))) (Ok named) → (library ≡ named) × (came ≡ false)
new_by true came library named h = absurd cc
new_by false true library named h = absurd cc
new_by false false library named h = (ok_same library named h, refl)

-- a library isn't one of those before it
pub named_new : (before : List (List ℕ)) (table : Members) (library : List ℕ) → library_after before table ≡ Ok library → is_among before library ≡ false
unfolding library_after new_library
named_new before table library h =
    let read = then_ok (required (text_of library_in) (codes "library.") (codes "name") table) (new_library before) library h in
    let is = new_by (bytes_eq read.0 (codes "work")) (is_among before read.0) read.0 library read.2 in
    subst (λ l. is_among before l ≡ false) is.0 is.1

-- a library is named as its table says
pub named_is : (before : List (List ℕ)) (table : Members) (library : List ℕ) → library_after before table ≡ Ok library → library_name table ≡ Ok library
unfolding library_after new_library
named_is before table library h =
    let read = then_ok (required (text_of library_in) (codes "library.") (codes "name") table) (new_library before) library h in
    let is = new_by (bytes_eq read.0 (codes "work")) (is_among before read.0) read.0 library read.2 in
    read.1 ∙ ap Ok is.0

-- what was read of a library whose files are known
pub record AreRead (names compiler : List (List ℕ)) (library : List ℕ) (table : Members) (files : List ProjectFile) : Type 0 where
  pub patterns : List (List ℕ)
  pub paths : List (List ℕ)
  pub options : List (List ℕ)
  pub listed : required (texts_of Some) (codes "library.") (codes "files") table ≡ Ok patterns
  pub matched : matching_names names [] patterns ≡ Ok paths
  pub told : optional (words_of 0) [] (codes "library.") (codes "options") table ≡ Ok options
  pub are : map (file_in library (compiler ++ options)) paths ≡ files

pub files_read : (names compiler : List (List ℕ)) (library : List ℕ) (table : Members) (files : List ProjectFile) → library_files names compiler library table ≡ Ok files → AreRead names compiler library table files
unfolding library_files
files_read names compiler library table files h =
    let read_options : Result (List (List ℕ)) ProjectFault = optional (words_of 0) [] (codes "library.") (codes "options") table in
    let third : List (List ℕ) → List (List ℕ) → Result (List ProjectFile) ProjectFault = λ paths options. Ok (map (file_in library (compiler ++ options)) paths) in
    let second : List (List ℕ) → Result (List ProjectFile) ProjectFault = λ paths. then_read read_options (third paths) in
    let first : List (List ℕ) → Result (List ProjectFile) ProjectFault = λ patterns. then_read (matching_names names [] patterns) second in
    let patterns = then_ok (required (texts_of Some) (codes "library.") (codes "files") table) first files h in
    let paths = then_ok (matching_names names [] patterns.0) second files patterns.2 in
    let options = then_ok read_options (third paths.0) files paths.2 in
    record {
      patterns = patterns.0;
      paths = paths.0;
      options = options.0;
      listed = patterns.1;
      matched = paths.1;
      told = options.1;
      are = ok_same (map (file_in library (compiler ++ options.0)) paths.0) files options.2;
    }

-- what the files of a library are
pub files_in : (names compiler : List (List ℕ)) (library : List ℕ) (table : Members) (files : List ProjectFile) → AllPairs (λ a b. a ≢ b) names → library_files names compiler library table ≡ Ok files
    → (command paths : List (List ℕ)) × (files ≡ map (file_in library command) paths) × AllPairs (λ a b. a ≢ b) paths
files_in names compiler library table files once h =
    let read = files_read names compiler library table files h in
    let nothing : AllPairs (λ (a b : List ℕ). a ≢ b) [] = λ i j d lt low. absurd (omega (arith, low)) in
    (compiler ++ read.options, read.paths, sym read.are, matching_once names [] read.patterns read.paths once nothing read.matched)

-- The names of all files are distinct, and none is in a library before.
pub record AreNew (before : List (List ℕ)) (files : List ProjectFile) : Type 0 where
  pub once : AllPairs (λ a b. a ≢ b) (names_of files)
  pub libraries : All (λ name. is_among before name.library ≡ false) (names_of files)

pub both_new : (before : List (List ℕ)) (library : List ℕ) (command paths : List (List ℕ)) (others : List ProjectFile) → is_among before library ≡ false → AllPairs (λ a b. a ≢ b) paths → AreNew (before ++ library ∷ []) others → AreNew before (map (file_in library command) paths ++ others)
both_new before library command paths others absent once are =
    let first = names_of (map (file_in library command) paths) in
    let second = names_of others in
    let cut : names_of (map (file_in library command) paths ++ others) ≡ first ++ second = map-append (λ (file : ProjectFile). file.name) (map (file_in library command) paths) others in
    let apart : (name : FileName) → is_among (before ++ library ∷ []) name.library ≡ false → (is_among before name.library ≡ false) × (is_among (library ∷ []) name.library ≡ false) =
    λ name not_there. or_parts _ _ (sym (list_any-append (bytes_eq name.library) before (library ∷ [])) ∙ not_there) in
    record {
      once = subst (AllPairs (λ a b. a ≢ b)) (sym cut) (pairs_append (λ a b. a ≢ b) first second (names_once library command paths once) are.once (λ k d low j e late same.
          let mine : (get_or second j e).library ≡ library = ap (λ (name : FileName). name.library) (sym same) ∙ in_library library command paths k d low in
          both_ways (is_among (library ∷ []) (get_or second j e).library) (apart (get_or second j e) (are.libraries j e late)).1 (list_any_at (bytes_eq (get_or second j e).library) (library ∷ []) 0 library (omega arith) ((bytes_eq-Decides _ _).1 mine))));
      libraries = subst (All (λ name. is_among before name.library ≡ false)) (sym cut) (All-append (λ name. is_among before name.library ≡ false) first second (λ k d low. subst (λ l. is_among before l ≡ false) (sym (in_library library command paths k d low)) absent) (λ k d low. (apart (get_or second k d) (are.libraries k d low)).0));
    }

pub files_new : (names compiler before : List (List ℕ)) (tables : List Members) (files : List ProjectFile) → AllPairs (λ a b. a ≢ b) names → files_of names compiler before tables ≡ Ok files → AreNew before files
unfolding files_of
files_new names compiler before [] files once h = subst (AreNew before) (ok_same [] files h) (record { once = λ i j d lt low. absurd (omega (arith, low)); libraries = λ k d low. absurd (omega (arith, low)) })
files_new names compiler before (table ∷ tables) files once h =
    let library = then_ok (library_after before table) _ files h in
    let first = then_ok (library_files names compiler library.0 table) _ files library.2 in
    let others = then_ok (files_of names compiler (before ++ library.0 ∷ []) tables) _ files first.2 in
    let is = files_in names compiler library.0 table first.0 once first.1 in
    subst (AreNew before) (ap (λ fs. fs ++ others.0) (sym is.2) ∙ ok_same (first.0 ++ others.0) files others.2)
    (both_new before library.0 is.0 is.1 others.0 (named_new before table library.0 library.1) is.3 (files_new names compiler (before ++ library.0 ∷ []) tables others.0 once others.1))
