-- Which files libraries have, by their tables and all names.
use Rattle.std.proofs.Common.{◌≡◌, ◌≢◌, ℕ, zero, suc, ◌+◌, ◌<◌, Bool, true, false, not, ◌&&◌, ◌||◌, cond, List, [], ◌∷◌, ◌++◌, length, take, get_or, map, Option, Some, None, Ok, Err, Result, refl, sym, ap, subst, ◌∙◌, arith, inl, inr}
use Rattle.std.specs.Prelude.{AllPairs, Contains, filter, codes, position, slice_get}
use Rattle.std.specs.List.{list_any}
use Rattle.std.specs.Option.{ok_or}
use Rattle.std.specs.Str.{bytes_eq}
use Rattle.std.proofs.lemmas.Bool.{cases_Bool, both_ways, false_from_ne_true, or_parts, cond-true, cond-false}
use Rattle.std.proofs.lemmas.List.{get_or_default, get_or-map, get_or-take, length-map, length-take, map_push, take_more}
use Rattle.std.proofs.lemmas.List.Quantifiers.{position-Some}
use Rattle.std.proofs.lemmas.List.Folds.{list_any-append, list_any_at, list_any_none}
use Rattle.std.proofs.lemmas.Map.Views.{any-filter_same, Contains-from_any}
use Rattle.std.proofs.lemmas.Option.{get_or_from_slice_get, slice_get_within}
use Rattle.std.proofs.lemmas.Slice.Eq.{bytes_eq-Decides}
use Rattle.base_collections.specs.Numbers.{IsNumbered}
use Rattle.toml.specs.Data.{Members}
use Rattle.base.specs.declared.file.FileName.{FileName}
use Rattle.base.specs.declared.memory.OrMemory.{OrMemory}
use Rattle.base.specs.declared.project.ProjectFile.{ProjectFile}
use Rattle.base.specs.declared.project.ProjectFault.{ProjectFault}
use Rattle.base.specs.declared.project.ProjectFault.TheVariants.{NothingMatches, UnknownDependency}
use Rattle.base.specs.Names.{is_same_name}
use Rattle.project_file.specs.Csv.{then_read}
use Rattle.project_file.specs.Paths.{matches_path}
use Rattle.project_file.specs.Steps.{ReadsStep}
use Rattle.project_file.specs.Toml.{is_among, library_after, matching_names, file_in, library_files, files_of, index_of_file, required, texts_of}
use Rattle.project_file.specs.Libraries.{alone}
use Rattle.project_file.specs.Few.{among_files, faults_of, has_path, is_wanted, library_name, IsLookup}
use Rattle.project_file.proofs.TomlNames.{files_new, files_read, named_is, named_new, ok_same, then_ok, AreNew}
use Rattle.project_file.proofs.PairSteps.{not_found}

-- ## The names of one library

bytes_sym : (a b : List ℕ) → bytes_eq a b ≡ bytes_eq b a
bytes_sym a b = elim (cases_Bool (bytes_eq b a)) [
  | inl t ↦ (bytes_eq-Decides a b).1 (sym ((bytes_eq-Decides b a).0 t)) ∙ sym t
  | inr f ↦ false_from_ne_true (bytes_eq a b) (λ t. both_ways (bytes_eq b a) f ((bytes_eq-Decides b a).1 (sym ((bytes_eq-Decides a b).0 t)))) ∙ sym f
]

and_or : (l a b : Bool) → ((l && a) || (l && b)) ≡ (l && (a || b))
and_or true a b = refl
and_or false a b = refl

and_nothing : (l : Bool) → false ≡ (l && false)
and_nothing true = refl
and_nothing false = refl

among_in : (library : List ℕ) (command paths : List (List ℕ)) (name : FileName) → among_files (map (file_in library command) paths) name ≡ (bytes_eq library name.library && is_among paths name.path)
among_in library command [] name = and_nothing (bytes_eq library name.library)
among_in library command (path ∷ paths) name =
    ap (λ b. (bytes_eq library name.library && bytes_eq path name.path) || b) (among_in library command paths name)
    ∙ and_or (bytes_eq library name.library) (bytes_eq path name.path) (is_among paths name.path)
    ∙ ap (λ b. bytes_eq library name.library && (b || is_among paths name.path)) (bytes_sym path name.path)

no_pattern : (found named : Bool) → found ≡ (found || (named && false))
no_pattern true named = refl
no_pattern false true = refl
no_pattern false false = refl

one_pattern : (found named here rest : Bool) → ((found || ((here && not found) && named)) || (named && rest)) ≡ (found || (named && (here || rest)))
one_pattern true named here rest = refl
one_pattern false true true rest = refl
one_pattern false true false rest = refl
one_pattern false false true rest = refl
one_pattern false false false rest = refl

-- the paths that patterns match are those of the names that one of them matches
matched_has : (names found patterns paths : List (List ℕ)) (path : List ℕ) → matching_names names found patterns ≡ Ok paths → is_among paths path ≡ (is_among found path || (is_among names path && list_any (λ pattern. matches_path pattern path) patterns))
unfolding matching_names
matched_has names found [] paths path h = ap (λ texts. is_among texts path) (sym (ok_same found paths h)) ∙ no_pattern (is_among found path) (is_among names path)
matched_has names found (pattern ∷ patterns) paths path h =
    let new : List ℕ → Bool = λ name. matches_path pattern name && not (is_among found name) in
    let others : Result (List (List ℕ)) ProjectFault = matching_names names (found ++ filter new names) patterns in
    elim (cases_Bool (list_any (matches_path pattern) names)) [
      | inl t ↦
          let rest = list_any (λ pattern. matches_path pattern path) patterns in
          let more = matched_has names (found ++ filter new names) patterns paths path (sym (cond-true (list_any (matches_path pattern) names) others (Err (NothingMatches pattern)) t) ∙ h) in
          let kept : is_among (filter new names) path ≡ (new path && is_among names path) = any-filter_same (bytes_eq path) new (new path) (λ k same. ap new (sym ((bytes_eq-Decides path k).0 same))) names in
          more ∙ ap (λ b. b || (is_among names path && rest)) (list_any-append (bytes_eq path) found (filter new names) ∙ ap (λ b. is_among found path || b) kept)
          ∙ one_pattern (is_among found path) (is_among names path) (matches_path pattern path) rest
      | inr f ↦ let no : ◌≡◌ {A = Result (List (List ℕ)) ProjectFault} (Err (NothingMatches pattern)) (Ok paths) = sym (cond-false (list_any (matches_path pattern) names) others (Err (NothingMatches pattern)) f) ∙ h in absurd cc
    ]

when_named : (named matched : Bool) → ◌≡◌ {A = Result Bool ProjectFault} (cond named (Ok matched) (Ok false)) (Ok (named && matched))
when_named true matched = refl
when_named false matched = refl

-- the files of one library
library_has : (names compiler : List (List ℕ)) (library : List ℕ) (table : Members) (files : List ProjectFile) (name : FileName) → library_files names compiler library table ≡ Ok files
    → (has : Bool) × (has_path names name.path table ≡ Ok has) × (among_files files name ≡ (bytes_eq library name.library && has))
library_has names compiler library table files name h =
    let read = files_read names compiler library table files h in
    let matched = list_any (λ pattern. matches_path pattern name.path) read.patterns in
    let named = is_among names name.path in
    let look : List (List ℕ) → Result Bool ProjectFault = λ patterns. Ok (list_any (λ pattern. matches_path pattern name.path) patterns) in
    let said : ◌≡◌ {A = Result Bool ProjectFault} (then_read (required (texts_of Some) (codes "library.") (codes "files") table) look) (Ok matched) = ap (λ s. then_read s look) read.listed in (
      named && matched,
      ap (λ (s : Result Bool ProjectFault). cond named s (Ok false)) said ∙ when_named named matched,
      ap (λ fs. among_files fs name) (sym read.are) ∙ among_in library (compiler ++ read.options) read.paths name
          ∙ ap (λ b. bytes_eq library name.library && b) (matched_has names [] read.patterns read.paths name.path read.matched),
    )

-- ## The names of all libraries

both_among : (here others : List ProjectFile) (name : FileName) → among_files (here ++ others) name ≡ (among_files here name || among_files others name)
both_among here others name = list_any-append (λ file. is_same_name file.name name) here others

-- no file is in a library before
none_before : (before : List (List ℕ)) (files : List ProjectFile) (name : FileName) → AreNew before files → is_among before name.library ≡ true → among_files files name ≡ false
none_before before files name new came = list_any_none (λ file. is_same_name file.name name) files (λ k d low. elim (cases_Bool (is_same_name (get_or files k d).name name)) [
  | inl t ↦
      let same : bytes_eq (get_or files k d).name.library name.library ≡ true = (first_of (bytes_eq (get_or files k d).name.library name.library) (bytes_eq (get_or files k d).name.path name.path) t) in
      let named : k < length (map (λ (file : ProjectFile). file.name) files) = rw length-map low in
      let here : get_or (map (λ (file : ProjectFile). file.name) files) k d.name ≡ (get_or files k d).name = get_or-map (λ (file : ProjectFile). file.name) files k d d.name low in
      let absent : is_among before (get_or files k d).name.library ≡ false = subst (λ (n : FileName). is_among before n.library ≡ false) here (new.libraries k d.name named) in
      absurd (both_ways (is_among before name.library) (subst (λ l. is_among before l ≡ false) ((bytes_eq-Decides (get_or files k d).name.library name.library).0 same) absent) came)
  | inr f ↦ f
])
  where
    first_of : (a b : Bool) → (a && b) ≡ true → a ≡ true
    first_of true b is = refl
    first_of false b is = is

module _ (names compiler : List (List ℕ)) (once : AllPairs (λ a b. a ≢ b) names) (name : FileName) where
  -- the library at an index isn't one of those before
  later_new : (before : List (List ℕ)) (tables : List Members) (keys : List FileName) (files : List ProjectFile) → files_of names compiler before tables ≡ Ok files → map (λ (key : FileName). Ok key.library) keys ≡ map library_name tables
      → (k : ℕ) (d : FileName) → k < length keys → is_among before (get_or keys k d).library ≡ false
  unfolding files_of
  later_new before tables [] files h named k d low = absurd (omega (arith, low))
  later_new before [] (key ∷ keys) files h named k d low = absurd cc
  later_new before (table ∷ tables) (key ∷ keys) files h named zero d low =
      let library = then_ok (library_after before table) _ files h in
      let first : ◌≡◌ {A = Result (List ℕ) ProjectFault} (Ok key.library) (library_name table) = cc in
      let same : key.library ≡ library.0 = ok_same key.library library.0 (first ∙ named_is before table library.0 library.1) in
      subst (λ l. is_among before l ≡ false) (sym same) (named_new before table library.0 library.1)
  later_new before (table ∷ tables) (key ∷ keys) files h named (suc k) d low =
      let library = then_ok (library_after before table) _ files h in
      let here = then_ok (library_files names compiler library.0 table) _ files library.2 in
      let others = then_ok (files_of names compiler (before ++ library.0 ∷ []) tables) _ files here.2 in
      let rest : map (λ (key : FileName). Ok key.library) keys ≡ map library_name tables = cc in
      let new = later_new (before ++ library.0 ∷ []) tables keys others.0 others.1 rest k d (omega (arith, low)) in
      (or_parts _ _ (sym (list_any-append (bytes_eq (get_or keys k d).library) before (library.0 ∷ [])) ∙ new)).0

  -- a file of the library at an index
  has_at : (before : List (List ℕ)) (tables : List Members) (keys : List FileName) (files : List ProjectFile) → files_of names compiler before tables ≡ Ok files → map (λ (key : FileName). Ok key.library) keys ≡ map library_name tables
      → (k : ℕ) (d : FileName) (t : Members) → k < length keys → (get_or keys k d).library ≡ name.library → has_path names name.path (get_or tables k t) ≡ Ok (among_files files name)
  unfolding files_of
  has_at before tables [] files h named k d t low at = absurd (omega (arith, low))
  has_at before [] (key ∷ keys) files h named k d t low at = absurd cc
  has_at before (table ∷ tables) (key ∷ keys) files h named zero d t low at =
      let library = then_ok (library_after before table) _ files h in
      let here = then_ok (library_files names compiler library.0 table) _ files library.2 in
      let others = then_ok (files_of names compiler (before ++ library.0 ∷ []) tables) _ files here.2 in
      let has = library_has names compiler library.0 table here.0 name here.1 in
      let first : ◌≡◌ {A = Result (List ℕ) ProjectFault} (Ok key.library) (library_name table) = cc in
      let same : library.0 ≡ name.library = sym (ok_same key.library library.0 (first ∙ named_is before table library.0 library.1)) ∙ at in
      let yes : bytes_eq library.0 name.library ≡ true = (bytes_eq-Decides library.0 name.library).1 same in
      let came : is_among (before ++ library.0 ∷ []) name.library ≡ true = list_any-append (bytes_eq name.library) before (library.0 ∷ []) ∙ last_is (is_among before name.library) (bytes_eq name.library library.0) ((bytes_eq-Decides name.library library.0).1 (sym same)) in
      let none : among_files others.0 name ≡ false = none_before (before ++ library.0 ∷ []) others.0 name (files_new names compiler (before ++ library.0 ∷ []) tables others.0 once others.1) came in
      let all : among_files (here.0 ++ others.0) name ≡ has.0 = both_among here.0 others.0 name ∙ ap (λ b. b || among_files others.0 name) (has.2 ∙ ap (λ b. b && has.0) yes) ∙ ap (λ b. has.0 || b) none ∙ or_nothing has.0 in
      has.1 ∙ ap Ok (sym (ap (λ fs. among_files fs name) (sym (ok_same (here.0 ++ others.0) files others.2)) ∙ all))
    where
      or_nothing : (b : Bool) → (b || false) ≡ b
      or_nothing true = refl
      or_nothing false = refl

      last_is : (a b : Bool) → b ≡ true → (a || (b || false)) ≡ true
      last_is true b is = refl
      last_is false true is = refl
      last_is false false is = is
  has_at before (table ∷ tables) (key ∷ keys) files h named (suc k) d t low at =
      let library = then_ok (library_after before table) _ files h in
      let here = then_ok (library_files names compiler library.0 table) _ files library.2 in
      let others = then_ok (files_of names compiler (before ++ library.0 ∷ []) tables) _ files here.2 in
      let has = library_has names compiler library.0 table here.0 name here.1 in
      let rest : map (λ (key : FileName). Ok key.library) keys ≡ map library_name tables = cc in
      let new = later_new (before ++ library.0 ∷ []) tables keys others.0 others.1 rest k d (omega (arith, low)) in
      let not_here : bytes_eq (get_or keys k d).library library.0 ≡ false = (or_parts _ _ ((or_parts _ _ (sym (list_any-append (bytes_eq (get_or keys k d).library) before (library.0 ∷ [])) ∙ new)).1)).0 in
      let no : bytes_eq library.0 name.library ≡ false = bytes_sym library.0 name.library ∙ ap (λ l. bytes_eq l library.0) (sym at) ∙ not_here in
      let none : among_files here.0 name ≡ false = has.2 ∙ ap (λ b. b && has.0) no in
      has_at (before ++ library.0 ∷ []) tables keys others.0 others.1 rest k d t (omega (arith, low)) at
      ∙ ap Ok (sym (ap (λ fs. among_files fs name) (sym (ok_same (here.0 ++ others.0) files others.2)) ∙ both_among here.0 others.0 name ∙ ap (λ b. b || among_files others.0 name) none))

  -- a file of another library
  has_none : (before : List (List ℕ)) (tables : List Members) (keys : List FileName) (files : List ProjectFile) → files_of names compiler before tables ≡ Ok files → map (λ (key : FileName). Ok key.library) keys ≡ map library_name tables
      → ((k : ℕ) (d : FileName) → k < length keys → (get_or keys k d).library ≢ name.library) → among_files files name ≡ false
  unfolding files_of
  has_none before [] keys files h named other = ap (λ fs. among_files fs name) (sym (ok_same [] files h))
  has_none before (table ∷ tables) [] files h named other = absurd cc
  has_none before (table ∷ tables) (key ∷ keys) files h named other =
      let library = then_ok (library_after before table) _ files h in
      let here = then_ok (library_files names compiler library.0 table) _ files library.2 in
      let others = then_ok (files_of names compiler (before ++ library.0 ∷ []) tables) _ files here.2 in
      let has = library_has names compiler library.0 table here.0 name here.1 in
      let first : ◌≡◌ {A = Result (List ℕ) ProjectFault} (Ok key.library) (library_name table) = cc in
      let rest : map (λ (key : FileName). Ok key.library) keys ≡ map library_name tables = cc in
      let same : key.library ≡ library.0 = ok_same key.library library.0 (first ∙ named_is before table library.0 library.1) in
      let no : bytes_eq library.0 name.library ≡ false = false_from_ne_true (bytes_eq library.0 name.library) (λ t. other 0 key (omega arith) (same ∙ (bytes_eq-Decides library.0 name.library).0 t)) in
      ap (λ fs. among_files fs name) (sym (ok_same (here.0 ++ others.0) files others.2)) ∙ both_among here.0 others.0 name ∙ ap (λ b. b || among_files others.0 name) (has.2 ∙ ap (λ b. b && has.0) no)
      ∙ has_none (before ++ library.0 ∷ []) tables keys others.0 others.1 rest (λ k d low. other (suc k) d (omega (arith, low)))

-- ## A file that is looked up

pub found_is : {V : Type 0} (see : V → Members) (names compiler : List (List ℕ)) (tables : List V) (keys paths : List FileName) (files : List ProjectFile) (name : FileName) (file_index : ℕ) (table : V) (result : Result Bool (OrMemory ProjectFault)) → IsLookup names compiler (map see tables) keys paths files
    → slice_get keys file_index ≡ Some (alone name.library) → file_index < length tables → table ≡ get_or tables file_index table → ReadsStep (has_path names name.path (see table)) result → ReadsStep (Ok (among_files files name)) result
found_is see names compiler tables keys paths files name file_index table result gives at few there said =
    let low : file_index < length keys = slice_get_within keys file_index (alone name.library) at in
    let here : (get_or keys file_index (alone name.library)).library ≡ name.library = ap (λ (key : FileName). key.library) (get_or_from_slice_get keys file_index (alone name.library) (alone name.library) at) in
    let seen : get_or (map see tables) file_index (see table) ≡ see table = get_or-map see tables file_index table (see table) few ∙ ap see (sym there) in
    let has = has_at names compiler gives.once name [] (map see tables) keys files gives.said gives.libraries.named file_index (alone name.library) (see table) low here in
    subst (λ s. ReadsStep s result) (ap (has_path names name.path) (sym seen) ∙ has) said

pub absent_is : (names compiler : List (List ℕ)) (tables : List Members) (keys paths : List FileName) (files : List ProjectFile) (name : FileName) → IsLookup names compiler tables keys paths files → ¬ Contains keys (alone name.library) → among_files files name ≡ false
absent_is names compiler tables keys paths files name gives none =
    has_none names compiler gives.once name [] tables keys files gives.said gives.libraries.named (λ k d low same.
    let key : get_or keys k d ≡ alone name.library = ap (λ ks. get_or ks k d) gives.libraries.plain ∙ get_or-map alone (map (λ (key : FileName). key.library) keys) k (get_or keys k d).library d (rw length-map low) ∙ ap alone (get_or-map (λ (key : FileName). key.library) keys k d (get_or keys k d).library low ∙ same) in
    none (k, low, get_or_default keys k (alone name.library) d low ∙ key))

pub index_there : (files : List ProjectFile) (name : FileName) → among_files files name ≡ true → faults_of (index_of_file files name) ≡ Ok tt
unfolding index_of_file
index_there files name is = by (position (λ file. is_same_name file.name name) files) refl
  where
    by : (found : Option ℕ) → position (λ file. is_same_name file.name name) files ≡ found → faults_of (ok_or (position (λ file. is_same_name file.name name) files) (UnknownDependency name)) ≡ Ok tt
    by None none = absurd (both_ways (among_files files name) (list_any_none (λ file. is_same_name file.name name) files (not_found (λ file. is_same_name file.name name) files none)) is)
    by (Some file_index) at = ap (λ found. faults_of (ok_or found (UnknownDependency name))) at

pub no_index_there : (files : List ProjectFile) (name : FileName) → among_files files name ≡ false → faults_of (index_of_file files name) ≡ Err (UnknownDependency name)
unfolding index_of_file
no_index_there files name none = by (position (λ file. is_same_name file.name name) files) refl
  where
    by : (found : Option ℕ) → position (λ file. is_same_name file.name name) files ≡ found → faults_of (ok_or (position (λ file. is_same_name file.name name) files) (UnknownDependency name)) ≡ Err (UnknownDependency name)
    by None at = ap (λ found. faults_of (ok_or found (UnknownDependency name))) at
    by (Some file_index) at =
        let d : ProjectFile = record { name = name; command = [] } in
        let there = position-Some (λ (file : ProjectFile). is_same_name file.name name) files file_index d at in
        absurd (both_ways (among_files files name) none (list_any_at (λ file. is_same_name file.name name) files file_index d there.0 there.1))

-- a name more
pub alone_more_name : (names : List (List ℕ)) (i : ℕ) (name : List ℕ) (keys new : List FileName) (number : ℕ) → AllPairs (λ a b. a ≢ b) names → i < length names → name ≡ get_or names i name → keys ≡ map alone (take i names) → IsNumbered (alone name) number keys new
    → new ≡ map alone (take (i + 1) names)
alone_more_name names i name keys new number once low at are is =
    let next : map alone (take (i + 1) names) ≡ map alone (take i names) ++ alone name ∷ [] = ap (map alone) (take_more names i name low ∙ ap (λ n. take i names ++ n ∷ []) (sym at)) ∙ map_push alone (take i names) name in
    elim is.grown [
      | inl same ↦
          let here : slice_get keys number ≡ Some (alone name) = ap (λ ks. slice_get ks number) (sym same) ∙ is.numbered in
          let within : number < length keys = slice_get_within keys number (alone name) here in
          let taken : number < length (take i names) = rw length-map at (subst (λ ks. number < length ks) are within) in
          let early : number < i = omega (arith, taken, length-take {A = List ℕ} i names) in
          let before : alone (get_or names number name) ≡ alone name = ap alone (sym (get_or-take i names number name early)) ∙ sym (get_or-map alone (take i names) number name (alone name) taken) ∙ ap (λ ks. get_or ks number (alone name)) (sym are) ∙ get_or_from_slice_get keys number (alone name) (alone name) here in
          absurd (once number i name early low (ap (λ (key : FileName). key.library) before ∙ at))
      | inr grown ↦ grown ∙ ap (λ ks. ks ++ alone name ∷ []) are ∙ sym next
    ]

-- a path that is in a list of names, and one that is not
named_path : (names : List (List ℕ)) (path : List ℕ) (file_index : ℕ) → slice_get (map alone names) file_index ≡ Some (alone path) → is_among names path ≡ true
named_path names path file_index at =
    let within : file_index < length (map alone names) = slice_get_within (map alone names) file_index (alone path) at in
    let low : file_index < length names = rw length-map at within in
    let here : get_or names file_index path ≡ path = ap (λ (key : FileName). key.library) (sym (get_or-map alone names file_index path (alone path) low) ∙ get_or_from_slice_get (map alone names) file_index (alone path) (alone path) at) in
    list_any_at (bytes_eq path) names file_index path low ((bytes_eq-Decides path (get_or names file_index path)).1 (sym here))

other_path : (names : List (List ℕ)) (path : List ℕ) → ¬ Contains (map alone names) (alone path) → is_among names path ≡ false
other_path names path none = false_from_ne_true (is_among names path) (λ t.
    let has = Contains-from_any (λ x y. (bytes_eq-Decides x y).0) path names t in
    none (has.0, rw length-map has.1, get_or-map alone names has.0 path (alone path) has.1 ∙ ap alone has.2))

pub has_named : (names : List (List ℕ)) (paths : List FileName) (path : List ℕ) (file_index : ℕ) (table : Members) (result : Result Bool (OrMemory ProjectFault)) → paths ≡ map alone names → slice_get paths file_index ≡ Some (alone path) → ReadsStep (is_wanted path table) result → ReadsStep (has_path names path table) result
has_named names paths path file_index table result are at is =
    subst (λ s. ReadsStep s result) (sym (cond-true (is_among names path) (is_wanted path table) (Ok false) (named_path names path file_index (sym (ap (λ ks. slice_get ks file_index) are) ∙ at)))) is

pub has_unnamed : (names : List (List ℕ)) (paths : List FileName) (path : List ℕ) (table : Members) → paths ≡ map alone names → ¬ Contains paths (alone path) → has_path names path table ≡ Ok false
has_unnamed names paths path table are none = cond-false (is_among names path) (is_wanted path table) (Ok false) (other_path names path (subst (λ ks. ¬ Contains ks (alone path)) are none))
