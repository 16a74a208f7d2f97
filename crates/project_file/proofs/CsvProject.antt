-- The project of a CSV file is valid: its names are distinct, and its names and commands are within the limits.
use Rattle.std.proofs.Common.{◌≡◌, ◌≢◌, ℕ, zero, suc, eqb, ◌+◌, ◌<◌, ◌≤◌, true, false, cond, List, [], ◌∷◌, ◌++◌, length, get_or, map, Option, Some, None, Result, Ok, Err, refl, sym, ap, subst, ◌∙◌, arith, inl, inr}
use Rattle.std.specs.Prelude.{All, AllPairs, codes, Bool}
use Rattle.std.specs.Char.{to_ascii_lowercase}
use Rattle.std.specs.Str.{bytes_eq}
use Rattle.std.specs.List.{before_first, after_first}
use Rattle.std.specs.Option.{ok_or}
use Rattle.std.proofs.lemmas.Bool.{cases_Bool, and_parts, cond-true, cond-false, leb-true, both_ways}
use Rattle.std.proofs.lemmas.List.{length-map, get_or-map}
use Rattle.std.proofs.lemmas.List.Elements.{All-push}
use Rattle.std.proofs.lemmas.List.Quantifiers.{all_pairs_push}
use Rattle.std.proofs.lemmas.List.Folds.{list_any_at}
use Rattle.std.proofs.lemmas.Option.{none-some, same_Some}
use Rattle.base.specs.declared.file.FileName.{FileName}
use Rattle.base.specs.declared.project.ProjectFile.{ProjectFile}
use Rattle.base.specs.declared.project.ProjectFault.{ProjectFault}
use Rattle.base.specs.declared.project.ProjectFault.TheVariants.{WorkLibrary, DuplicateFile, BadLine}
use Rattle.base.specs.Names.{IsBetween, FitsName, is_same_name, has_name}
use Rattle.base.specs.Projects.{IsProject, IsProjectFile}
use Rattle.base_collections.proofs.SameNames.{same_names}
use Rattle.project_file.specs.Csv.{csv_file_of, names_file, trim, begins_with_letter, name_fault, admitted, then_read, added_by, files_after, listed_file, listed_project, listed_command}
use Rattle.base.specs.declared.limits.TheConstants.{WORD_LIMIT}

ok_is : {X : Type 0} (x y : X) → ◌≡◌ {A = Result X ProjectFault} (Ok x) (Ok y) → x ≡ y
ok_is x y e = cc

err_is_ok : {X : Type 0} (f : ProjectFault) (y : X) → ◌≡◌ {A = Result X ProjectFault} (Err f) (Ok y) → ⊥
err_is_ok f y e = cc

pub begins_not_empty : (name : List ℕ) → begins_with_letter name ≡ true → 1 ≤ length name
begins_not_empty [] h = absurd cc
begins_not_empty (byte ∷ bytes) h = omega arith

-- what a line names fits
fits_of : (line library path : List ℕ) (name : FileName) → cond (names_file line library path) (Some (record { library = map to_ascii_lowercase library; path = path })) None ≡ Some name → FitsName name
fits_of line library path name h =
    elim (cases_Bool (names_file line library path)) [
      | inl t ↦
          let whole = and_parts _ _ t in
          let prefix = and_parts _ _ whole.0 in
          let lib = and_parts _ _ prefix.1 in
          let lib_prefix = and_parts _ _ lib.0 in
          let path_prefix = and_parts _ _ (and_parts _ _ whole.1).0 in
          let bytes = and_parts _ _ (and_parts _ _ path_prefix.0).0 in
          let is : record { library = map to_ascii_lowercase library; path = path } ≡ name = same_Some _ _ (sym (cond-true (names_file line library path) (Some (record { library = map to_ascii_lowercase library; path = path })) None t) ∙ h) in
          subst FitsName is (record {
            library = record { at_least = rw length-map (begins_not_empty library lib_prefix.0); at_most = rw length-map (leb-true _ _ lib.1) };
            path = record { at_least = leb-true _ _ bytes.0; at_most = leb-true _ _ bytes.1 };
          })
      | inr f ↦ absurd (none-some name (sym (cond-false (names_file line library path) (Some (record { library = map to_ascii_lowercase library; path = path })) None f) ∙ h))
    ]

file_fits : (line : List ℕ) (name : FileName) → csv_file_of line ≡ Some name → FitsName name
unfolding csv_file_of
file_fits line name h = fits_of line (trim (before_first (λ (byte : ℕ). eqb byte 44) line)) (trim (after_first (λ (byte : ℕ). eqb byte 44) line)) name h

-- a name that is admitted has no fault
admitted_is : (fault : Option ProjectFault) (name other : FileName) → admitted fault name ≡ Ok other → (fault ≡ None) × (name ≡ other)
admitted_is None name other h = (refl, ok_is name other h)
admitted_is (Some fault) name other h = absurd (err_is_ok fault other h)

named_then : (found : Option FileName) (before : List FileName) (number : ℕ) (name : FileName)
    → then_read (ok_or found (BadLine number)) (λ other. admitted (name_fault before other) other) ≡ Ok name → (found ≡ Some name) × (name_fault before name ≡ None)
named_then None before number name h = absurd (err_is_ok (BadLine number) name h)
named_then (Some other) before number name h =
    let good = admitted_is (name_fault before other) other name h in
    (ap Some good.1, subst (λ n. name_fault before n ≡ None) good.1 good.0)

-- what a line adds fits, and has no fault
added_fits : (before : List FileName) (number : ℕ) (line : List ℕ) (name : FileName) → added_by before number line ≡ Ok name → FitsName name × (name_fault before name ≡ None)
unfolding added_by
added_fits before number line name h =
    let good = named_then (csv_file_of line) before number name h in
    (file_fits line name good.0, good.1)

-- names of files that fit, each once
pub record AreNames (names : List FileName) : Type 0 where
  pub distinct : AllPairs (λ a b. a ≢ b) names
  pub fit : All FitsName names

no_fault_new : (work came : Bool) (name : FileName) → cond work (Some WorkLibrary) (cond came (Some (DuplicateFile name)) None) ≡ None → came ≡ false
no_fault_new true came name h = absurd (none-some WorkLibrary (sym h))
no_fault_new false true name h = absurd (none-some (DuplicateFile name) (sym h))
no_fault_new false false name h = refl

one_more : (before : List FileName) (name : FileName) → AreNames before → FitsName name → name_fault before name ≡ None → AreNames (before ++ name ∷ [])
unfolding name_fault
one_more before name are fits none =
    let no_other : has_name before name ≡ false = no_fault_new (bytes_eq name.library (codes "work")) (has_name before name) name none in
    record {
      distinct = all_pairs_push (λ a b. a ≢ b) before name are.distinct (λ k d lt same.
          both_ways (has_name before name) no_other (list_any_at (λ other. is_same_name other name) before k d lt (same_names (get_or before k d) name same)));
      fit = All-push FitsName before name are.fit fits;
    }

-- the files after a line that isn't empty
line_then : (before : List FileName) (number : ℕ) (line : List ℕ) (names : List FileName) (more : FileName → Result (List FileName) ProjectFault) → AreNames before
    → ((name : FileName) → AreNames (before ++ name ∷ []) → more name ≡ Ok names → AreNames names) → (added : Result FileName ProjectFault) → added_by before number line ≡ added → then_read added more ≡ Ok names → AreNames names
line_then before number line names more are goes_on (Err fault) e h = absurd (err_is_ok fault names h)
line_then before number line names more are goes_on (Ok name) e h =
    let good = added_fits before number line name e in
    goes_on name (one_more before name are good.0 good.1) h

-- all files that are listed
pub files_are_names : (before : List FileName) (number : ℕ) (lines : List (List ℕ)) (names : List FileName) → AreNames before → files_after before number lines ≡ Ok names → AreNames names
unfolding files_after
files_are_names before number [] names are h = subst AreNames (ok_is before names h) are
files_are_names before number (line ∷ rest) names are h =
    let more : FileName → Result (List FileName) ProjectFault = λ name. files_after (before ++ name ∷ []) (number + 1) rest in
    let others : Result (List FileName) ProjectFault = then_read (added_by before number line) more in
    elim (cases_Bool (bytes_eq line [])) [
      | inl t ↦ files_are_names before (number + 1) rest names are (sym (cond-true (bytes_eq line []) (files_after before (number + 1) rest) others t) ∙ h)
      | inr f ↦
          line_then before number line names more are (λ name is next. files_are_names (before ++ name ∷ []) (number + 1) rest names is next) (added_by before number line) refl
          (sym (cond-false (bytes_eq line []) (files_after before (number + 1) rest) others f) ∙ h)
    ]

-- the project of such names
pub listed_is_project : (names : List FileName) → AreNames names → IsProject (listed_project names)
listed_is_project names are = record {
  distinct = λ i j d a b same.
      let high : j < length names = rw length-map at b in
      let low : i < length names = omega arith in
      are.distinct i j d.name a high (sym (ap (λ (f : ProjectFile). f.name) (get_or-map listed_file names i d.name d low)) ∙ same ∙ ap (λ (f : ProjectFile). f.name) (get_or-map listed_file names j d.name d high));
  each = λ k d l.
      let low : k < length names = rw length-map at l in
      subst IsProjectFile (sym (get_or-map listed_file names k d.name d low)) (record { name = are.fit k d.name low; command = record { count = record { at_least = omega arith; at_most = omega arith }; words = two_words } });
  simulator = record { count = record { at_least = omega arith; at_most = omega arith }; each = two_between };
} where
  two_words : All (λ word. length word ≤ WORD_LIMIT) listed_command
  two_words zero d l = omega arith
  two_words (suc zero) d l = omega arith
  two_words (suc (suc k)) d l = absurd (omega arith)

  two_between : All (λ word. IsBetween 1 WORD_LIMIT (length word)) (listed_project names).simulator
  two_between zero d l = record { at_least = omega arith; at_most = omega arith }
  two_between (suc zero) d l = record { at_least = omega arith; at_most = omega arith }
  two_between (suc (suc k)) d l = absurd (omega arith)

pub no_names : AreNames []
no_names = record { distinct = λ i j d a b. absurd (omega arith); fit = λ k d l. absurd (omega arith) }
