-- The project of a table, setting after setting, and of a text.
use Rattle.std.proofs.Common.{◌≡◌, ℕ, Bool, false, List, [], Some, Ok, Err, Result, ap, ◌∙◌}
use Rattle.std.specs.Prelude.{codes}
use Rattle.std.specs.Option.{option_map_or}
use Rattle.std.specs.Str.{is_utf8, IsUtf8}
use Rattle.std.proofs.lemmas.Bool.{cond-true, cond-false, false_from_ne_true}
use Rattle.std.proofs.lemmas.Str.{is_utf8-from_IsUtf8, IsUtf8-from_is_utf8}
use Rattle.toml.specs.Data.{Members, as_bool}
use Rattle.toml.specs.Parse.{parse_document}
use Rattle.base.specs.declared.project.Project.{Project}
use Rattle.base.specs.declared.project.ProjectFault.{ProjectFault}
use Rattle.base.specs.declared.project.ProjectFault.TheVariants.{NotToml}
use Rattle.project_file.specs.Csv.{then_read, listed_command, listed_simulator}
use Rattle.project_file.specs.Toml.{optional, words_of, texts_of, library_in, files_project, table_project, toml_project}

module _ (names : List (List ℕ)) (table : Members) where
  pub table_is : (compiler simulator external : List (List ℕ)) (bodies : Bool) → optional (words_of 1) listed_command [] (codes "compiler") table ≡ Ok compiler → optional (words_of 1) listed_simulator [] (codes "simulator") table ≡ Ok simulator
      → optional (texts_of library_in) [] [] (codes "external") table ≡ Ok external → optional as_bool false [] (codes "users_depend_on_bodies") table ≡ Ok bodies → table_project names table ≡ files_project names compiler simulator external bodies table
  unfolding table_project
  table_is compiler simulator external bodies a b c d =
      let fourth : List (List ℕ) → List (List ℕ) → List (List ℕ) → Bool → Result Project ProjectFault = λ one two three four. files_project names one two three four table in
      let third : List (List ℕ) → List (List ℕ) → List (List ℕ) → Result Project ProjectFault = λ one two three. then_read (optional as_bool false [] (codes "users_depend_on_bodies") table) (fourth one two three) in
      let second : List (List ℕ) → List (List ℕ) → Result Project ProjectFault = λ one two. then_read (optional (texts_of library_in) [] [] (codes "external") table) (third one two) in
      let first : List (List ℕ) → Result Project ProjectFault = λ one. then_read (optional (words_of 1) listed_simulator [] (codes "simulator") table) (second one) in
      ap (λ s. then_read s first) a ∙ ap (λ s. then_read s (second compiler)) b ∙ ap (λ s. then_read s (third compiler simulator)) c ∙ ap (λ s. then_read s (fourth compiler simulator external)) d

-- a text that is a table
pub text_is : (text : List ℕ) (names : List (List ℕ)) (table : Members) → IsUtf8 text → parse_document text ≡ Some table → toml_project text names ≡ table_project names table
unfolding toml_project
text_is text names table utf8 is =
    cond-true (is_utf8 text) (option_map_or (table_project names) (parse_document text) (Err NotToml)) (Err NotToml) (is_utf8-from_IsUtf8 text utf8) ∙ ap (λ parsed. option_map_or (table_project names) parsed (Err NotToml)) is

-- bytes that are not UTF-8
pub no_text : (bytes : List ℕ) (names : List (List ℕ)) → (IsUtf8 bytes → ⊥) → toml_project bytes names ≡ Err NotToml
unfolding toml_project
no_text bytes names not_utf8 =
    cond-false (is_utf8 bytes) (option_map_or (table_project names) (parse_document bytes) (Err NotToml)) (Err NotToml) (false_from_ne_true (is_utf8 bytes) (λ t. not_utf8 (IsUtf8-from_is_utf8 bytes t)))
