-- Files that are kept while they are few, and the faults of files that are not kept.
use Rattle.std.proofs.Common.{◌≡◌, ℕ, ◌+◌, ◌<◌, ◌≤◌, Bool, true, false, cond, List, [], ◌∷◌, ◌++◌, length, drop, get_or, map, Option, Some, None, Ok, Err, Result, refl, sym, ap, ◌∙◌, arith, inl, inr}
use Rattle.std.specs.Prelude.{nat_le, filter, codes, not, ◌&&◌}
use Rattle.std.specs.List.{list_any}
use Rattle.std.proofs.lemmas.Bool.{cases_Bool}
use Rattle.std.proofs.lemmas.Bool.Decides.{nat_tests}
use Rattle.std.proofs.lemmas.List.{drop_more, drop_all, append-nil, append_assoc, length-append}
use Rattle.toml.specs.Data.{Members}
use Rattle.base.specs.declared.project.ProjectFile.{ProjectFile}
use Rattle.base.specs.declared.project.ProjectFault.{ProjectFault}
use Rattle.base.specs.declared.project.ProjectFault.TheVariants.{NothingMatches}
use Rattle.base.specs.declared.limits.TheConstants.{FILE_LIMIT}
use Rattle.project_file.specs.Csv.{then_read}
use Rattle.project_file.specs.Paths.{matches_path}
use Rattle.project_file.specs.Toml.{is_among, matching_names, file_in, library_files, required, optional, texts_of, words_of}
use Rattle.project_file.specs.Few.{few_files, few_with, faults_of, all_match, checked_library}

-- ## Few files

more_again : (first others : List ProjectFile) → nat_le (length first) FILE_LIMIT ≡ false → nat_le (length (first ++ others)) FILE_LIMIT ≡ false
more_again first others more = grind (arith, nat_tests, more, length-append first others)

few_cut : (first others : List ProjectFile) → few_files (first ++ others) ≡ few_with (few_files first) others
few_cut first others = elim (cases_Bool (nat_le (length first) FILE_LIMIT)) [
  | inl t ↦ sym (ap (λ b. few_with (cond b (Some first) None) others) t)
  | inr f ↦ ap (λ b. cond b (Some (first ++ others)) None) (more_again first others f) ∙ sym (ap (λ b. few_with (cond b (Some first) None) others) f)
]

-- files after files are those of both
pub few_more : (kept : Option (List ProjectFile)) (here others : List ProjectFile) → few_with kept (here ++ others) ≡ few_with (few_with kept here) others
few_more None here others = refl
few_more (Some files) here others = ap few_files (sym (append_assoc files here others)) ∙ few_cut (files ++ here) others

-- adding no files to the kept files changes nothing
pub few_again : (kept : Option (List ProjectFile)) (here : List ProjectFile) → few_with (few_with kept here) [] ≡ few_with kept here
few_again kept here = sym (few_more kept here []) ∙ ap (few_with kept) (append-nil here)

pub then_more : (kept : Option (List ProjectFile)) (here : List ProjectFile) (rest : Result (List ProjectFile) ProjectFault)
    → then_read (then_read rest (λ others. Ok (here ++ others))) (λ others. Ok (few_with kept others)) ≡ then_read rest (λ others. Ok (few_with (few_with kept here) others))
then_more kept here (Ok others) = ap Ok (few_more kept here others)
then_more kept here (Err fault) = refl

-- ## Faults alone

-- which names were found before is nothing to the faults of patterns
pub matching_faults : (names found patterns : List (List ℕ)) → faults_of (matching_names names found patterns) ≡ all_match names patterns
unfolding matching_names all_match
matching_faults names found [] = refl
matching_faults names found (pattern ∷ patterns) =
    let more : List (List ℕ) = found ++ filter (λ name. matches_path pattern name && not (is_among found name)) names in
    elim (cases_Bool (list_any (matches_path pattern) names)) [
      | inl t ↦ ap (λ b. faults_of (cond b (matching_names names more patterns) (Err (NothingMatches pattern)))) t ∙ matching_faults names more patterns ∙ sym (ap (λ b. cond b (all_match names patterns) (Err (NothingMatches pattern))) t)
      | inr f ↦ ap (λ b. faults_of (cond b (matching_names names more patterns) (Err (NothingMatches pattern)))) f ∙ sym (ap (λ b. cond b (all_match names patterns) (Err (NothingMatches pattern))) f)
    ]

-- the check of a library whose files are not kept finds the faults that reading its files finds
pub checked_is : (names compiler : List (List ℕ)) (library : List ℕ) (table : Members) → checked_library names table ≡ then_read (library_files names compiler library table) (λ more. Ok (few_with None more))
unfolding library_files
checked_is names compiler library table = by (required (texts_of Some) (codes "library.") (codes "files") table)
  where
    options : Result (List (List ℕ)) ProjectFault
    options = optional (words_of 0) [] (codes "library.") (codes "options") table

    last : (paths : List (List ℕ)) (read : Result (List (List ℕ)) ProjectFault) → then_read read (λ options. Ok None) ≡ then_read (then_read read (λ options. Ok (map (file_in library (compiler ++ options)) paths))) (λ more. Ok (few_with None more))
    last paths (Ok read) = refl
    last paths (Err fault) = refl

    middle : (matched : Result (List (List ℕ)) ProjectFault) → then_read (faults_of matched) (λ done. then_read options (λ options. Ok None)) ≡ then_read (then_read matched (λ paths. then_read options (λ options. Ok (map (file_in library (compiler ++ options)) paths)))) (λ more. Ok (few_with None more))
    middle (Ok paths) = last paths options
    middle (Err fault) = refl

    by : (patterns : Result (List (List ℕ)) ProjectFault)
        → then_read patterns (λ patterns. then_read (all_match names patterns) (λ matched. then_read options (λ options. Ok None))) ≡ then_read (then_read patterns (λ patterns. then_read (matching_names names [] patterns) (λ paths. then_read options (λ options. Ok (map (file_in library (compiler ++ options)) paths))))) (λ more. Ok (few_with None more))
    by (Ok patterns) = ap (λ matched. then_read matched (λ done. then_read options (λ options. Ok None))) (sym (matching_faults names [] patterns)) ∙ middle (matching_names names [] patterns)
    by (Err fault) = refl

-- pattern after pattern
module _ (names patterns : List (List ℕ)) (i : ℕ) (d : List ℕ) (low : i < length patterns) (any : Bool) (whole : Result (Unit {0}) ProjectFault) (is : any ≡ list_any (matches_path (get_or patterns i d)) names) (kept : all_match names (drop i patterns) ≡ whole) where
  here : all_match names (drop i patterns) ≡ cond any (all_match names (drop (i + 1) patterns)) (Err (NothingMatches (get_or patterns i d)))
  unfolding all_match
  here = ap (all_match names) (drop_more patterns i d low) ∙ ap (λ b. cond b (all_match names (drop (i + 1) patterns)) (Err (NothingMatches (get_or patterns i d)))) (sym is)

  pub next_matches : any ≡ true → all_match names (drop (i + 1) patterns) ≡ whole
  next_matches some = sym (sym kept ∙ here ∙ ap (λ b. cond b (all_match names (drop (i + 1) patterns)) (Err (NothingMatches (get_or patterns i d)))) some)

  pub none_matches : any ≡ false → whole ≡ Err (NothingMatches (get_or patterns i d))
  none_matches none = sym kept ∙ here ∙ ap (λ b. cond b (all_match names (drop (i + 1) patterns)) (Err (NothingMatches (get_or patterns i d)))) none

pub all_looked_at : (names patterns : List (List ℕ)) (i : ℕ) (whole : Result (Unit {0}) ProjectFault) → length patterns ≤ i → all_match names (drop i patterns) ≡ whole → whole ≡ Ok tt
unfolding all_match
all_looked_at names patterns i whole past kept = sym kept ∙ ap (all_match names) (drop_all i patterns past)
