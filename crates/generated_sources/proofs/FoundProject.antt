-- The project that the generated project file says over the listing of the generated files.
use Rattle.std.proofs.Common.{◌≡◌, ◌≢◌, zero, suc, ℕ, ◌+◌, ◌^◌, ◌<◌, ◌≤◌, ⊎_elim, inl, inr, false, List, [], ◌∷◌, ◌++◌, length, map, refl, sym, ap, subst, ◌∙◌, arith, length-append}
use Rattle.std.specs.Prelude.{Ok, slice_index_or}
use Rattle.std.proofs.lemmas.List.{append-nil}
use Rattle.base.specs.declared.project.ProjectFile.{ProjectFile}
use Rattle.memory_outside.specs.Trees.{listed_of}
use Rattle.project_file.specs.Csv.{listed_command, listed_simulator}
use Rattle.project_file.specs.Toml.{file_in, toml_project}
use Rattle.generated_project.specs.Files.{bench_path, generated_files, package_path, toml_text}
use Rattle.generated_sources.specs.PackageLinks.{used_library}
use Rattle.generated_sources.proofs.Members.{AreApart, Has, contains_had, has_at, has_either, has_first_part, has_second_part}
use Rattle.generated_sources.specs.NumberedFiles.{AreAllNumbers, numbered_file, numbered_project}
use Rattle.generated_sources.specs.ListedNumbers.{listed_numbers, numbers_to, sorted_numbers}
use Rattle.generated_sources.proofs.Listed.{count_of, has_number, listing, number_within, numbers_apart, numbers_small}
use Rattle.generated_sources.proofs.Matched.{matched, names_of}
use Rattle.generated_sources.proofs.Sorted.{IsSortOf, apart_more, is_sorted, small_of}
use Rattle.generated_sources.proofs.TomlProject.{said_is}

-- ## The numbers of its files

pairs_apart : (xs : List ℕ) → AreApart xs → (i j d : ℕ) → i < j → j < length xs → slice_index_or xs i d ≢ slice_index_or xs j d
pairs_apart [] apart i j d less within same = omega (arith, within)
pairs_apart (x ∷ xs) apart i zero d less within same = omega (arith, less)
pairs_apart (x ∷ xs) apart zero (suc j) d less within same = apart.0 (slice_index_or xs j d) (has_at xs j d (omega (arith, within))) (sym same)
pairs_apart (x ∷ xs) apart (suc i) (suc j) d less within same = pairs_apart xs apart.1 i j d (omega (arith, less)) (omega (arith, within)) same

module _ (count : ℕ) (small : count < 2 ^ 64) where
  abbrev packages : List ℕ
  packages = sorted_numbers (numbers_to count)

  sort : IsSortOf (numbers_to count) packages
  sort = is_sorted (numbers_to count) (numbers_small count small) (numbers_apart count)

  package_within : (number : ℕ) → Has packages number → (1 ≤ number) × (number ≤ count)
  package_within number has = number_within count number (sort.had number has)

  number_low : (number : ℕ) → Has (listed_numbers count) number → number ≤ count
  number_low number has =
      ⊎_elim
      (λ (there : Has packages number). (package_within number there).1)
      (λ (last : Has (0 ∷ []) number). ⊎_elim (λ (is : 0 ≡ number). omega (arith, is)) (λ none. absurd none) last)
      (has_either packages (0 ∷ []) number has)

  every : (number : ℕ) → number ≤ count → Has (listed_numbers count) number
  every zero low = has_second_part packages (0 ∷ []) 0 (inl refl)
  every (suc before) low = has_first_part packages (0 ∷ []) (suc before) (sort.has (suc before) (has_number count (suc before) (omega arith) low))

  apart : AreApart (listed_numbers count)
  apart = apart_more packages [] 0 (subst AreApart (sym (append-nil packages)) sort.apart) (λ has. let some = package_within 0 (subst (λ (xs : List ℕ). Has xs 0) (append-nil packages) has) in omega (arith, some.0))

  pub all_listed : AreAllNumbers count (listed_numbers count)
  all_listed = record {
    within = λ k d lt. number_low (slice_index_or (listed_numbers count) k d) (has_at (listed_numbers count) k d lt);
    distinct = pairs_apart (listed_numbers count) apart;
    every = λ number low. contains_had (listed_numbers count) number (every number low);
  }

  pub listed_count : length (listed_numbers count) ≡ count + 1
  listed_count = let sum : length (packages ++ 0 ∷ []) ≡ length packages + 1 = length-append packages (0 ∷ []) in omega (arith, sum, sort.count, count_of count)

  -- ## Its files

  own_paths : (numbers : List ℕ) → ((number : ℕ) → Has numbers number → 1 ≤ number) → map (file_in used_library listed_command) (map package_path numbers ++ bench_path ∷ []) ≡ map (numbered_file listed_command) (numbers ++ 0 ∷ [])
  own_paths [] some = refl
  own_paths (zero ∷ numbers) some = absurd (let one : 1 ≤ 0 = some 0 (inl refl) in omega (arith, one))
  own_paths (suc before ∷ numbers) some = ap (λ (files : List ProjectFile). numbered_file listed_command (suc before) ∷ files) (own_paths numbers (λ number has. some number (inr has)))

  pub found_project : (edited : ℕ) → 1 ≤ count → toml_project toml_text (listed_of (generated_files count edited)) ≡ Ok (numbered_project listed_command listed_simulator [] (listed_numbers count))
  found_project edited some =
      ap (toml_project toml_text) (listing count edited small)
      ∙ said_is (names_of packages) (map package_path packages ++ bench_path ∷ [])
      (matched packages (omega (arith, some, sort.count, count_of count)) (small_of (numbers_to count) packages sort.had (numbers_small count small)))
      ∙ ap (λ (files : List ProjectFile). Ok (record { files = files; simulator = listed_simulator; external = []; bodies = false; depends = []; listed = false })) (own_paths packages (λ number has. (package_within number has).0))
