-- What is read of the generated project.
use Rattle.std.proofs.Common.{◌≡◌, ℕ, ◌+◌, ◌^◌, ◌<◌, ◌≤◌, true, false, List, [], ◌∷◌, ◌++◌, length, map, Some, Option, refl, ap, ◌∙◌, arith, length-append}
use Rattle.std.specs.Prelude.{nat_le, codes, Ok}
use Rattle.std.specs.List.{AllByRecursion}
use Rattle.std.proofs.lemmas.Bool.{cond-true, le-leb}
use Rattle.std.proofs.lemmas.List.{length-map}
use Rattle.std.proofs.lemmas.List.Elements.{recursion_from_All}
use Rattle.base_outcomes.specs.declared.bench.Bench.{Bench}
use Rattle.base.specs.declared.limits.TheConstants.{FILE_LIMIT, NAME_LIMIT, TEXT_LIMIT}
use Rattle.memory_outside.specs.Trees.{file_at, listed_of}
use Rattle.order.specs.BuildOrder.{FileOrder, Ordered, file_order}
use Rattle.outside.specs.Trees.{read_end}
use Rattle.outside.specs.declared.tree.NamesEnd.TheVariants as names
use Rattle.outside.specs.declared.tree.ReadEnd.TheVariants as read
use Rattle.vhdl_spec.specs.Scans.{Finding, IsScanner}
use Rattle.project_file.specs.Csv.{listed_command, listed_simulator}
use Rattle.project_reading.specs.Reading.{Found, linked_or, linked_reading, links_of, order_or, order_reading, ordered_reading, project_in, project_or, project_reading, project_said, scanned_reading, sources_reading, texts_of, texts_reading, then_read, toml_said, wanted_tests}
use Rattle.project_reading.specs.Queries.{wants_tests}
use Rattle.project_reading.specs.declared.query.QueryKind.TheVariants.{Graph}
use Rattle.project_reading.specs.declared.query.Query.{Query}
use Rattle.generated_project.specs.Files.{bench_path, generated_files, package_path, toml_path, toml_text}
use Rattle.generated_sources.proofs.Linked.{all_numbers, links_are}
use Rattle.generated_sources.proofs.Orders.{has_order}
use Rattle.generated_sources.specs.NumberedFiles.{numbered_edges, numbered_file}
use Rattle.generated_sources.proofs.FoundProject.{all_listed, found_project, listed_count}
use Rattle.generated_sources.proofs.Listed.{listing}
use Rattle.generated_sources.specs.ListedNumbers.{listed_numbers, numbers_to, sorted_numbers}
use Rattle.generated_laws.proofs.ReadTexts.{all_scans, all_texts}
use Rattle.generated_laws.specs.ReadFiles.{found_links, read_graph, read_project, read_scans, read_texts}

toml_short : nat_le (length toml_text) TEXT_LIMIT ≡ true
unfolding toml_text
toml_short = refl

module _ (count edited : ℕ) (some : 1 ≤ count) (low : count ≤ 4095) where
  small : count < 2 ^ 64
  small = omega (arith, low)

  abbrev file : List ℕ → Option (List ℕ)
  file = file_at (generated_files count edited)

  abbrev listed : List (List ℕ)
  listed = listed_of (generated_files count edited)

  -- ## The project

  toml_found : file (codes "vunit.toml") ≡ Some toml_text
  unfolding toml_path
  toml_found = refl

  few_names : length listed ≤ NAME_LIMIT
  few_names =
      let packages : length (sorted_numbers (numbers_to count) ++ 0 ∷ []) ≡ length (sorted_numbers (numbers_to count)) + 1 = length-append (sorted_numbers (numbers_to count)) (0 ∷ []) in
      let all : length (listed_numbers count) ≡ count + 1 = listed_count count small in
      let paths : length (map package_path (sorted_numbers (numbers_to count))) ≡ length (sorted_numbers (numbers_to count)) = length-map (sorted_numbers (numbers_to count)) package_path in
      let sum : length (map package_path (sorted_numbers (numbers_to count)) ++ bench_path ∷ toml_path ∷ []) ≡ length (map package_path (sorted_numbers (numbers_to count))) + 2 = length-append (map package_path (sorted_numbers (numbers_to count))) (bench_path ∷ toml_path ∷ []) in
      let is : length listed ≡ length (map package_path (sorted_numbers (numbers_to count)) ++ bench_path ∷ toml_path ∷ []) = ap (λ (paths : List (List ℕ)). length paths) (listing count edited small) in
      omega (arith, packages, all, paths, sum, is, low)

  project_is : project_in file listed ≡ Ok (read_project count)
  unfolding project_in
  project_is =
      ap (λ (one : Option (List ℕ)). project_said file listed (read_end one TEXT_LIMIT)) toml_found
      ∙ ap (project_said file listed) (cond-true (nat_le (length toml_text) TEXT_LIMIT) (read.Got toml_text) read.TooLong toml_short)
      ∙ ap (toml_said toml_text) (cond-true (nat_le (length listed) NAME_LIMIT) (names.Got listed) names.TooMany (le-leb (length listed) NAME_LIMIT few_names))
      ∙ ap project_or (found_project count small edited some)

  -- ## Texts and scans

  numbers_low : AllByRecursion (λ n. n ≤ count) (listed_numbers count)
  numbers_low = recursion_from_All (λ n. n ≤ count) (listed_numbers count) (all_listed count small).within

  numbers_small : AllByRecursion (λ n. n < 2 ^ 64) (listed_numbers count)
  numbers_small = recursion_from_All (λ n. n < 2 ^ 64) (listed_numbers count) (λ k d within. let at = (all_listed count small).within k d within in omega (arith, at, small))

  texts_are : texts_of file 0 (read_project count).files ≡ Ok (read_texts count edited)
  texts_are = all_texts count edited listed_command small 0 (listed_numbers count) numbers_low (omega (arith, listed_count count small, low))

  few_files : length (read_project count).files ≤ FILE_LIMIT
  few_files = let same : length (map (numbered_file listed_command) (listed_numbers count)) ≡ length (listed_numbers count) = length-map (listed_numbers count) (numbered_file listed_command) in omega (arith, same, listed_count count small, low)

  links_found : links_of (read_project count) (read_texts count edited) (read_scans count edited) ≡ Ok (found_links count)
  links_found = ap linked_or (links_are listed_command listed_simulator [] edited (listed_numbers count) (all_numbers count (listed_numbers count) some small (all_listed count small)))

  pub some_order : (order : List ℕ) × (file_order (numbered_edges (listed_numbers count)) ≡ Ordered order)
  some_order = has_order (listed_numbers count) (omega (arith, listed_count count small, low))

  -- ## All

  scanned_is : (query : Query) (order : List ℕ) (tests : List Bench) → file_order (numbered_edges (listed_numbers count)) ≡ Ordered order → wanted_tests (wants_tests query.query_kind) (read_project count) (read_texts count edited) (read_scans count edited) ≡ Ok tests →
      scanned_reading query (read_project count) (read_texts count edited) (read_scans count edited) ≡ ordered_reading query (read_project count) (read_texts count edited) (read_scans count edited) (found_links count) order tests
  unfolding scanned_reading
  scanned_is query order tests ordered wanted =
      ap (then_read (linked_reading query (read_project count) (read_texts count edited) (read_scans count edited))) links_found
      ∙ ap (λ (said : FileOrder). then_read (order_reading query (read_project count) (read_texts count edited) (read_scans count edited) (found_links count)) (order_or (read_project count).files said)) ordered
      ∙ ap (then_read (ordered_reading query (read_project count) (read_texts count edited) (read_scans count edited) (found_links count) order)) wanted

  pub reading_is : (scan : List ℕ → Finding) (query : Query) (order : List ℕ) (tests : List Bench) → IsScanner scan → file_order (numbered_edges (listed_numbers count)) ≡ Ordered order → wanted_tests (wants_tests query.query_kind) (read_project count) (read_texts count edited) (read_scans count edited) ≡ Ok tests →
      project_reading scan file listed query ≡ ordered_reading query (read_project count) (read_texts count edited) (read_scans count edited) (found_links count) order tests
  unfolding project_reading
  reading_is scan query order tests scans ordered wanted =
      ap (then_read (sources_reading query scan file)) project_is
      ∙ cond-true (nat_le (length (read_project count).files) FILE_LIMIT) (then_read (texts_reading query scan (read_project count)) (texts_of file 0 (read_project count).files)) _ (le-leb (length (read_project count).files) FILE_LIMIT few_files)
      ∙ ap (then_read (texts_reading query scan (read_project count))) texts_are
      ∙ ap (then_read (scanned_reading query (read_project count) (read_texts count edited))) (all_scans scan edited listed_command scans (listed_numbers count) numbers_small)
      ∙ scanned_is query order tests ordered wanted

  none_wanted : wanted_tests false (read_project count) (read_texts count edited) (read_scans count edited) ≡ Ok []
  unfolding wanted_tests
  none_wanted = refl

  pub graph_is : (scan : List ℕ → Finding) (patterns : List (List ℕ)) (order : List ℕ) → IsScanner scan → file_order (numbered_edges (listed_numbers count)) ≡ Ordered order →
      project_reading scan file listed (record { query_kind = Graph; patterns = patterns }) ≡ Found (record { project = read_project count; graph = read_graph count edited order; warnings = []; tests = [] })
  graph_is scan patterns order scans ordered = reading_is scan (record { query_kind = Graph; patterns = patterns }) order [] scans ordered none_wanted
