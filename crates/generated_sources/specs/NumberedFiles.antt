-- The generated project with its files in any order. A file is named by a number: that of its package, or 0 for the bench.
use Rattle.std.specs.Prelude.{◌≡◌, ◌≢◌, zero, suc, ℕ, ◌/◌, ◌^◌, ◌<◌, ◌≤◌, ◌==◌, ◌&&◌, nat_lt, Bool, true, false, if◌then◌else◌, List, [], ◌++◌, length, map, filter, slice_index, All, AllPairs, Contains}
use Rattle.base.specs.declared.design.Scan.{Scan}
use Rattle.base.specs.declared.graph.Entry.{Entry}
use Rattle.base.specs.declared.project.Project.{Project}
use Rattle.base.specs.declared.project.ProjectFile.{ProjectFile}
use Rattle.base.specs.PresentGraph.{below}
use Rattle.order.specs.LinkedGraph.{linked}
use Rattle.generated_project.specs.Files.{bench_body, bench_head, bench_path, package_path, package_text}
use Rattle.generated_sources.specs.BenchScans.{bench_scan}
use Rattle.generated_sources.specs.PackageLinks.{used_library}
use Rattle.generated_sources.specs.PackageScans.{package_scan}

-- ## Files

-- 0 names the bench, and each other number a package
abbrev pub is_bench_number : ℕ → Bool
is_bench_number zero = true
is_bench_number (suc before) = false

-- the bytes of the path of the bench or of a package
abbrev pub numbered_path : ℕ → List ℕ
numbered_path number = if is_bench_number number then bench_path else package_path number

-- a file of the library `lib`, by its number, with the words of its compiler
abbrev pub numbered_file : (command : List (List ℕ)) → ℕ → ProjectFile
numbered_file command number = record { name = record { library = used_library; path = numbered_path number }; command = command }

-- the text of a file, where that of a number is edited
abbrev pub numbered_bytes : (edited : ℕ) → ℕ → List ℕ
numbered_bytes edited number = if is_bench_number number then bench_head ++ bench_body else package_text number (number == edited)

-- what a scanner finds in a file, where the package of one number is edited
abbrev pub numbered_scan : (edited : ℕ) → ℕ → Scan
numbered_scan edited number = if is_bench_number number then bench_scan else package_scan number (number == edited)

-- the project of files of these numbers, in this order: it names no dependency itself
abbrev pub numbered_project : (command simulator external : List (List ℕ)) → List ℕ → Project
numbered_project command simulator external numbers = record {
  files = map (numbered_file command) numbers;
  simulator = simulator;
  external = external;
  bodies = false;
  depends = [];
  listed = false;
}

-- ## What depends on what

-- the bench uses the first package, and each other package that of half its number
abbrev pub uses_number : (user used : ℕ) → Bool
uses_number user used = if is_bench_number user then used == 1 else nat_lt 1 user && used == user / 2

-- distinct numbers, with those of all files that are used
pub record AreNumbers (numbers : List ℕ) : Type 0 where
  pub small : All (λ number. number < 2 ^ 64) numbers
  pub distinct : AllPairs (λ number other. number ≢ other) numbers
  pub closed : (user used : ℕ) → Contains numbers user → uses_number user used ≡ true → Contains numbers used

-- the numbers from 0 to `count`, each once: 0 for the bench, and the others for the packages
pub record AreAllNumbers (count : ℕ) (numbers : List ℕ) : Type 0 where
  pub within : All (λ number. number ≤ count) numbers
  pub distinct : AllPairs (λ number other. number ≢ other) numbers
  pub every : (number : ℕ) → number ≤ count → Contains numbers number

-- the file at a position uses that at another
abbrev pub uses_at : List ℕ → (user used : ℕ) → Bool
uses_at numbers user used = uses_number (slice_index numbers user) (slice_index numbers used)

-- for each file the positions of the files that it uses, in ascending order
abbrev pub numbered_edges : List ℕ → List (List ℕ)
numbered_edges numbers = map (λ user. filter (uses_at numbers user) (below (length numbers))) (below (length numbers))

-- the graph of the files in an order, where the package of a number is edited, or none
abbrev pub numbered_graph : (command : List (List ℕ)) → (edited : ℕ) → (numbers order : List ℕ) → List Entry
numbered_graph command edited numbers order = linked (map (numbered_file command) numbers) (map (numbered_bytes edited) numbers) (numbered_edges numbers) order
