-- The files of the generated project in the order in which they are listed, each by its number: the packages in the order of
-- their paths, and then the bench.
use Rattle.std.specs.Prelude.{ℕ, ◌+◌, List, [], ◌∷◌, ◌++◌, map}
use Rattle.std.specs.BTreeSet.{insert_key}
use Rattle.std.specs.Cmp.Lexicographic.{slice_cmp}
use Rattle.std.specs.Ordering.{nat_cmp}
use Rattle.std.specs.declared.cmp.Ordering.{Ordering}
use Rattle.base.specs.PresentGraph.{below}
use Rattle.generated_project.specs.Files.{package_path}

-- numbers are compared by the paths of their packages
abbrev pub by_path : ℕ → ℕ → Ordering
by_path a b = slice_cmp nat_cmp (package_path a) (package_path b)

-- numbers in the order of these paths
abbrev pub sorted_numbers : List ℕ → List ℕ
sorted_numbers [] = []
sorted_numbers (number ∷ numbers) = insert_key by_path (sorted_numbers numbers) number

-- the numbers from 1 on
abbrev pub numbers_to : ℕ → List ℕ
numbers_to count = map (λ before. before + 1) (below count)

-- the numbers of `count` packages in the order of their paths, and then 0 for the bench
abbrev pub listed_numbers : (count : ℕ) → List ℕ
listed_numbers count = sorted_numbers (numbers_to count) ++ 0 ∷ []
