-- The files that the edit of a package touches, by their numbers.
use Rattle.std.specs.Prelude.{ℕ, zero, suc, ◌+◌, ◌/◌, ◌==◌, ◌&&◌, ◌||◌, Bool, if◌then◌else◌, nat_lt, count_by}
use Rattle.base.specs.PresentGraph.{below}
use Rattle.generated_sources.specs.NumberedFiles.{is_bench_number}

-- a file uses another one: each but the first package does
abbrev pub has_used : ℕ → Bool
has_used number = is_bench_number number || nat_lt 1 number

-- the number of the package that a file uses
abbrev pub used_of : ℕ → ℕ
used_of number = if is_bench_number number then 1 else number / 2

-- a file is the edited package's, or reaches it by a chain of at most `steps` uses
unfoldable pub comes_to : (steps : ℕ) → (edited number : ℕ) → Bool
comes_to zero edited number = number == edited
comes_to (suc steps) edited number = number == edited || (has_used number && comes_to steps edited (used_of number))

-- how many of the bench and `count` packages come to the edited package; `count` steps are always enough
abbrev pub touched_numbers : (count edited : ℕ) → ℕ
touched_numbers count edited = count_by (comes_to count edited) (below (count + 1))
