-- The lines that a run prints about the generated project after both builds.
use Rattle.std.specs.Prelude.{ℕ, List, [], ◌∷◌, ◌++◌, codes}
use Rattle.std.specs.Fmt.{decimal}
use Rattle.generated_project.specs.declared.lines.Counts.{Counts}

-- before the number of files
unfoldable pub files_words : List ℕ
files_words = codes "files "

-- before the number of files that the first build compiled
unfoldable pub first_words : List ℕ
first_words = codes "first build compiled "

-- before the number of files that the second build compiled
unfoldable pub second_words : List ℕ
second_words = codes "second build compiled "

-- before the number of cases that passed
unfoldable pub passed_words : List ℕ
passed_words = codes "tests passed "

-- between the number of cases that passed and the number of all
unfoldable pub of_word : List ℕ
of_word = codes " of "

-- a number after its words, as a line
abbrev pub number_line : List ℕ → ℕ → List ℕ
number_line words number = words ++ (decimal number ++ 10 ∷ [])

-- how many cases of all have passed
abbrev pub passed_line : (passed : ℕ) → (total : ℕ) → List ℕ
passed_line passed total = passed_words ++ (decimal passed ++ (of_word ++ (decimal total ++ 10 ∷ [])))

-- the four lines: how many files there are, how many of them each build compiled, and how many cases have passed
abbrev pub count_lines : Counts → List ℕ
count_lines counts = number_line files_words counts.files ++ (number_line first_words counts.first ++ (number_line second_words counts.second ++ passed_line counts.passed counts.total))
