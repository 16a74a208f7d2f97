-- The words of a row, however they are kept.
use Rattle.std.specs.Prelude.{◌≡◌, ◌≢◌, ℕ, zero, suc, ◌<◌, ◌≤◌, Bool, true, false, List, [], ◌∷◌, ◌++◌, bit_or, if◌then◌else◌, nat_lt}
use Rattle.vhdl_scope.specs.declared.row.Run.{Run}
use Rattle.vhdl_scope.specs.declared.row.Runs.{Runs}
use Rattle.vhdl_scope.specs.declared.row.Runs.TheVariants.{One, Many}

-- the word at an index: that of the first run that ends past it, or `none` if no run does
unfoldable pub word_or : ℕ → List Run → ℕ → ℕ
word_or none [] at = none
word_or none (run ∷ rest) at = if nat_lt at run.end then run.word else word_or none rest at

-- the first values of a function
unfoldable pub values : (ℕ → ℕ) → ℕ → List ℕ
values f zero = []
values f (suc count) = values f count ++ f count ∷ []

-- a row of `words` words, spelled by runs
unfoldable pub row_words : ℕ → List Run → List ℕ
row_words words runs = values (word_or 0 runs) words

-- the runs of a row, however they are kept
unfoldable pub runs_of : Runs → List Run
runs_of (One run) = run
runs_of (Many runs) = runs.items

-- runs tell the words before an index, and none from there on
pub record AreRunsTo (end : ℕ) (word : ℕ → ℕ) (runs : List Run) : Type 0 where
  pub told : (none at : ℕ) → at < end → word_or none runs at ≡ word at
  pub past : (none at : ℕ) → end ≤ at → word_or none runs at ≡ none

-- the runs before one end at an index or before it
abbrev pub ArePassed : ℕ → List Run → List Run → Type 0
ArePassed at runs rest = (row_index : ℕ) → at ≤ row_index → word_or 0 rest row_index ≡ word_or 0 runs row_index

-- the bits of both words at an index
abbrev pub both_words : List Run → List Run → ℕ → ℕ
both_words first second at = bit_or (word_or 0 first at) (word_or 0 second at)

-- an index where the second runs have a bit that the first ones don't have
pub record HasMore (end : ℕ) (first second : List Run) : Type 0 where
  pub at : ℕ
  pub below : at < end
  pub differs : both_words first second at ≢ word_or 0 first at

-- runs have the bits of two rows in the words before an index; and whether these are more than those of the first row
pub record AreMergedTo (end : ℕ) (first second merged : List Run) (grown : Bool) : Type 0 where
  pub runs : AreRunsTo end (both_words first second) merged
  pub fit : (at : ℕ) → at < end → both_words first second at < 18446744073709551616
  pub same : grown ≡ false → (at : ℕ) → at < end → both_words first second at ≡ word_or 0 first at
  pub more : grown ≡ true → HasMore end first second
