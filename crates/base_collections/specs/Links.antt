-- Which splits leave a number, in order.
use Rattle.std.specs.Prelude.{◌≡◌, ◌≢◌, ℕ, suc, ◌<◌, ◌≤◌, List, length, map, slice_index, slice_index_or, Option, Some, None}
use Rattle.base_collections.specs.declared.splits.Split.{Split}

-- splits in order, and for how many more there is room
pub record SplitList : Type 0 where
  pub splits : List Split
  pub room : ℕ

-- the first number from a bound on whose split leaves a number
abbrev pub IsFirstFrom : List ℕ → ℕ → ℕ → Option ℕ → Type 0
IsFirstFrom ofs number bound None = (k : ℕ) → bound ≤ k → k < length ofs → slice_index ofs k ≢ number
IsFirstFrom ofs number bound (Some i) = (bound ≤ i) × ((i < length ofs) × ((slice_index ofs i ≡ number) × ((k : ℕ) → bound ≤ k → k < i → slice_index ofs k ≢ number)))

-- the last number after a number whose split leaves it
abbrev pub IsLastAfter : List ℕ → ℕ → Option ℕ → Type 0
IsLastAfter ofs number None = (k : ℕ) → number < k → k < length ofs → slice_index ofs k ≢ number
IsLastAfter ofs number (Some i) = (number < i) × ((i < length ofs) × ((slice_index ofs i ≡ number) × ((k : ℕ) → i < k → k < length ofs → slice_index ofs k ≢ number)))

-- the first split that leaves each number, and the one after each split that leaves the same number
pub record AreChained (ofs : List ℕ) (firsts nexts : List (Option ℕ)) : Type 0 where
  pub firsts_are : length firsts ≡ length ofs
  pub nexts_are : length nexts ≡ length ofs
  pub before : (k : ℕ) → 0 < k → k < length ofs → slice_index ofs k < k
  pub first : (n : ℕ) → n < length ofs → IsFirstFrom ofs n (suc n) (slice_index_or firsts n None)
  pub next : (k : ℕ) → 0 < k → k < length ofs → IsFirstFrom ofs (slice_index ofs k) (suc k) (slice_index_or nexts k None)

-- the first and the last split that leaves each number, and the one after each that leaves the same number
pub record AreLinked (ofs : List ℕ) (firsts nexts lasts : List (Option ℕ)) : Type 0 where
  pub chained : AreChained ofs firsts nexts
  pub lasts_are : length lasts ≡ length ofs
  pub last : (n : ℕ) → n < length ofs → IsLastAfter ofs n (slice_index_or lasts n None)

-- the numbers that splits leave
abbrev pub left_numbers : List Split → List ℕ
left_numbers splits = map (λ split. split.of) splits
