-- How texts are told apart: each text but the first one leaves an earlier one at a point where the two differ.
use Rattle.std.specs.Prelude.{◌≡◌, ◌≢◌, ℕ, suc, ◌%◌, ◌/◌, ◌<◌, nat_lt, Bool, not, ◌&&◌, ◌==◌, List, [], ◌∷◌, length, slice_index, slice_index_or, if◌then◌else◌}
use Rattle.base_collections.specs.declared.splits.Split.{Split}

-- the half byte of a text at a point, the low half of each byte first, and 16 past its end
unfoldable pub value_at : List ℕ → ℕ → ℕ
value_at text point = if nat_lt (point / 2) (length text) then (if point % 2 == 0 then slice_index text (point / 2) % 16 else slice_index text (point / 2) / 16) else 16

-- where a text goes on at the split of a number: to this number, where it has another value there than the text that it is at
abbrev pub turned : ℕ → Split → List ℕ → ℕ → ℕ
turned number split text now = if now == split.of && not (value_at text split.point == split.value) then number else now

-- the number that a text comes to by splits, the first of which has a number
unfoldable pub reached_from : ℕ → List Split → List ℕ → ℕ → ℕ
reached_from number [] text now = now
reached_from number (split ∷ splits) text now = reached_from (suc number) splits text (turned number split text now)

-- the number that a text comes to from the first one on: the only one that it can have
abbrev pub reached : List Split → List ℕ → ℕ
reached splits text = reached_from 0 splits text 0

-- each text comes to its own number, so that a walk leads to the only text that can be equal
pub record AreSplit (texts : List (List ℕ)) (splits : List Split) : Type 0 where
  pub as_many : length splits ≡ length texts
  pub each : (n : ℕ) (other : List ℕ) → n < length texts → reached splits (slice_index_or texts n other) ≡ n

-- a split tells two texts apart: the old one has its value at its point, and the new one hasn't
pub record Parts (old new : List ℕ) (split : Split) : Type 0 where
  pub old_has : value_at old split.point ≡ split.value
  pub new_lacks : value_at new split.point ≢ split.value
