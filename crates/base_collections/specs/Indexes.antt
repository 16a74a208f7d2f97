-- Fingerprints by number, and the numbers that have a fingerprint.
use Rattle.std.specs.Prelude.{◌≡◌, ◌≢◌, ℕ, ◌<◌, List, length, map, slice_index, slice_index_or, Option, Some, None}
use Rattle.base_collections.specs.declared.fingerprint_index.Fingerprinted.{Fingerprinted}

-- fingerprints in order, and for how many more there is room
pub record FingerprintList : Type 0 where
  pub fingerprints : List ℕ
  pub room : ℕ

-- the last number below a bound that has a fingerprint
abbrev pub IsLastWith : List ℕ → ℕ → ℕ → Option ℕ → Type 0
IsLastWith fingerprints fingerprint bound None = (k : ℕ) → k < bound → slice_index fingerprints k ≢ fingerprint
IsLastWith fingerprints fingerprint bound (Some n) = (n < bound) × (slice_index fingerprints n ≡ fingerprint) × ((k : ℕ) → n < k → k < bound → slice_index fingerprints k ≢ fingerprint)

-- the fingerprint of each entry
abbrev pub fingerprints_in : List Fingerprinted → List ℕ
fingerprints_in entries = map (λ entry. entry.fingerprint) entries

-- the last number of each fingerprint, and the one before it of each number
pub record AreIndexed (last_of : ℕ → Option ℕ) (entries : List Fingerprinted) : Type 0 where
  pub last : (fingerprint : ℕ) → IsLastWith (fingerprints_in entries) fingerprint (length (fingerprints_in entries)) (last_of fingerprint)
  pub earlier : (n : ℕ) (other : Fingerprinted) → n < length (fingerprints_in entries) → IsLastWith (fingerprints_in entries) (slice_index (fingerprints_in entries) n) n (slice_index_or entries n other).earlier
