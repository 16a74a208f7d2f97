-- The bytes of a side of payloads: how many they are, that they are live, and their generation.
use Rattle.std.proofs.Common.{◌≡◌, ℕ, ◌+◌, ◌<◌, ◌^◌, true, nat_le, List, [], ◌∷◌, length, take, drop, bytes_eq, refl, ap, ◌∙◌, arith, length-append}
use Rattle.std.specs.List.{flat_map}
use Rattle.std.specs.Int.{w64, from_le_bytes, to_le_bytes}
use Rattle.std.proofs.lemmas.Bool.Decides.{nat_tests}
use Rattle.std.proofs.lemmas.Nat.{from_le_bytes-to_le_bytes_8}
use Rattle.std.proofs.lemmas.Slice.Eq.{bytes_eq-Decides}
use Rattle.store_journal.specs.Payloads.{magic, is_live, generation_of, block, header, side_bytes}

pub side_length : (form generation : ℕ) (ps : List (List ℕ)) → length (side_bytes form generation ps) ≡ 19 + length (flat_map block ps)
unfolding side_bytes header
side_length form generation ps = omega (arith, length-append (flat_map block ps) (0 ∷ []))

pub side_live : (form generation : ℕ) (ps : List (List ℕ)) → is_live form (side_bytes form generation ps) ≡ true
unfolding is_live side_bytes header
side_live form generation ps =
    let long : nat_le 19 (length (side_bytes form generation ps)) ≡ true = grind (arith, nat_tests, side_length form generation ps) in
    let starts : bytes_eq (take 10 (side_bytes form generation ps)) (magic form) ≡ true = (bytes_eq-Decides (magic form) (magic form)).1 refl in
    rw (long, starts) refl

pub side_generation : (form generation : ℕ) (ps : List (List ℕ)) → generation < 2 ^ 64 → generation_of (side_bytes form generation ps) ≡ generation
unfolding generation_of side_bytes header
side_generation form generation ps below =
    let after : take 8 (drop 10 (side_bytes form generation ps)) ≡ to_le_bytes w64 generation = refl in
    ap (from_le_bytes w64) after ∙ from_le_bytes-to_le_bytes_8 generation below
