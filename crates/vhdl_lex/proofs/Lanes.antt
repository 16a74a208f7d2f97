-- From the bits of 64 lanes to where runs of bytes stop.
use Rattle.std.proofs.Common.{◌≡◌, ℕ, ◌+◌, ◌-◌, ◌/◌, ◌%◌, ◌^◌, ◌<◌, ◌≤◌, Bool, true, false, not, cond, List, [], ◌∷◌, map, length, get_or, slice_index, replicate, Fits, w8, w64, inl, inr, refl, sym, ap, ap₂, ◌∙◌, subst, arith}
use Rattle.std.specs.Int.{bit_at, trailing_zeros}
use Rattle.std.proofs.Math.Nat.{div-le_self}
use Rattle.std.proofs.lemmas.Bool.{agree_below, agree_below_at, false≢true, not-true, not-false, cases_lt}
use Rattle.std.proofs.lemmas.List.{get_or-map, get_or_past, length-map}
use Rattle.std.proofs.lemmas.Nat.Bits.{bit_at-trailing_zeros}
use Rattle.std.proofs.lemmas.Simd.{map-map, mask_l-mod, mask_l-lt, bit_mask_l, length-chunk, get_or-chunk}
use lib.Lanes.{chunk, zip2, mask_l, top}
use lib.Pow.{shr-shr}
use Rattle.vhdl_lex.specs.Ends.{IsRunEnd, AreStops}

-- ## What is computed lane by lane

zip2-map : (h : ℕ → ℕ → ℕ) (f g : ℕ → ℕ) (xs : List ℕ) → zip2 h (map f xs) (map g xs) ≡ map (λ x. h (f x) (g x)) xs
zip2-map h f g [] = refl
zip2-map h f g (x ∷ xs) = ap (λ rest. h (f x) (g x) ∷ rest) (zip2-map h f g xs)

-- an operation on two vectors that were computed lane by lane from one
pub joined : (h : ℕ → ℕ → ℕ) (f g : ℕ → ℕ) (v : List ℕ) {a b : List ℕ} → a ≡ map f v → b ≡ map g v → zip2 h a b ≡ map (λ x. h (f x) (g x)) v
joined h f g v left right = ap₂ (zip2 h) left right ∙ zip2-map h f g v

pub splat_is : (v : List ℕ) (n y : ℕ) → length v ≡ n → replicate n y ≡ map (λ _. y) v
splat_is [] n y long = ap (λ k. replicate k y) (sym long)
splat_is (x ∷ xs) n y long = ap (λ k. replicate k y) (sym long) ∙ ap (λ rest. y ∷ rest) (splat_is xs (length xs) y refl)

-- ## Bits

one_true : (b : Bool) → ◌≡◌ {A = ℕ} (cond b 1 0) 1 → b ≡ true
one_true true is = refl
one_true false is = let no : ⊥ = omega arith in absurd no

zero_false : (b : Bool) → ◌≡◌ {A = ℕ} (cond b 1 0) 0 → b ≡ false
zero_false true is = let no : ⊥ = omega arith in absurd no
zero_false false is = refl

module _ (test : ℕ → Bool) (text : List ℕ) (base stops : ℕ) (ms : List Bool) (room : base + 64 ≤ length text) (long : length ms ≡ 64) (is : stops ≡ mask_l ms) (each : (i : ℕ) → i < 64 → get_or ms i false ≡ not (test (slice_index text (base + i)))) where
  small : stops < 2 ^ 64
  small = subst (λ (n : ℕ). n < 2 ^ 64) (sym is) (subst (λ (n : ℕ). mask_l ms < 2 ^ n) long (mask_l-lt ms))

  module _ (k : ℕ) (some : 0 < stops / 2 ^ k) where
    abbrev rest : ℕ
    rest = stops / 2 ^ k

    abbrev offset : ℕ
    offset = trailing_zeros w64 rest

    rest_small : rest < 2 ^ 64
    rest_small = omega (arith, small, div-le_self stops (2 ^ k))

    lowest : (offset < 64) × (bit_at rest offset ≡ 1) × ((i : ℕ) → i < offset → bit_at rest i ≡ 0)
    lowest = bit_at-trailing_zeros w64 rest some rest_small

    bit : (i : ℕ) → bit_at rest i ≡ cond (get_or ms (k + i) false) 1 0
    bit i = ap (λ (n : ℕ). n % 2) (shr-shr stops k i) ∙ ap (λ (n : ℕ). bit_at n (k + i)) is ∙ bit_mask_l ms (k + i)

    is_set : get_or ms (k + offset) false ≡ true
    is_set = one_true _ (sym (bit offset) ∙ lowest.1)

    is_near : k + offset < 64
    is_near = elim (cases_lt (k + offset) 64) [
      | inl near ↦ near
      | inr far ↦ let none : get_or ms (k + offset) false ≡ false = get_or_past ms (k + offset) false (omega (arith, long)) in absurd (false≢true (sym none ∙ is_set))
    ]

    stops_there : test (slice_index text (base + (k + offset))) ≡ false
    stops_there = not-true _ (sym (each (k + offset) is_near) ∙ is_set)

    passes_before : (i : ℕ) → i < offset → test (slice_index text (base + (k + i))) ≡ true
    passes_before i below = not-false _ (sym (each (k + i) (omega (arith, is_near))) ∙ zero_false _ (sym (bit i) ∙ lowest.2 i below))

    runs : IsRunEnd test text (base + k) (base + (k + offset))
    runs = record {
      reaches = omega arith;
      within = omega (arith, is_near);
      each = λ at from below.
          let back : base + (k + (at - (base + k))) ≡ at = omega arith in
          subst (λ (n : ℕ). test (slice_index text n) ≡ true) back (passes_before (at - (base + k)) (omega arith));
      stops = λ _. stops_there;
    }

  are_stops : AreStops test text base stops
  are_stops from end ordered found =
      let here : base + (from - base) ≡ from = omega arith in
      let there : base + (from - base + trailing_zeros w64 (stops / 2 ^ (from - base))) ≡ end = omega (arith, found.there) in
      subst (λ (n : ℕ). IsRunEnd test text n end) here (subst (λ (n : ℕ). IsRunEnd test text (base + (from - base)) n) there (runs (from - base) found.some))

-- a lane stops just where the test fails
pub by_lanes : (test : ℕ → Bool) (text : List ℕ) (base stops : ℕ) (z : List ℕ) (f : ℕ → ℕ) → base + 64 ≤ length text → ((k : ℕ) → Fits w8 (get_or text k 0)) → stops ≡ mask_l (map (top 7) z) % 2 ^ 64 → z ≡ map f (chunk base 64 text) → agree_below (λ x. top 7 (f x)) (λ x. not (test x)) 256 ≡ true → AreStops test text base stops
by_lanes test text base stops z f room fits is lanes all =
    let stop : ℕ → Bool = λ x. top 7 (f x) in
    let v = chunk base 64 text in
    let long = length-chunk base 64 text room in
    let mask = ap (λ l. mask_l l % 2 ^ 64) (ap (map (top 7)) lanes ∙ map-map (top 7) f v) ∙ mask_l-mod (map stop v) 64 (omega (arith, length-map v stop, long)) in
    are_stops test text base stops (map stop v) room (length-map v stop ∙ long) (is ∙ mask)
    (λ i below. get_or-map stop v i 0 false (omega (arith, long)) ∙ ap stop (get_or-chunk base 64 text i 0 below) ∙ agree_below_at stop (λ x. not (test x)) 256 (get_or text (base + i) 0) all (fits (base + i)).fits)
