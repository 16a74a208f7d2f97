-- Numbers at rising locations among others, one after the other.
use Rattle.std.proofs.Common.{◌≡◌, ◌≢◌, ℕ, zero, suc, ◌+◌, ◌<◌, ◌≤◌, List, length, map, get_or, Some, refl, sym, ap, ◌∙◌, arith, inl, inr}
use Rattle.std.specs.Prelude.{AllPairs, Contains, slice_get}
use Rattle.std.proofs.lemmas.Bool.{cases_lt}
use Rattle.std.proofs.lemmas.List.{get_or-map, get_or_default, length-map}
use Rattle.std.proofs.lemmas.Option.{get_or_from_slice_get, slice_get_within}
use Rattle.base.specs.View.{rank_in}
use Rattle.store_form_2.specs.Fitting.{IsListed}
use Rattle.store_form_2.specs.Nodes.{AreOnce}
use Rattle.store_form_2.proofs.Closed.{found_at, rank_at}
use Rattle.store_form_2.proofs.Nodes.{one_location}
use Rattle.store_form_2.specs.Fits.{AreLocated}

pub are_once : {X : Type 0} (xs : List X) → AllPairs (λ a b. a ≢ b) xs → AreOnce xs
are_once xs once i j d l m e = one_location xs i j d once l m e

pub found : (numbers : List ℕ) (number location : ℕ) → AllPairs (λ a b. a ≢ b) numbers → slice_get numbers location ≡ Some number → rank_in numbers number ≡ location
found numbers number location once at =
    let low : location < length numbers = slice_get_within numbers location number at in
    let here : get_or numbers location 0 ≡ number = get_or_from_slice_get numbers location number 0 at in
    ap (rank_in numbers) (sym here) ∙ rank_at numbers (are_once numbers once) location low

pub absent : (numbers : List ℕ) (number : ℕ) → ¬ Contains numbers number → length numbers ≤ rank_in numbers number
absent numbers number none =
    elim (cases_lt (rank_in numbers number) (length numbers)) [
      | inl a ↦ absurd (none (rank_in numbers number, a, get_or_default numbers (rank_in numbers number) number 0 a ∙ found_at numbers number a))
      | inr a ↦ a
    ]

module _ (deps : List ℕ) (count : ℕ) (inner : List ℕ) where
  location_at_map : (i d : ℕ) → i < length inner → get_or (map (rank_in deps) inner) i d ≡ rank_in deps (get_or inner i 0)
  location_at_map i d l = get_or-map (rank_in deps) inner i 0 d l

  -- what is not at a rising location below the count is not listed
  pub too_high : (i : ℕ) → i < length inner → count ≤ rank_in deps (get_or inner i 0) → ¬ (IsListed deps count inner)
  too_high i l high listed = omega (arith, listed.before i 0 (omega (arith, length-map inner (rank_in deps))), location_at_map i 0 l, high)

  pub too_low : (i least : ℕ) → i < length inner → AreLocated deps count inner i least → rank_in deps (get_or inner i 0) < least → ¬ (IsListed deps count inner)
  too_low zero least l located low listed = omega (arith, located.none refl, low)
  too_low (suc j) least l located low listed =
      let rises = listed.rising j (omega (arith, length-map inner (rank_in deps))) in
      let at : get_or inner (j + 1) 0 ≡ get_or inner (suc j) 0 = ap (λ (n : ℕ). get_or inner n 0) (omega arith) in
      let low_next : rank_in deps (get_or inner (j + 1) 0) < least = rw at low in
      omega (arith, located.next j (omega arith), rises, location_at_map j 0 (omega arith), location_at_map (j + 1) 0 (omega arith), low_next)

  pub one_more : (i least location : ℕ) → AreLocated deps count inner i least → rank_in deps (get_or inner i 0) ≡ location → least ≤ location → location < count → AreLocated deps count inner (i + 1) (location + 1)
  one_more i least location located at low high = record {
    rising = λ j l.
        elim (cases_lt (j + 1) i) [
          | inl a ↦ located.rising j a
          | inr a ↦ let end : j + 1 ≡ i = omega arith in
              let here : rank_in deps (get_or inner (j + 1) 0) ≡ location = ap (λ (n : ℕ). rank_in deps (get_or inner n 0)) end ∙ at in
              omega (arith, located.next j end, here, low)
        ];
    before = λ j l.
        elim (cases_lt j i) [
          | inl a ↦ located.before j a
          | inr a ↦ let end : j ≡ i = omega arith in
              let here : rank_in deps (get_or inner j 0) ≡ location = ap (λ (n : ℕ). rank_in deps (get_or inner n 0)) end ∙ at in
              omega (arith, here, high)
        ];
    none = λ e. absurd (omega arith);
    next = λ j e.
        let end : j ≡ i = omega arith in
        let here : rank_in deps (get_or inner j 0) ≡ location = ap (λ (n : ℕ). rank_in deps (get_or inner n 0)) end ∙ at in
        omega (arith, here);
  }

  pub all_located : (least : ℕ) → AreLocated deps count inner (length inner) least → IsListed deps count inner
  all_located least located = record {
    rising = λ j l.
        let m : j + 1 < length inner = omega (arith, length-map inner (rank_in deps)) in
        omega (arith, located.rising j m, location_at_map j 0 (omega arith), location_at_map (j + 1) 0 m);
    before = λ j d l.
        let m : j < length inner = omega (arith, length-map inner (rank_in deps)) in
        omega (arith, located.before j m, location_at_map j d m);
  }

pub none_located : (deps : List ℕ) (count : ℕ) (inner : List ℕ) → AreLocated deps count inner 0 0
none_located deps count inner = record {
  rising = λ j l. absurd (omega arith);
  before = λ j l. absurd (omega arith);
  none = λ e. refl;
  next = λ j e. absurd (omega arith);
}
