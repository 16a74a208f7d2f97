-- The digits of a number, of which there is a first one.
use Rattle.std.proofs.Common.{◌≡◌, ℕ, ◌+◌, ◌^◌, ◌%◌, ◌<◌, ◌≤◌, Bool, true, false, ◌&&◌, List, [], ◌∷◌, ◌++◌, refl, ap, arith}
use Rattle.std.specs.Char.{is_ascii_digit}
use Rattle.std.specs.Fmt.{decimal}
use Rattle.std.specs.List.{list_all}
use Rattle.std.proofs.lemmas.Bool.Decides.{nat_tests}
use Rattle.std.proofs.lemmas.Fmt.{decimal_by_steps, decimal_injective}
use Rattle.generated_sources.specs.PackageScans.{AreDigits, package_name}

is_digit : (n : ℕ) → n < 10 → is_ascii_digit (48 + n) ≡ true
is_digit n small = grind (arith, nat_tests)

both_of : (x y : Bool) → (x && y) ≡ true → (x ≡ true) × (y ≡ true)
both_of true y h = (refl, h)
both_of false y h = let nothing : ⊥ = cc in absurd nothing

all_append : (test : ℕ → Bool) (xs ys : List ℕ) → list_all test xs ≡ true → list_all test ys ≡ true → list_all test (xs ++ ys) ≡ true
all_append test [] ys left right = right
all_append test (x ∷ xs) ys left right =
    let both = both_of (test x) (list_all test xs) left in
    rw both.0 (all_append test xs ys both.1 right)

one : (n : ℕ) → n < 10 → AreDigits ((48 + n) ∷ [])
one n small = record { first = n; rest = []; small = small; begins = refl; all = let digit : is_ascii_digit (48 + n) ≡ true = is_digit n small in ap (λ (x : Bool). x && true) digit }

more : (n : ℕ) (bytes : List ℕ) → 10 ≤ n → AreDigits bytes → AreDigits (bytes ++ (48 + n % 10) ∷ [])
more n bytes large are = record {
  first = are.first;
  rest = are.rest ++ (48 + n % 10) ∷ [];
  small = are.small;
  begins = ap (λ (bs : List ℕ). bs ++ (48 + n % 10) ∷ []) are.begins;
  all = all_append is_ascii_digit bytes ((48 + n % 10) ∷ []) are.all (one (n % 10) (omega arith)).all;
}

pub decimal_digits : (number : ℕ) → number < 2 ^ 64 → AreDigits (decimal number)
decimal_digits number small = decimal_by_steps (λ n bytes. AreDigits bytes) one (λ n bytes large are. more n bytes large are) number small

pub same_number : (a b : ℕ) → a < 2 ^ 64 → b < 2 ^ 64 → package_name a ≡ package_name b → a ≡ b
same_number a b small few is = decimal_injective a b small few (let tails : decimal a ≡ decimal b = cc in tails)
