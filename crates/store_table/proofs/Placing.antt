-- Where a thing is in a list, by a test that decides whether two things are the same.
use Rattle.std.proofs.Common.{◌≡◌, ◌≢◌, ℕ, ◌<◌, ◌≤◌, Bool, true, false, nat_lt, List, ◌++◌, length, get_or, Option, Some, None, cond, refl, sym, ap, ◌∙◌, arith, inl, inr, length-append}
use Rattle.std.specs.Prelude.{AllPairs, Contains, slice_get}
use Rattle.std.specs.Bool.{Decides}
use Rattle.std.specs.List.{position, position_or_len}
use Rattle.std.proofs.lemmas.Bool.{cases_lt}
use Rattle.std.proofs.lemmas.Bool.Decides.{nat_tests}
use Rattle.std.proofs.lemmas.List.{get_or_append_left}
use Rattle.std.proofs.lemmas.List.Sums.{fails_before_first, passes_at_first, position_or_len_is}
use Rattle.std.proofs.lemmas.Option.{get_or_from_slice_get, slice_get-get_or, slice_get_within}
use Rattle.base_collections.specs.Numbers.{IsIndexOf}
use Rattle.store_table.proofs.Finding.{once_at}

module _ {X : Type 0} (test : X → X → Bool) (each : (a b : X) → Decides (test a b) (a ≡ b)) where
  abbrev number : List X → X → ℕ
  number xs x = position_or_len (λ other. test other x) xs

  -- an item whose number is below the length is in the list
  pub at_number : (xs : List X) (x d : X) → number xs x < length xs → get_or xs (number xs x) d ≡ x
  at_number xs x d low = (each (get_or xs (number xs x) d) x).0 (passes_at_first (λ other. test other x) xs d low)

  -- and an item of the list has a number below the length
  pub numbered : (xs : List X) (x : X) → Contains xs x → number xs x < length xs
  numbered xs x has = elim (cases_lt (number xs x) (length xs)) [
    | inl low ↦ low
    | inr high ↦
        let fails : test (get_or xs has.0 x) x ≡ false = fails_before_first (λ other. test other x) xs has.0 x (omega (arith, has.1, high)) in
        let passes : test (get_or xs has.0 x) x ≡ true = (each (get_or xs has.0 x) x).1 has.2 in
        absurd cc
  ]

  index_by : (xs : List X) (x : X) (b : Bool) → nat_lt (number xs x) (length xs) ≡ b → IsIndexOf xs x (cond b (Some (number xs x)) None)
  index_by xs x true e =
      let low : number xs x < length xs = grind (arith, nat_tests) in
      slice_get-get_or xs (number xs x) x low ∙ ap (λ (y : X). Some y) (at_number xs x x low)
  index_by xs x false e = λ has. let low = numbered xs x has in let none : length xs ≤ number xs x = grind (arith, nat_tests) in absurd (omega arith)

  pub index_is : (xs : List X) (x : X) → IsIndexOf xs x (position (λ other. test other x) xs)
  index_is xs x = index_by xs x (nat_lt (number xs x) (length xs)) refl

  -- where no two things are the same, what is at a number has that number
  pub number_known : (xs : List X) (x : X) (found_index : ℕ) → AllPairs (λ a b. a ≢ b) xs → slice_get xs found_index ≡ Some x → number xs x ≡ found_index
  number_known xs x found_index once is =
      let low : found_index < length xs = slice_get_within xs found_index x is in
      let here : get_or xs found_index x ≡ x = get_or_from_slice_get xs found_index x x is in
      let there : number xs x < length xs = numbered xs x (found_index, low, here) in
      once_at xs x once (number xs x) found_index there low (at_number xs x x there ∙ sym here)

  pub index_known : (xs : List X) (x : X) (known : Option ℕ) → AllPairs (λ a b. a ≢ b) xs → IsIndexOf xs x known → position (λ other. test other x) xs ≡ known
  index_known xs x None once is =
      let none : nat_lt (number xs x) (length xs) ≡ false = elim (cases_lt (number xs x) (length xs)) [
        | inl low ↦ absurd (is (number xs x, low, at_number xs x x low))
        | inr high ↦ grind (arith, nat_tests)
      ] in
      rw none refl
  index_known xs x (Some found_index) once is =
      let same : number xs x ≡ found_index = number_known xs x found_index once is in
      let low : found_index < length xs = slice_get_within xs found_index x is in
      let some : nat_lt (number xs x) (length xs) ≡ true = grind (arith, nat_tests) in
      rw some (ap (λ (n : ℕ). Some n) same)

  -- an item of the list keeps its number if more items follow
  pub number_grown : (xs more : List X) (x : X) → Contains xs x → number (xs ++ more) x ≡ number xs x
  number_grown xs more x has =
      let low : number xs x < length xs = numbered xs x has in
      position_or_len_is (λ other. test other x) (xs ++ more) (number xs x) x (omega (arith, low, length-append xs more))
      (λ k l. rw (get_or_append_left xs more x k (omega (arith, l, low))) (fails_before_first (λ other. test other x) xs k x l))
      (λ l. rw (get_or_append_left xs more x (number xs x) low) (passes_at_first (λ other. test other x) xs x low))

-- an item of a list is still in the list if more items follow
pub still_there : {X : Type 0} (xs more : List X) (x : X) → Contains xs x → Contains (xs ++ more) x
still_there xs more x has = (has.0, omega (arith, has.1, length-append xs more), get_or_append_left xs more x has.0 has.1 ∙ has.2)
