-- How many numbers there are.
use Rattle.std.proofs.Common.{◌≡◌, ℕ, ◌+◌, ◌<◌, ◌≤◌, eqb, true, List, length, arith}
use Rattle.std.specs.Prelude.{Contains}
use Rattle.std.specs.List.{list_any}
use Rattle.std.proofs.lemmas.Bool.{eqb-true}
use Rattle.std.proofs.lemmas.Bool.Decides.{Decides-eqb}
use Rattle.std.proofs.lemmas.Cmp.{nat_eq_equiv}
use Rattle.std.proofs.lemmas.Map.Made.{IsDistinct-from_AllPairs}
use Rattle.std.proofs.lemmas.Map.Steps.{length-le_from_distinct_below, le-length_from_below}
use Rattle.std.proofs.lemmas.Map.Views.{Contains-from_any, list_any-from_Contains}
use Rattle.generated_sources.specs.NumberedFiles.{AreAllNumbers}

module _ (count : ℕ) (numbers : List ℕ) (all : AreAllNumbers count numbers) where
  within : (number : ℕ) → list_any (eqb number) numbers ≡ true → number < count + 1
  within number has =
      let found : Contains numbers number = Contains-from_any (λ x y e. eqb-true x y e) number numbers has in
      let low = all.within found.0 number found.1 in
      omega (arith, low, found.2)

  pub number_count : length numbers ≡ count + 1
  number_count =
      let most : length numbers ≤ count + 1 = length-le_from_distinct_below numbers (count + 1) (IsDistinct-from_AllPairs Decides-eqb numbers all.distinct) within in
      let least : count + 1 ≤ length numbers = le-length_from_below numbers (count + 1) (λ number low. list_any-from_Contains nat_eq_equiv number numbers (all.every number (omega (arith, low)))) in
      omega (arith, most, least)
