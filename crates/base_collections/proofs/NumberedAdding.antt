-- A number that is added keeps each number at its index.
use Rattle.std.proofs.Common.{◌≡◌, ℕ, ◌<◌, false, List, [], ◌∷◌, ◌++◌, length, get_or, set, None, Some, Option, is_some, ap, ◌∙◌, arith, inl, inr, length-append}
use Rattle.std.specs.Prelude.{◌≢◌, AllPairs, Contains}
use Rattle.std.proofs.lemmas.Bool.{cases_lt}
use Rattle.std.proofs.lemmas.List.{get_or-set_other, get_or-set_same, get_or_append_left, get_or_at, get_or_default, length-set}
use Rattle.std.proofs.lemmas.List.Elements.{All-push}
use Rattle.base_collections.specs.Numbers.{AreFound, IsIndexOf}

pub absent : (numbers : List ℕ) (number : ℕ) (item_index : Option ℕ) → IsIndexOf numbers number item_index → is_some item_index ≡ false → ¬ Contains numbers number
absent numbers number None is none = is
absent numbers number (Some item_index) is none = absurd cc

pub added : (indices numbers : List ℕ) (number : ℕ) → AreFound indices numbers → number < length indices → ¬ Contains numbers number → AreFound (set indices number (length numbers)) (numbers ++ number ∷ [])
added indices numbers number found low new =
    let size : length (set indices number (length numbers)) ≡ length indices = length-set indices number (length numbers) in
    record {
      below = rw size (All-push (λ n. n < length indices) numbers number found.below low);
      noted = λ k l.
          elim (cases_lt k (length numbers)) [
            | inl a ↦
                let other : ℕ = get_or numbers k 0 in
                let here : get_or (numbers ++ number ∷ []) k 0 ≡ other = get_or_append_left numbers (number ∷ []) 0 k a in
                rw here
                (get_or-set_other indices number other (length numbers) 0 (λ e. new (k, a, get_or_default numbers k number 0 a ∙ e)) ∙ found.noted k a)
            | inr a ↦
                let end : length numbers ≡ k = omega (arith, length-append numbers (number ∷ [])) in
                rw (get_or_at numbers number [] 0 k end) (get_or-set_same indices number (length numbers) 0 low ∙ end)
          ];
    }

-- no number has two indices
pub once : (indices numbers : List ℕ) → AreFound indices numbers → AllPairs (λ a b. a ≢ b) numbers
once indices numbers found i j d a b e =
    let i_low : i < length numbers = omega arith in
    let same : get_or numbers i 0 ≡ get_or numbers j 0 = get_or_default numbers i 0 d i_low ∙ e ∙ get_or_default numbers j d 0 b in
    omega (arith, found.noted i i_low, found.noted j b, ap (λ (n : ℕ). get_or indices n 0) same, a)
