-- The first file that waits, and the way from it to the next.
use Rattle.std.proofs.Common.{◌≡◌, ℕ, suc, ◌+◌, ◌-◌, ◌<◌, Bool, true, false, not, Option, List, [], ◌∷◌, ◌++◌, length, get_or, drop, refl, sym, ap, subst, ◌∙◌, arith, inl, inr}
use Rattle.std.specs.Prelude.{All}
use Rattle.std.specs.List.{find}
use Rattle.std.specs.Option.{option_map_or}
use Rattle.std.proofs.Math.ListN.{set}
use Rattle.std.proofs.lemmas.Bool.{cases_eq, cond-true, cond-false}
use Rattle.std.proofs.lemmas.List.{get_or-set_other}
use Rattle.std.proofs.lemmas.Grind.{get_or-set_at}
use Rattle.base.specs.View.{rank_in}
use Rattle.order.specs.BuildOrder.{deps_in, has_taken, first_untaken, untaken_dep, repeated}
use Rattle.order.proofs.Finds.{find_first, find_none, find_at_rank, find_nowhere}
use Rattle.order.proofs.Members.{taken_other, taken_here}
use Rattle.order.specs.Untakens.{AreWaiting}

module _ (waiting : List Bool) (edges : List (List ℕ)) (taken : List ℕ) (is : AreWaiting waiting (length edges) taken) where
  untaken_when : (file : ℕ) (b : Bool) → file < length waiting → get_or waiting file false ≡ b → not (has_taken taken file) ≡ b
  untaken_when file b lt at = sym (is.each file (omega (arith, is.as_many))) ∙ at

  pub first_waits : (file : ℕ) → file < length waiting → get_or waiting file false ≡ true → ((k : ℕ) → k < file → get_or waiting k false ≡ false) → file ≡ first_untaken edges taken
  unfolding first_untaken
  first_waits file lt at before =
      sym (ap (λ (o : Option ℕ). option_map_or (λ f. f) o 0)
      (find_first (λ f. not (has_taken taken f)) (length edges) file (λ k low. untaken_when k false (omega arith) (before k low)) (omega (arith, is.as_many)) (untaken_when file true lt at)))

  pub none_waits : ((k : ℕ) → k < length waiting → get_or waiting k false ≡ false) → 0 ≡ first_untaken edges taken
  unfolding first_untaken
  none_waits none =
      sym (ap (λ (o : Option ℕ). option_map_or (λ f. f) o 0) (find_none (λ f. not (has_taken taken f)) (length edges) (λ k low. untaken_when k false (omega (arith, is.as_many)) (none k (omega (arith, is.as_many))))))

  module _ (file : ℕ) (deps : List ℕ) (same : deps ≡ deps_in edges file) (within : All (λ dep. dep < length waiting) deps) where
    pub dep_waits : (i : ℕ) → i < length deps → get_or waiting (get_or deps i 0) false ≡ true → ((k : ℕ) → k < i → get_or waiting (get_or deps k 0) false ≡ false) → get_or deps i 0 ≡ untaken_dep edges taken file
    unfolding untaken_dep
    dep_waits i lt at before =
        sym (ap (λ (o : Option ℕ). option_map_or (λ dep. dep) o file) (ap (find (λ dep. not (has_taken taken dep))) (sym same)
        ∙ find_at_rank (λ dep. not (has_taken taken dep)) deps i 0 (λ k low. untaken_when (get_or deps k 0) false (within k 0 (omega arith)) (before k low)) lt (untaken_when (get_or deps i 0) true (within i 0 lt) at)))

    pub no_dep_waits : ((k : ℕ) → k < length deps → get_or waiting (get_or deps k 0) false ≡ false) → file ≡ untaken_dep edges taken file
    unfolding untaken_dep
    no_dep_waits none =
        sym (ap (λ (o : Option ℕ). option_map_or (λ dep. dep) o file) (ap (find (λ dep. not (has_taken taken dep))) (sym same)
        ∙ find_nowhere (λ dep. not (has_taken taken dep)) deps 0 (λ k lt. untaken_when (get_or deps k 0) false (within k 0 lt) (none k lt))))

-- ## One step of the way

pub passed_again : (next : ℕ → ℕ) (steps : ℕ) (passed : List ℕ) (file : ℕ) → has_taken passed file ≡ true → repeated next (suc steps) passed file ≡ drop (rank_in passed file) passed
unfolding repeated
passed_again next steps passed file again = cond-true (has_taken passed file) (drop (rank_in passed file) passed) (repeated next steps (passed ++ file ∷ []) (next file)) again

pub passed_on : (next : ℕ → ℕ) (steps : ℕ) (passed : List ℕ) (file : ℕ) → has_taken passed file ≡ false → repeated next (suc steps) passed file ≡ repeated next steps (passed ++ file ∷ []) (next file)
unfolding repeated
passed_on next steps passed file new = cond-false (has_taken passed file) (drop (rank_in passed file) passed) (repeated next steps (passed ++ file ∷ []) (next file)) new

pub passed_out : (next : ℕ → ℕ) (passed : List ℕ) (file : ℕ) → repeated next 0 passed file ≡ []
unfolding repeated
passed_out next passed file = refl

-- ## The way as a whole

-- the cycle that the way from the first file leads to
abbrev pub whole_way : List (List ℕ) → List ℕ → List ℕ
whole_way edges taken = repeated (untaken_dep edges taken) (suc (length edges)) [] (first_untaken edges taken)

-- from a file, some steps on, the way leads there too
abbrev pub Leads : List (List ℕ) → List Bool → List ℕ → ℕ → ℕ → Type 0
Leads edges waiting passed file step = (taken : List ℕ) → AreWaiting waiting (length edges) taken → (left : ℕ) → left + step ≡ suc (length edges) → repeated (untaken_dep edges taken) left passed file ≡ whole_way edges taken

pub leads_back : (edges same : List (List ℕ)) (waiting : List Bool) (passed view : List ℕ) (file step : ℕ) → same ≡ edges → view ≡ passed → step < length same + 1 → has_taken passed file ≡ true → Leads same waiting passed file step
    → (taken : List ℕ) → AreWaiting waiting (length edges) taken → drop (rank_in view file) view ≡ whole_way edges taken
leads_back edges same waiting passed view file step e v lt again leads =
    subst (λ (es : List (List ℕ)). (taken : List ℕ) → AreWaiting waiting (length es) taken → drop (rank_in view file) view ≡ whole_way es taken) e (λ taken is.
    ap (λ (xs : List ℕ). drop (rank_in xs file) xs) v ∙ sym (passed_again (untaken_dep same taken) (length same - step) passed file again) ∙ leads taken is (suc (length same - step)) (omega arith))

pub leads_on : (edges : List (List ℕ)) (waiting : List Bool) (passed : List ℕ) (file step next : ℕ) → has_taken passed file ≡ false → ((taken : List ℕ) → AreWaiting waiting (length edges) taken → next ≡ untaken_dep edges taken file) → Leads edges waiting passed file step
    → Leads edges waiting (passed ++ file ∷ []) next (step + 1)
leads_on edges waiting passed file step next new is_next leads taken is left sizes =
    ap (λ (f : ℕ). repeated (untaken_dep edges taken) left (passed ++ file ∷ []) f) (is_next taken is) ∙ sym (passed_on (untaken_dep edges taken) left passed file new) ∙ leads taken is (suc left) (omega arith)

pub leads_out : (edges same : List (List ℕ)) (waiting : List Bool) (passed : List ℕ) (file step : ℕ) → same ≡ edges → length same + 1 ≡ step → Leads same waiting passed file step → (taken : List ℕ) → AreWaiting waiting (length edges) taken → [] ≡ whole_way edges taken
leads_out edges same waiting passed file step e all leads =
    subst (λ (es : List (List ℕ)). (taken : List ℕ) → AreWaiting waiting (length es) taken → [] ≡ whole_way es taken) e (λ taken is. sym (passed_out (untaken_dep same taken) passed file) ∙ leads taken is 0 (omega arith))

-- the flags of what was passed, with one more
pub flagged_more : (flags : List Bool) (passed : List ℕ) (file count : ℕ) → file < length flags → ((k : ℕ) → k < count → get_or flags k false ≡ has_taken passed k) → (k : ℕ) → k < count → get_or (set flags file true) k false ≡ has_taken (passed ++ file ∷ []) k
flagged_more flags passed file count lt flagged k low = elim (cases_eq k file) [
  | inl e ↦ get_or-set_at flags file k true false e lt ∙ sym (taken_here passed file k e)
  | inr ne ↦ get_or-set_other flags file k true false ne ∙ flagged k low ∙ sym (taken_other passed file k ne)
]
