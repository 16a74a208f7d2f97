-- The answer of the children as a function that is the same by every scanner. There is just one, so it can be a fact beside the
-- fields of an object.
use Rattle.std.specs.Prelude.{◌≡◌, ◌⊎◌, ℕ, List}
use Rattle.std.proofs.Common.{inl, inr, refl, sym, ◌∙◌}
use Rattle.std.specs.Coded.{Coded, Coded-set, code_by, coded_list, coded_ℕ, coded×, coded⊎, prop_coded, Unit-prop, Π_prop, ×_prop}
use mathlib.Core.HLevel.{Σ_prop_path}
use mathlib.Core.Logic.{∥∥₁_elim, ∥∥₁_prop}
use Rattle.base.specs.declared.child.Request.{Request}
use Rattle.base.specs.declared.child.Exit.{Exit}
use Rattle.base.specs.declared.child.MaybeText.{MaybeText}
use Rattle.base.specs.declared.child.MaybeText.TheVariants.{Nothing, Given}
use Rattle.vhdl_spec.specs.Scans.{Finding, IsScanner}
use Rattle.memory_children.specs.Answers.{loop_answer}

-- this is the answer by every scanner, and there is a scanner
abbrev pub IsLoopAnswer : (Request → Exit) → Type 0
IsLoopAnswer answer = ((scan : List ℕ → Finding) → IsScanner scan → answer ≡ loop_answer scan) × ∥ ((scan : List ℕ → Finding) × IsScanner scan) ∥₁

-- there is such an answer
abbrev pub HasLoopAnswer : Type 0
HasLoopAnswer = (answer : Request → Exit) × IsLoopAnswer answer

-- how children exit on a request, without the evidence that every scanner gives the same
unfoldable pub answer_in : HasLoopAnswer → Request → Exit
answer_in known = known.0

-- ## There are no two

split : MaybeText → Unit {0} ⊎ List ℕ
split Nothing = inl tt
split (Given text) = inr text

join : Unit {0} ⊎ List ℕ → MaybeText
join (inl _) = Nothing
join (inr text) = Given text

join-split : (maybe : MaybeText) → join (split maybe) ≡ maybe
unfolding split join
join-split Nothing = refl
join-split (Given text) = refl

maybe_code : Coded MaybeText
maybe_code = code_by (Unit {0} ⊎ List ℕ) (coded⊎ (prop_coded Unit-prop) (coded_list coded_ℕ)) split join join-split

exit_code : Coded Exit
exit_code = code_by (ℕ × (List ℕ × MaybeText)) (coded× coded_ℕ (coded× (coded_list coded_ℕ) maybe_code)) (λ e. (e.code, (e.output, e.results))) (λ p. record { code = p.0; output = p.1.0; results = p.1.1 }) (λ _. refl)

answers_set : IsSet (Request → Exit)
answers_set f g p q = λ i j request. Coded-set exit_code (f request) (g request) (λ k. p k request) (λ k. q k request) i j

is_prop : (answer : Request → Exit) → IsProp (IsLoopAnswer answer)
is_prop answer = ×_prop (Π_prop (λ scan. Π_prop (λ is. answers_set answer (loop_answer scan)))) ∥∥₁_prop

same_answer : (answer other : Request → Exit) → IsLoopAnswer answer → IsLoopAnswer other → answer ≡ other
same_answer answer other h k = ∥∥₁_elim h.1 (answers_set answer other) (λ s. h.0 s.0 s.1 ∙ sym (k.0 s.0 s.1))

pub one_answer : IsProp HasLoopAnswer
one_answer x y = Σ_prop_path is_prop (same_answer x.0 y.0 x.1 y.1)
