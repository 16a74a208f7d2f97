-- The last pass of the same tests, among all passes and among the last alone; the last of these; and what holds of all passes holds of these.
use Rattle.std.proofs.Common.{◌≡◌, ℕ, Bool, true, false, cond, ◌||◌, ◌&&◌, List, [], ◌∷◌, Option, Some, None, refl, sym, ap, subst, ◌∙◌, inl, inr, arith}
use Rattle.std.specs.Prelude.{All}
use Rattle.std.specs.List.{list_any}
use Rattle.std.specs.Option.{option_or}
use Rattle.std.specs.Str.{bytes_eq}
use Rattle.std.specs.Cmp.Lexicographic.{pointwise, pointwise_decides}
use Rattle.std.proofs.lemmas.Bool.{and_parts, cases_Bool, cond-true, cond-false, or_cases}
use Rattle.std.proofs.lemmas.List.Elements.{All-cons, All-tail}
use Rattle.std.proofs.lemmas.Option.{same_Some}
use Rattle.std.proofs.lemmas.Slice.Eq.{bytes_eq-Decides}
use Rattle.testbench_runs.specs.declared.runs.TestRun.{TestRun}
use Rattle.passes_spec.specs.Passes.{Pass, is_of_tests, is_superseded, last_pass, last_passes}

-- ## What holds of all passes

either : (P : Pass → Type 0) (first kept : Pass) (rest : Option Pass) (of : Bool)
    → P first → ((k : Pass) → rest ≡ Some k → P k) → option_or rest (cond of (Some first) None) ≡ Some kept → P kept
either P first kept (Some later) of one more h = more kept h
either P first kept None true one more h = subst P (same_Some first kept h) one
either P first kept None false one more h = absurd (let nothing : ⊥ = cc in nothing)

-- what holds of all passes holds of the last of the same tests
pub All-last : (P : Pass → Type 0) (run : TestRun) (simulator : List (List ℕ)) (passes : List Pass) (kept : Pass) → All P passes → last_pass run simulator passes ≡ Some kept → P kept
unfolding last_pass
All-last P run simulator [] kept holds is = absurd (let nothing : ⊥ = cc in nothing)
All-last P run simulator (first ∷ rest) kept holds is =
    either P first kept (last_pass run simulator rest) (is_of_tests run simulator first) (holds 0 first (omega arith)) (λ k found. All-last P run simulator rest k (All-tail P first rest holds) found) is

-- and of the last alone
pub All-last_passes : (P : Pass → Type 0) (passes : List Pass) → All P passes → All P (last_passes passes)
unfolding last_passes
All-last_passes P [] holds = holds
All-last_passes P (first ∷ rest) holds =
    let others : All P (last_passes rest) = All-last_passes P rest (All-tail P first rest holds) in
    elim (cases_Bool (is_superseded rest first)) [
      | inl later ↦ subst (All P) (sym (cond-true (is_superseded rest first) (last_passes rest) (first ∷ last_passes rest) later)) others
      | inr last ↦ subst (All P) (sym (cond-false (is_superseded rest first) (last_passes rest) (first ∷ last_passes rest) last))
          (All-cons P first (last_passes rest) (holds 0 first (omega arith)) others)
    ]

-- ## The last pass among the last alone

or_none : (r : Option Pass) → option_or r None ≡ r
or_none None = refl
or_none (Some kept) = refl

or_some : (r : Option Pass) (last : Pass) → (kept : Pass) × (option_or r (Some last) ≡ Some kept)
or_some None last = (last, refl)
or_some (Some kept) last = (kept, refl)

-- by its parts
abbrev of_parts : List ℕ → List ℕ → List (List ℕ) → List (List ℕ) → Pass → Bool
of_parts library bench cases simulator pass = bytes_eq pass.run.library library && (bytes_eq pass.run.bench bench && (pointwise bytes_eq pass.run.cases cases && pointwise bytes_eq pass.simulator simulator))

-- runs of the same tests have the same passes
pub same_tests : (run : TestRun) (simulator : List (List ℕ)) (first : Pass) → is_of_tests run simulator first ≡ true → (pass : Pass) → is_of_tests first.run first.simulator pass ≡ is_of_tests run simulator pass
same_tests run simulator first t pass =
    let one = and_parts _ _ t in
    let two = and_parts _ _ one.1 in
    let three = and_parts _ _ two.1 in
    let library : first.run.library ≡ run.library = (bytes_eq-Decides first.run.library run.library).0 one.0 in
    let bench : first.run.bench ≡ run.bench = (bytes_eq-Decides first.run.bench run.bench).0 two.0 in
    let cases : first.run.cases ≡ run.cases = (pointwise_decides bytes_eq-Decides first.run.cases run.cases).0 three.0 in
    let words : first.simulator ≡ simulator = (pointwise_decides bytes_eq-Decides first.simulator simulator).0 three.1 in
    ap (λ (bytes : List ℕ). of_parts bytes first.run.bench first.run.cases first.simulator pass) library
    ∙ ap (λ (bytes : List ℕ). of_parts run.library bytes first.run.cases first.simulator pass) bench
    ∙ ap (λ (list : List (List ℕ)). of_parts run.library run.bench list first.simulator pass) cases
    ∙ ap (λ (list : List (List ℕ)). of_parts run.library run.bench run.cases list pass) words

same_any : (p q : Pass → Bool) → ((pass : Pass) → p pass ≡ q pass) → (passes : List Pass) → list_any p passes ≡ list_any q passes
same_any p q same [] = refl
same_any p q same (pass ∷ passes) = ap (λ (b : Bool). b || list_any p passes) (same pass) ∙ ap (λ (b : Bool). q pass || b) (same_any p q same passes)

has_last : (run : TestRun) (simulator : List (List ℕ)) (passes : List Pass) → list_any (is_of_tests run simulator) passes ≡ true → (kept : Pass) × (last_pass run simulator passes ≡ Some kept)
unfolding last_pass
has_last run simulator [] t = absurd (let nothing : ⊥ = cc in nothing)
has_last run simulator (first ∷ rest) t =
    elim (or_cases (is_of_tests run simulator first) (list_any (is_of_tests run simulator) rest) t) [
      | inl here ↦
          let found = or_some (last_pass run simulator rest) first in
          (found.0, ap (option_or (last_pass run simulator rest)) (cond-true (is_of_tests run simulator first) (Some first) None here) ∙ found.1)
      | inr later ↦
          let found = has_last run simulator rest later in
          (found.0, ap (λ (r : Option Pass). option_or r (cond (is_of_tests run simulator first) (Some first) None)) found.1)
    ]

not_last : (run : TestRun) (simulator : List (List ℕ)) (first : Pass) (rest : List Pass) → is_superseded rest first ≡ true
    → option_or (last_pass run simulator rest) (cond (is_of_tests run simulator first) (Some first) None) ≡ last_pass run simulator rest
not_last run simulator first rest superseded =
    elim (cases_Bool (is_of_tests run simulator first)) [
      | inl of ↦
          let found = has_last run simulator rest (sym (same_any (is_of_tests first.run first.simulator) (is_of_tests run simulator) (same_tests run simulator first of) rest) ∙ superseded) in
          ap (λ (r : Option Pass). option_or r (cond (is_of_tests run simulator first) (Some first) None)) found.1 ∙ sym found.1
      | inr other ↦ ap (option_or (last_pass run simulator rest)) (cond-false (is_of_tests run simulator first) (Some first) None other) ∙ or_none (last_pass run simulator rest)
    ]

-- the last pass of the same tests is the same among the last alone
pub last_of_last_passes : (run : TestRun) (simulator : List (List ℕ)) (passes : List Pass) → last_pass run simulator (last_passes passes) ≡ last_pass run simulator passes
unfolding last_pass last_passes
last_of_last_passes run simulator [] = refl
last_of_last_passes run simulator (first ∷ rest) =
    elim (cases_Bool (is_superseded rest first)) [
      | inl later ↦
          ap (last_pass run simulator) (cond-true (is_superseded rest first) (last_passes rest) (first ∷ last_passes rest) later)
          ∙ last_of_last_passes run simulator rest
          ∙ sym (not_last run simulator first rest later)
      | inr last ↦
          ap (last_pass run simulator) (cond-false (is_superseded rest first) (last_passes rest) (first ∷ last_passes rest) last)
          ∙ ap (λ (r : Option Pass). option_or r (cond (is_of_tests run simulator first) (Some first) None)) (last_of_last_passes run simulator rest)
    ]

either_later : (of later : Bool) → (of ≡ true → later ≡ true) → of || later ≡ later
either_later true later known = sym (known refl)
either_later false later known = refl

-- a later pass of the same tests as one of some tests is of these tests
later_too : (run : TestRun) (simulator : List (List ℕ)) (first : Pass) (rest : List Pass) → is_superseded rest first ≡ true → is_of_tests run simulator first ≡ true → list_any (is_of_tests run simulator) rest ≡ true
later_too run simulator first rest superseded of =
    sym (same_any (is_of_tests first.run first.simulator) (is_of_tests run simulator) (same_tests run simulator first of) rest) ∙ superseded

-- tests have a pass among the last alone exactly where they have one
any_of_last_passes : (run : TestRun) (simulator : List (List ℕ)) (passes : List Pass) → list_any (is_of_tests run simulator) (last_passes passes) ≡ list_any (is_of_tests run simulator) passes
unfolding last_passes
any_of_last_passes run simulator [] = refl
any_of_last_passes run simulator (first ∷ rest) =
    elim (cases_Bool (is_superseded rest first)) [
      | inl later ↦
          ap (list_any (is_of_tests run simulator)) (cond-true (is_superseded rest first) (last_passes rest) (first ∷ last_passes rest) later)
          ∙ any_of_last_passes run simulator rest
          ∙ sym (either_later (is_of_tests run simulator first) (list_any (is_of_tests run simulator) rest) (later_too run simulator first rest later))
      | inr last ↦
          ap (list_any (is_of_tests run simulator)) (cond-false (is_superseded rest first) (last_passes rest) (first ∷ last_passes rest) last)
          ∙ ap (λ (b : Bool). is_of_tests run simulator first || b) (any_of_last_passes run simulator rest)
    ]

-- the last of the last passes are the last
pub last_passes_again : (passes : List Pass) → last_passes (last_passes passes) ≡ last_passes passes
unfolding last_passes
last_passes_again [] = refl
last_passes_again (first ∷ rest) =
    elim (cases_Bool (is_superseded rest first)) [
      | inl later ↦
          let is = cond-true (is_superseded rest first) (last_passes rest) (first ∷ last_passes rest) later in
          ap last_passes is ∙ last_passes_again rest ∙ sym is
      | inr last ↦
          let is = cond-false (is_superseded rest first) (last_passes rest) (first ∷ last_passes rest) last in
          ap last_passes is
          ∙ cond-false (is_superseded (last_passes rest) first) (last_passes (last_passes rest)) (first ∷ last_passes (last_passes rest)) (any_of_last_passes first.run first.simulator rest ∙ last)
          ∙ ap (λ (ps : List Pass). first ∷ ps) (last_passes_again rest)
          ∙ sym is
    ]
