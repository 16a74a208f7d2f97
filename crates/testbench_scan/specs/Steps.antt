-- Steps of paths are equal only where they are the same.
use Rattle.std.specs.Prelude.{◌≡◌, ℕ, Bool, true, ◌&&◌, ◌==◌, List, ◌++◌}
use Rattle.std.proofs.Common.{ap, ◌∙◌}
use Rattle.std.specs.Bool.{Decides}
use Rattle.std.specs.Hash as fed
use Rattle.std.proofs.lemmas.Bool.Decides.{Decides-and, Decides-eqb}
use Rattle.testbench_scan.specs.declared.steps.Step.{Step}

-- the same index and the same byte
abbrev pub is_same_step : Step → Step → Bool
is_same_step a b = a.from == b.from && a.byte == b.byte

-- what is hashed of a step
abbrev pub step_sample : Step → List (List ℕ)
step_sample step = fed.usize step.from ++ fed.u8 step.byte

-- a step from an index by a byte
abbrev pub step_by : ℕ → ℕ → Step
step_by from byte = record { from = from; byte = byte }

-- the test of two steps is true exactly where they are equal
pub steps_decide : (a b : Step) → Decides (is_same_step a b) (a ≡ b)
steps_decide a b =
    let both = Decides-and _ _ (Decides-eqb a.from b.from) (Decides-eqb a.byte b.byte) in (
      λ e. let same = both.0 e in ap (λ (n : ℕ). step_by n a.byte) same.0 ∙ ap (λ (n : ℕ). step_by b.from n) same.1,
      λ e. both.1 (ap (λ (s : Step). s.from) e, ap (λ (s : Step). s.byte) e),
    )

-- steps that the test finds the same give the hash the same input
pub step_alike : (a b : Step) → is_same_step a b ≡ true → step_sample a ≡ step_sample b
step_alike a b e = ap step_sample ((steps_decide a b).0 e)
