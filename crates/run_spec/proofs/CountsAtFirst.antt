-- No fault was counted yet.
use Rattle.std.proofs.Common.{◌≡◌, ◌∙◌, Bool, false, None, refl, sym, arith}
use Rattle.std.proofs.lemmas.Bool.{false≢true}
use Rattle.outside.specs.FaultCounts.{BuildFaultCounts}
use Rattle.run_spec.specs.Faults.{CountsBy}

-- unchanged counts are those of a build without a fault, over a store that isn't broken
pub counts_at_first : (broken : Bool) (first : BuildFaultCounts) → broken ≡ false → CountsBy None broken first first
counts_at_first broken first usable = record {
  none_fell = record { children = record { starts = omega arith; losses = omega arith }; disks = omega arith };
  explains = refl;
  start_first = tt;
  breaks = λ b. absurd (false≢true (sym usable ∙ b));
}
