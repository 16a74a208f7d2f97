-- Rising paths, place by place.
use Rattle.std.specs.Prelude.{◌≡◌, ℕ, suc, zero, ◌<◌, List, [], ◌∷◌, length}
use Rattle.std.specs.Ordering.{nat_cmp}
use Rattle.std.specs.Cmp.Lexicographic.{slice_cmp}
use Rattle.std.specs.declared.cmp.Ordering.TheVariants.{Less}
use Rattle.std.proofs.Common.{arith}
use Rattle.std.proofs.Math.ListN.{get_or}
use Rattle.outside.specs.Trees.{IsRising}

-- of rising paths each is less than the next
pub next-is_greater : (paths : List (List ℕ)) (i : ℕ) (d e : List ℕ) → IsRising paths → suc i < length paths
    → slice_cmp nat_cmp (get_or paths i d) (get_or paths (suc i) e) ≡ Less
next-is_greater [] i d e rising within = absurd (omega arith)
next-is_greater (x ∷ []) i d e rising within = absurd (omega arith)
next-is_greater (x ∷ y ∷ rest) zero d e rising within = rising.0
next-is_greater (x ∷ y ∷ rest) (suc i) d e rising within = next-is_greater (y ∷ rest) i d e rising.1 (omega arith)
