-- The names that a tree lists are distinct.
use Rattle.std.proofs.Common.{◌≡◌, ◌≢◌, ℕ, zero, suc, ◌<◌, List, [], ◌∷◌, length, get_or, ap, ◌∙◌, arith}
use Rattle.std.specs.Prelude.{AllPairs}
use Rattle.std.specs.Ordering.{nat_cmp}
use Rattle.std.specs.Cmp.Lexicographic.{slice_cmp}
use Rattle.std.specs.declared.cmp.Ordering.TheVariants.{Less, Equal}
use Rattle.std.proofs.lemmas.Cmp.{nat_list_cmp_total, tied_itself}
use Rattle.outside.specs.Trees.{IsRising}

less_later : (first : List ℕ) (paths : List (List ℕ)) (j : ℕ) (d : List ℕ) → IsRising (first ∷ paths) → j < length paths → slice_cmp nat_cmp first (get_or paths j d) ≡ Less
less_later first [] j d rising within = absurd (omega arith)
less_later first (next ∷ rest) zero d rising within = rising.0
less_later first (next ∷ rest) (suc j) d rising within = nat_list_cmp_total.trans first next (get_or rest j d) rising.0 (less_later next rest j d rising.1 (omega arith))

not_less : (path : List ℕ) → slice_cmp nat_cmp path path ≡ Less → ⊥
not_less path less =
    let same : slice_cmp nat_cmp path path ≡ Equal = tied_itself nat_list_cmp_total path in
    cc

pub distinct_names : (paths : List (List ℕ)) → IsRising paths → AllPairs (λ name other. name ≢ other) paths
distinct_names [] rising i j d before within = absurd (omega arith)
distinct_names (first ∷ rest) rising i zero d before within = absurd (omega arith)
distinct_names (first ∷ rest) rising zero (suc j) d before within =
    λ same. not_less first (ap (slice_cmp nat_cmp first) same ∙ less_later first rest j d rising (omega arith))
distinct_names (first ∷ []) rising (suc i) (suc j) d before within = absurd (omega arith)
distinct_names (first ∷ next ∷ rest) rising (suc i) (suc j) d before within = distinct_names (next ∷ rest) rising.1 i j d (omega arith) (omega arith)
