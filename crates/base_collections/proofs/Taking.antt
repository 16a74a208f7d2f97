-- The number of a key among others: a known key keeps its number, and a new key takes the next one.
use Rattle.std.proofs.Common.{◌≡◌, ℕ, Bool, cond, List, [], ◌∷◌, ◌++◌, length, Contains, Some, Option, ap, sym, ◌∙◌}
use Rattle.std.specs.Prelude.{slice_get}
use Rattle.std.specs.Bool.{Decides}
use Rattle.std.specs.Option.{unwrap_or}
use Rattle.base_collections.specs.OrderedKeys.{AreFlagged, AreTaken}
use Rattle.base_collections.proofs.OrderedFinding.{no_other, none_before, one_other, same_others, some_before}

module _ {K : Type 0} {one two : K → ℕ} {buckets : ℕ} {slot : ℕ → Option ℕ} {others now : K → Option ℕ} (keys : List K) (key copy : K) (number found : ℕ) (alike : K → K → Bool) (decides : (a b : K) → Decides (alike a b) (a ≡ b)) (are : AreFlagged one two buckets slot others keys) (same : copy ≡ key) (last : number ≡ length keys) (is : found ≡ unwrap_or (others copy) number) (after : (k : K) → now k ≡ cond (alike copy k) (Some found) (others k)) where
  found_is : found ≡ unwrap_or (others key) (length keys)
  found_is = is ∙ (ap (λ (k : K). unwrap_or (others k) number) same ∙ ap (unwrap_or (others key)) last)

  after_is : (k : K) → now k ≡ cond (alike key k) (Some found) (others k)
  after_is k = after k ∙ ap (λ (x : K). cond (alike x k) (Some found) (others k)) same

  -- it has taken the next number
  module _ (taken_buckets : AreTaken slot keys key (one key) (two key) buckets) (new : found ≡ number) where
    pub absent : ¬ Contains keys key
    absent = no_other keys key are taken_buckets (none_before keys key are found found_is (new ∙ last))

    pub taken : AreFlagged one two buckets slot now (keys ++ key ∷ [])
    taken = one_other keys key are absent alike now decides taken_buckets (λ k. after_is k ∙ ap (λ (n : ℕ). cond (alike key k) (Some n) (others k)) (new ∙ last))

  -- it had a number
  module _ (differ : found ≡ number → ⊥) where
    before : others key ≡ Some found
    before = some_before keys key are found found_is (λ e. differ (e ∙ sym last))

    pub kept_all : AreFlagged one two buckets slot now keys
    kept_all = same_others keys key are alike now found decides before after_is

    pub stands : slice_get keys found ≡ Some key
    stands = are.other key found before
