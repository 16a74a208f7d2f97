-- What sorting keeps: what holds of all records, and of each two.
use Rattle.std.proofs.Common.{List, [], ◌∷◌}
use Rattle.std.specs.Prelude.{All, AllPairs}
use Rattle.std.specs.Ordering.{is_gt}
use Rattle.std.proofs.lemmas.Bool.{cond_both}
use Rattle.std.proofs.lemmas.List.Elements.{All-cons, All-head, All-tail}
use Rattle.std.proofs.lemmas.List.Kept.{AllPairs-cons}
use Rattle.outside.specs.Records.{Record}
use Rattle.store_form_2.specs.Migrating.{put_ranked, rank_cmp, ranked}
use Rattle.store_form_2.proofs.Picking.{AllPairs-head, AllPairs-tail}

-- what holds of all of a sorted list and of one more record
pub All-put_ranked : (P : Record → Type 0) (new : Record) (records : List Record) → P new → All P records → All P (put_ranked new records)
unfolding put_ranked
All-put_ranked P new [] one all = All-cons P new [] one all
All-put_ranked P new (first ∷ rest) one all =
    cond_both (is_gt (rank_cmp new first)) (first ∷ put_ranked new rest) (new ∷ first ∷ rest) (All P)
    (λ later. All-cons P first (put_ranked new rest) (All-head P first rest all) (All-put_ranked P new rest one (All-tail P first rest all)))
    (λ sooner. All-cons P new (first ∷ rest) one all)

pub All-ranked : (P : Record → Type 0) (records : List Record) → All P records → All P (ranked records)
unfolding ranked
All-ranked P [] all = all
All-ranked P (first ∷ rest) all = All-put_ranked P first (ranked rest) (All-head P first rest all) (All-ranked P rest (All-tail P first rest all))

module _ (R : Record → Record → Type 0) (symmetric : (a b : Record) → R a b → R b a) where
  pairs_put : (new : Record) (records : List Record) → All (R new) records → AllPairs R records → AllPairs R (put_ranked new records)
  unfolding put_ranked
  pairs_put new [] one pairs = AllPairs-cons R new [] one pairs
  pairs_put new (first ∷ rest) one pairs =
      cond_both (is_gt (rank_cmp new first)) (first ∷ put_ranked new rest) (new ∷ first ∷ rest) (AllPairs R)
      (λ later.
      AllPairs-cons R first (put_ranked new rest)
      (All-put_ranked (R first) new rest (symmetric new first (All-head (R new) first rest one)) (AllPairs-head R first rest pairs))
      (pairs_put new rest (All-tail (R new) first rest one) (AllPairs-tail R first rest pairs)))
      (λ sooner. AllPairs-cons R new (first ∷ rest) one pairs)

  -- what holds of each two, in either order, holds of each two of the sorted ones
  pub pairs_ranked : (records : List Record) → AllPairs R records → AllPairs R (ranked records)
  unfolding ranked
  pairs_ranked [] pairs = pairs
  pairs_ranked (first ∷ rest) pairs =
      pairs_put first (ranked rest) (All-ranked (R first) rest (AllPairs-head R first rest pairs)) (pairs_ranked rest (AllPairs-tail R first rest pairs))
