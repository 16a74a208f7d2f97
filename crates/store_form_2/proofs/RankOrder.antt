-- Sorted requests: none is over fewer files than one before it.
use Rattle.std.proofs.Common.{◌≡◌, ◌<◌, ◌≤◌, true, false, List, [], ◌∷◌, ◌++◌, length, sym, ap, ◌∙◌, arith, inl, inr}
use Rattle.std.specs.Prelude.{All, AllPairs}
use Rattle.std.specs.Cmp.{nat_cmp_is}
use Rattle.std.specs.Cmp.Lexicographic.{slice_cmp}
use Rattle.std.specs.Ordering.{is_gt, nat_cmp, on, ordering_then, then_cmp}
use Rattle.std.specs.declared.cmp.Ordering.{Ordering}
use Rattle.std.specs.declared.cmp.Ordering.TheVariants.{Less, Greater}
use Rattle.std.proofs.lemmas.Bool.{cases_lt, cond_both}
use Rattle.std.proofs.lemmas.List.Elements.{All-cons, All-weaker}
use Rattle.std.proofs.lemmas.List.Kept.{AllPairs-cons}
use Rattle.outside.specs.Records.{Record}
use Rattle.store_form_2.specs.Migrating.{put_ranked, rank_cmp, ranked}
use Rattle.store_form_2.proofs.Picking.{AllPairs-head, AllPairs-tail}
use Rattle.store_form_2.proofs.Ranking.{All-put_ranked}

abbrev pub IsOverNoMore : Record → Record → Type 0
IsOverNoMore a b = length a.asked.below ≤ length b.asked.below

abbrev by_name : Record → Record → Ordering
by_name = then_cmp (on (λ kept. kept.asked.name.library) (slice_cmp nat_cmp)) (on (λ kept. kept.asked.name.path) (slice_cmp nat_cmp))

fewer : (a b : Record) → length a.asked.below < length b.asked.below → is_gt (rank_cmp a b) ≡ false
fewer a b lt = ap (λ (o : Ordering). is_gt (ordering_then o (by_name a b))) (sym (nat_cmp_is (length a.asked.below) (length b.asked.below) Less lt))

more : (a b : Record) → length b.asked.below < length a.asked.below → is_gt (rank_cmp a b) ≡ true
more a b lt = ap (λ (o : Ordering). is_gt (ordering_then o (by_name a b))) (sym (nat_cmp_is (length a.asked.below) (length b.asked.below) Greater lt))

later_is_over : (new first : Record) → is_gt (rank_cmp new first) ≡ true → IsOverNoMore first new
later_is_over new first later =
    elim (cases_lt (length new.asked.below) (length first.asked.below)) [
      | inl lt ↦ absurd (let both : false ≡ true = sym (fewer new first lt) ∙ later in let nothing : ⊥ = cc in nothing)
      | inr le ↦ le
    ]

sooner_is_over : (new first : Record) → is_gt (rank_cmp new first) ≡ false → IsOverNoMore new first
sooner_is_over new first sooner =
    elim (cases_lt (length first.asked.below) (length new.asked.below)) [
      | inl lt ↦ absurd (let both : false ≡ true = sym sooner ∙ more new first lt in let nothing : ⊥ = cc in nothing)
      | inr le ↦ le
    ]

-- a relation that the order by rank gives holds of each record and each later one of the ranked ones
module _ (R : Record → Record → Type 0) (after : (new first : Record) → is_gt (rank_cmp new first) ≡ true → R first new)
    (before : (new first : Record) → is_gt (rank_cmp new first) ≡ false → R new first) (chain : (a b c : Record) → R a b → R b c → R a c) where
  put_rises : (new : Record) (records : List Record) → AllPairs R records → AllPairs R (put_ranked new records)
  unfolding put_ranked
  put_rises new [] pairs = AllPairs-cons R new [] (λ i d l. absurd (omega arith)) pairs
  put_rises new (first ∷ rest) pairs =
      let others : All (R first) rest = AllPairs-head R first rest pairs in
      cond_both (is_gt (rank_cmp new first)) (first ∷ put_ranked new rest) (new ∷ first ∷ rest) (AllPairs R)
      (λ later. AllPairs-cons R first (put_ranked new rest) (All-put_ranked (R first) new rest (after new first later) others) (put_rises new rest (AllPairs-tail R first rest pairs)))
      (λ sooner.
      let low : R new first = before new first sooner in
      AllPairs-cons R new (first ∷ rest) (All-cons (R new) first rest low (All-weaker (R first) (R new) (λ other over. chain new first other low over) rest others)) pairs)

  pub each_rises : (records : List Record) → AllPairs R (ranked records)
  unfolding ranked
  each_rises [] = λ i j d lt l. absurd (omega arith)
  each_rises (first ∷ rest) = put_rises first (ranked rest) (each_rises rest)

pub ranked_rise : (records : List Record) → AllPairs IsOverNoMore (ranked records)
ranked_rise records = each_rises IsOverNoMore later_is_over sooner_is_over (λ a b c low le. omega (arith, low, le)) records

-- the last of a list with each two of them
pub AllPairs-after : {X : Type 0} (R : X → X → Type 0) (xs ys : List X) → AllPairs R (xs ++ ys) → AllPairs R ys
AllPairs-after R [] ys pairs = pairs
AllPairs-after R (x ∷ xs) ys pairs = AllPairs-after R xs ys (AllPairs-tail R x (xs ++ ys) pairs)
