-- A walk along the links comes to the number that all splits lead to.
use Rattle.std.proofs.Common.{◌≡◌, ◌≢◌, ℕ, zero, suc, ◌+◌, ◌-◌, ◌<◌, ◌≤◌, List, [], ◌∷◌, length, drop, get_or, None, Some, Option, eqb, not, ◌&&◌, refl, sym, ap, subst, ◌∙◌, arith, inl, inr}
use Rattle.std.proofs.lemmas.List.{get_or-map, length-map, drop_all}
use Rattle.std.proofs.Math.Seq.{drop-cons}
use Rattle.base_collections.specs.declared.splits.Split.{Split}
use Rattle.base_collections.specs.Splits.{reached, reached_from, turned, value_at}
use Rattle.base_collections.specs.Links.{AreChained, IsFirstFrom, left_numbers}
use Rattle.base_collections.proofs.Reaching.{same_if, stays, turns}

abbrev pub no_split : Split
no_split = record { of = 0; point = 0; value = 0 }

-- A walk has come to a number by the splits before a bound, and the candidate is the next split that leaves it.
pub record IsWalk (splits : List Split) (text : List ℕ) (now : ℕ) (candidate : Option ℕ) : Type 0 where
  pub bound : ℕ
  pub some : 0 < bound
  pub so_far : reached_from bound (drop bound splits) text now ≡ reached splits text
  pub next : IsFirstFrom (left_numbers splits) now bound candidate
  pub within : bound ≤ length splits
  pub there : now < length splits

module _ (splits : List Split) (text : List ℕ) where
  of_at : (k : ℕ) → k < length splits → get_or (left_numbers splits) k 0 ≡ (get_or splits k no_split).of
  of_at k l = get_or-map (λ (s : Split). s.of) splits k no_split 0 l

  one_step : (bound now : ℕ) → bound < length splits → reached_from bound (drop bound splits) text now ≡ reached_from (suc bound) (drop (suc bound) splits) text (turned bound (get_or splits bound no_split) text now)
  unfolding reached_from
  one_step bound now l = ap (λ (ss : List Split). reached_from bound ss text now) (drop-cons splits bound no_split l)

  -- splits that don't leave a number are passed over
  skip : (count bound now : ℕ) → bound + count ≤ length splits → ((k : ℕ) → bound ≤ k → k < bound + count → get_or (left_numbers splits) k 0 ≢ now) → reached_from bound (drop bound splits) text now ≡ reached_from (bound + count) (drop (bound + count) splits) text now
  skip zero bound now within none = ap (λ (k : ℕ). reached_from k (drop k splits) text now) (omega arith)
  skip (suc count) bound now within none =
      let low : bound < length splits = omega (arith, within) in
      let here : turned bound (get_or splits bound no_split) text now ≡ now = stays bound (get_or splits bound no_split) text now (λ e. absurd (none bound (omega arith) (omega arith) (of_at bound low ∙ sym e))) in
      one_step bound now low
      ∙ ap (reached_from (suc bound) (drop (suc bound) splits) text) here
      ∙ skip count (suc bound) now (omega (arith, within)) (λ k up high. none k (omega (arith, up)) (omega (arith, high)))
      ∙ ap (λ (k : ℕ). reached_from k (drop k splits) text now) (omega arith)

  at_end : (bound now : ℕ) → bound ≡ length splits → reached_from bound (drop bound splits) text now ≡ now
  unfolding reached_from
  at_end bound now e = ap (λ (ss : List Split). reached_from bound ss text now) (drop_all bound splits (omega (arith, e)))

  -- up to the candidate
  to_candidate : (now i : ℕ) (walk : IsWalk splits text now (Some i)) → (i < length splits) × (((get_or splits i no_split).of ≡ now) × (reached_from (suc i) (drop (suc i) splits) text (turned i (get_or splits i no_split) text now) ≡ reached splits text))
  to_candidate now i walk =
      let low : i < length splits = omega (arith, walk.next.1.0, length-map splits (λ (s : Split). s.of)) in
      let gap : walk.bound + (i - walk.bound) ≡ i = omega (arith, walk.next.0) in
      let skipped = skip (i - walk.bound) walk.bound now (omega (arith, gap, low)) (λ k up high. walk.next.1.1.1 k up (omega (arith, high, gap))) in
      let whole : reached_from i (drop i splits) text now ≡ reached splits text = ap (λ (k : ℕ). reached_from k (drop k splits) text now) (sym gap) ∙ sym skipped ∙ walk.so_far in
      (low, (sym (of_at i low) ∙ walk.next.1.1.0, sym (one_step i now low) ∙ whole))

  pub candidate_low : (now i : ℕ) → IsWalk splits text now (Some i) → i < length splits
  candidate_low now i walk = (to_candidate now i walk).0

  pub walk_begins : (firsts nexts : List (Option ℕ)) → AreChained (left_numbers splits) firsts nexts → 0 < length splits → IsWalk splits text 0 (get_or firsts 0 None)
  walk_begins firsts nexts are some = record {
    bound = 1;
    some = omega arith;
    so_far = sym (one_step 0 0 some ∙ ap (reached_from 1 (drop 1 splits) text) (zero_stays (get_or splits 0 no_split)));
    next = are.first 0 (omega (arith, some, length-map splits (λ (s : Split). s.of)));
    within = omega (arith, some);
    there = some;
  }
    where
      zero_stays : (split : Split) → turned 0 split text 0 ≡ 0
      zero_stays split = same_if (eqb 0 split.of && not (eqb (value_at text split.point) split.value)) 0

  -- another value: on to the candidate
  pub walk_turns : (firsts nexts : List (Option ℕ)) (now i : ℕ) (split : Split) → AreChained (left_numbers splits) firsts nexts → IsWalk splits text now (Some i) → split ≡ get_or splits i no_split → value_at text split.point ≢ split.value → IsWalk splits text i (get_or firsts i None)
  walk_turns firsts nexts now i split are walk is other =
      let to = to_candidate now i walk in
      let there : value_at text (get_or splits i no_split).point ≢ (get_or splits i no_split).value = subst (λ (s : Split). value_at text s.point ≢ s.value) is other in
      record {
        bound = suc i;
        some = omega arith;
        so_far = ap (reached_from (suc i) (drop (suc i) splits) text) (sym (turns i (get_or splits i no_split) text now (sym to.1.0) there)) ∙ to.1.1;
        next = are.first i (omega (arith, to.0, length-map splits (λ (s : Split). s.of)));
        within = omega (arith, to.0);
        there = to.0;
      }

  -- the same value: on to the next split
  pub walk_stays : (firsts nexts : List (Option ℕ)) (now i : ℕ) (split : Split) → AreChained (left_numbers splits) firsts nexts → IsWalk splits text now (Some i) → split ≡ get_or splits i no_split → value_at text split.point ≡ split.value → IsWalk splits text now (get_or nexts i None)
  walk_stays firsts nexts now i split are walk is same =
      let to = to_candidate now i walk in
      let low : i < length (left_numbers splits) = omega (arith, to.0, length-map splits (λ (s : Split). s.of)) in
      let here : value_at text (get_or splits i no_split).point ≡ (get_or splits i no_split).value = subst (λ (s : Split). value_at text s.point ≡ s.value) is same in
      record {
        bound = suc i;
        some = omega arith;
        so_far = ap (reached_from (suc i) (drop (suc i) splits) text) (sym (stays i (get_or splits i no_split) text now (λ e. here))) ∙ to.1.1;
        next = subst (λ (n : ℕ). IsFirstFrom (left_numbers splits) n (suc i) (get_or nexts i None)) walk.next.1.1.0 (are.next i (omega (arith, walk.next.0, walk.some)) low);
        within = omega (arith, to.0);
        there = walk.there;
      }

  pub walk_ends : (now : ℕ) → IsWalk splits text now None → now ≡ reached splits text
  walk_ends now walk =
      let gap : walk.bound + (length splits - walk.bound) ≡ length splits = omega (arith, walk.within) in
      sym (skip (length splits - walk.bound) walk.bound now (omega (arith, gap)) (λ k up high. walk.next k up (omega (arith, high, gap, length-map splits (λ (s : Split). s.of)))) ∙ at_end (walk.bound + (length splits - walk.bound)) now gap) ∙ walk.so_far
