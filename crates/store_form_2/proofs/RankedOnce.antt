-- Requests of different names that are sorted by rank are the ranked ones.
use Rattle.std.proofs.Common.{◌≡◌, ◌≢◌, true, false, ◌<◌, List, [], ◌∷◌, length, map, get_or, sym, ap, refl, ◌∙◌, arith}
use Rattle.std.specs.Prelude.{ℕ, AllPairs, Contains, IsPermutation, IsSorted}
use Rattle.std.specs.Cmp.{IsStrictWeakOrder, IsTotalOrder, nat_cmp_total, on_total, then_total}
use Rattle.std.specs.Cmp.Lexicographic.{on_texts, slice_cmp, texts_ties}
use Rattle.std.specs.Ordering.{is_eq, is_gt, is_lt, nat_cmp, ordering_reverse, ordering_then}
use Rattle.std.specs.declared.cmp.Ordering.{Ordering}
use Rattle.std.specs.declared.cmp.Ordering.TheVariants.{Less, Equal, Greater}
use Rattle.std.proofs.lemmas.List.{get_or-map, length-map}
use Rattle.std.proofs.lemmas.List.Elements.{All-contains, All-contains_itself, All-map}
use Rattle.std.proofs.lemmas.List.Kept.{AllPairs-cons}
use Rattle.std.proofs.lemmas.List.Sorted.{Contains-permutation, IsPermutation-map, IsPermutation-sym, ranks_by, sorted_far}
use Rattle.std.proofs.lemmas.Map.Keys.{IsDistinct-IsPermutation}
use Rattle.std.proofs.lemmas.Map.Made.{AllPairs-from_IsDistinct, IsDistinct-from_AllPairs}
use Rattle.std.proofs.lemmas.Slice.Eq.{bytes_eq-Decides}
use Rattle.base.specs.declared.file.FileName.{FileName}
use Rattle.base.specs.Names.{is_same_name}
use Rattle.outside.specs.Records.{Record}
use Rattle.store_form_2.specs.Migrating.{rank_cmp, ranked}
use Rattle.store_form_2.proofs.Members.{Contains-ranked}
use Rattle.store_form_2.proofs.NodeRequests.{same_answer}
use Rattle.store_form_2.proofs.Picking.{AllPairs-head, AllPairs-tail}
use Rattle.store_form_2.proofs.Ranking.{All-ranked, pairs_ranked}
use Rattle.store_form_2.proofs.RankOrder.{each_rises}
use Rattle.store_form_2.proofs.Requests.{OfOtherName}
use Rattle.store_form_2.proofs.SameViews.{same_names}
use Rattle.store_form_2.proofs.SortedOnce.{same_sorted}

pub rank_total : IsTotalOrder rank_cmp
rank_total = then_total (on_total (λ (kept : Record). length kept.asked.below) nat_cmp_total) (then_total (on_texts (λ (kept : Record). kept.asked.name.library)) (on_texts (λ (kept : Record). kept.asked.name.path)))

rank_order : IsStrictWeakOrder (λ x y. is_lt (rank_cmp x y))
rank_order = ranks_by rank_total (λ (kept : Record). kept)

-- one comes before the other, or no later
abbrev IsBefore : Record → Record → Type 0
IsBefore a b = is_lt (rank_cmp a b) ≡ true

abbrev IsNoLater : Record → Record → Type 0
IsNoLater a b = is_lt (rank_cmp b a) ≡ false

one_way : (a b : Record) → IsBefore a b → IsBefore b a → ⊥
one_way a b before after = let both : false ≡ true = sym (rank_order.one_way a b before) ∙ after in let nothing : ⊥ = cc in nothing

greater_first : (o : Ordering) → is_gt o ≡ true → is_lt o ≡ false
greater_first Less e = absurd (let nothing : ⊥ = cc in nothing)
greater_first Equal e = refl
greater_first Greater e = refl

no_greater : (o : Ordering) → is_gt o ≡ false → is_lt (ordering_reverse o) ≡ false
no_greater Less e = refl
no_greater Equal e = refl
no_greater Greater e = absurd (let nothing : ⊥ = cc in nothing)

after_is_later : (new first : Record) → is_gt (rank_cmp new first) ≡ true → IsNoLater first new
after_is_later new first after = greater_first (rank_cmp new first) after

before_is_sooner : (new first : Record) → is_gt (rank_cmp new first) ≡ false → IsNoLater new first
before_is_sooner new first before = ap is_lt (rank_total.antisymm first new) ∙ no_greater (rank_cmp new first) before

ranked_no_later : (records : List Record) → AllPairs IsNoLater (ranked records)
ranked_no_later records = each_rises IsNoLater after_is_later before_is_sooner (λ a b c one other. rank_order.chain c b a other one) records

both_equal : (a b : Ordering) → ordering_then a b ≡ Equal → (a ≡ Equal) × (b ≡ Equal)
both_equal Less b e = absurd (let nothing : ⊥ = cc in nothing)
both_equal Equal b e = (refl, e)
both_equal Greater b e = absurd (let nothing : ⊥ = cc in nothing)

same_bytes : (a b : List ℕ) → slice_cmp nat_cmp a b ≡ Equal → a ≡ b
same_bytes a b e = (bytes_eq-Decides a b).0 (texts_ties a b ∙ ap is_eq e)

same_name : (a b : Record) → rank_cmp a b ≡ Equal → a.asked.name ≡ b.asked.name
same_name a b e =
    let name = (both_equal (nat_cmp (length a.asked.below) (length b.asked.below)) (ordering_then (slice_cmp nat_cmp a.asked.name.library b.asked.name.library) (slice_cmp nat_cmp a.asked.name.path b.asked.name.path)) e).1 in
    let parts = both_equal (slice_cmp nat_cmp a.asked.name.library b.asked.name.library) (slice_cmp nat_cmp a.asked.name.path b.asked.name.path) name in
    ap (λ (bytes : List ℕ). record { library = bytes; path = a.asked.name.path }) (same_bytes a.asked.name.library b.asked.name.library parts.0)
    ∙ ap (λ (bytes : List ℕ). record { library = b.asked.name.library; path = bytes }) (same_bytes a.asked.name.path b.asked.name.path parts.1)

-- of another name, and no later: before
is_before : (a b : Record) → a.asked.name ≢ b.asked.name → IsNoLater a b → IsBefore a b
is_before a b differ no_later = by_order (rank_cmp a b) refl where
  by_order : (o : Ordering) → rank_cmp a b ≡ o → IsBefore a b
  by_order Less e = ap is_lt e
  by_order Equal e = absurd (differ (same_name a b e))
  by_order Greater e =
      let after : is_lt (rank_cmp b a) ≡ true = ap is_lt (rank_total.antisymm b a) ∙ ap (λ (o : Ordering). is_lt (ordering_reverse o)) e in
      let both : false ≡ true = sym no_later ∙ after in
      absurd (let nothing : ⊥ = cc in nothing)

pairs_to_map : {X Y : Type 0} (f : X → Y) (xs : List X) → AllPairs (λ a b. f a ≢ f b) xs → AllPairs (λ a b. a ≢ b) (map f xs)
pairs_to_map f [] pairs = λ i j d lt l. absurd (omega arith)
pairs_to_map {X} {Y} f (x ∷ xs) pairs =
    AllPairs-cons (λ (a b : Y). a ≢ b) (f x) (map f xs) (All-map (λ (y : Y). f x ≢ y) f xs (AllPairs-head (λ (a b : X). f a ≢ f b) x xs pairs))
    (pairs_to_map f xs (AllPairs-tail (λ (a b : X). f a ≢ f b) x xs pairs))

pairs_from_map : {X Y : Type 0} (f : X → Y) (xs : List X) → AllPairs (λ a b. a ≢ b) (map f xs) → AllPairs (λ a b. f a ≢ f b) xs
pairs_from_map f xs pairs i j d lt l same =
    let low : i < length xs = omega (arith, lt, l) in
    pairs i j (f d) lt (omega (arith, l, length-map xs f)) (get_or-map f xs i d (f d) low ∙ same ∙ sym (get_or-map f xs j d (f d) l))

flipped : (a b : FileName) → is_same_name a b ≡ is_same_name b a
flipped a b =
    same_answer (is_same_name a b) (is_same_name b a) (λ t. (same_names b a).1 (sym ((same_names a b).0 t))) (λ t. (same_names a b).1 (sym ((same_names b a).0 t)))

-- the names of some records in another order differ too
names_moved : (xs ys : List Record) → IsPermutation xs ys → AllPairs OfOtherName xs → AllPairs OfOtherName ys
names_moved xs ys moved apart =
    let name : Record → FileName = λ kept. kept.asked.name in
    pairs_from_map name ys (AllPairs-from_IsDistinct same_names (map name ys)
    (IsDistinct-IsPermutation is_same_name flipped (map name xs) (map name ys) (IsPermutation-map name xs ys moved)
    (IsDistinct-from_AllPairs same_names (map name xs) (pairs_to_map name xs apart))))

pub ranked_once : (records sorted : List Record) → IsPermutation records sorted → IsSorted rank_cmp sorted → AllPairs OfOtherName records → sorted ≡ ranked records
ranked_once records sorted moved rises apart =
    let others : AllPairs OfOtherName sorted = names_moved records sorted moved apart in
    let other_ranks : AllPairs OfOtherName (ranked records) = pairs_ranked OfOtherName (λ a b differ same. differ (sym same)) records apart in
    let no_later : AllPairs IsNoLater (ranked records) = ranked_no_later records in
    same_sorted IsBefore one_way sorted (ranked records)
    (λ i j d lt l. is_before (get_or sorted i d) (get_or sorted j d) (others i j d lt l) (sorted_far (λ x y. is_lt (rank_cmp x y)) rank_order sorted rises i j d (omega (arith, lt)) l))
    (λ i j d lt l. is_before (get_or (ranked records) i d) (get_or (ranked records) j d) (other_ranks i j d lt l) (no_later i j d lt l))
    (λ z has. Contains-ranked records z (Contains-permutation sorted records z (IsPermutation-sym records sorted moved) has))
    (λ z has. Contains-permutation records sorted z moved (All-contains (Contains records) (ranked records) z (All-ranked (Contains records) records (All-contains_itself records)) has))
