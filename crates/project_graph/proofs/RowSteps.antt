-- The rows of closures, one rank on.
use Rattle.std.proofs.Common.{◌≡◌, ◌≢◌, ℕ, zero, suc, ◌+◌, ◌<◌, ◌==◌, Bool, true, false, ◌||◌, Option, Some, List, [], ◌∷◌, ◌++◌, length, get_or, take, refl, sym, ap, ◌∙◌, arith, inl, inr}
use Rattle.std.specs.Prelude.{All, AllPairs, Contains, slice_get}
use Rattle.std.specs.List.{list_any}
use Rattle.std.specs.Option.{option_map_or}
use Rattle.std.proofs.Math.ListN.{set}
use Rattle.std.proofs.lemmas.Bool.{cases_eq, cases_lt, eq-eqb, ne_eqb}
use Rattle.std.proofs.lemmas.List.{get_or_default, get_or-set_other, take_more}
use Rattle.std.proofs.lemmas.Grind.{get_or-set_at}
use Rattle.std.proofs.lemmas.List.Folds.{list_any-append}
use Rattle.std.proofs.lemmas.Option.{slice_get-get_or}
use Rattle.base_collections.specs.declared.set.PositionSet.{PositionSet}
use Rattle.base_collections.specs.Positions.{has}
use Rattle.order.specs.BuildOrder.{deps_in, IsBuildOrder}
use Rattle.order.specs.LinkedGraph.{reaches}
use Rattle.order.proofs.Reaching.{any_same, dep_rank, reaches_by_step}
use Rattle.project_graph.specs.Rows.{row_has, AreRanks}

or_false : (x : Bool) → (x || false) ≡ x
or_false true = refl
or_false false = refl

or_swap : (x y z : Bool) → ((x || y) || z) ≡ (x || (y || z))
or_swap true y z = refl
or_swap false y z = refl

slice_get-pushed : {X : Type 0} (xs : List X) (x : X) → slice_get (xs ++ x ∷ []) (length xs) ≡ Some x
slice_get-pushed [] x = refl
slice_get-pushed (y ∷ ys) x = slice_get-pushed ys x

slice_get-push_other : {X : Type 0} (xs : List X) (x : X) (k : ℕ) → (k ≡ length xs → ⊥) → slice_get (xs ++ x ∷ []) k ≡ slice_get xs k
slice_get-push_other [] x zero h = absurd (h refl)
slice_get-push_other [] x (suc k) h = refl
slice_get-push_other (y ∷ ys) x zero h = refl
slice_get-push_other (y ∷ ys) x (suc k) h = slice_get-push_other ys x k (λ e. h (ap suc e))

-- the row of a rank
pub row_at : (rows : List PositionSet) (rank at : ℕ) (row : PositionSet) → rank < length rows → row ≡ get_or rows rank row → row_has rows rank at ≡ has row at
unfolding row_has
row_at rows rank at row lt is = ap (λ (o : Option PositionSet). option_map_or (λ r. has r at) o false) (slice_get-get_or rows rank row lt ∙ ap (λ (r : PositionSet). Some r) (sym is))

-- a rank was put in, and then all of a row
pub row_joined : (old new put row : PositionSet) (rows : List PositionSet) (rank at : ℕ) → has put rank ≡ true → ((other : ℕ) → other ≢ rank → has put other ≡ has old other) → ((k : ℕ) → has new k ≡ (has put k || has row k))
    → rank < length rows → row ≡ get_or rows rank row → has new at ≡ (has old at || ((rank == at) || row_has rows rank at))
row_joined old new put row rows rank at here others joined lt is =
    let same : has row at ≡ row_has rows rank at = sym (row_at rows rank at row lt is) in
    let with_rank : has put at ≡ (has old at || (rank == at)) = elim (cases_eq at rank) [
      | inl e ↦ ap (has put) e ∙ here ∙ sym (or_yes (has old at) (rank == at) (eq-eqb rank at (sym e)))
      | inr ne ↦ others at ne ∙ sym (ap (λ (b : Bool). has old at || b) (ne_eqb rank at (λ e. ne (sym e))) ∙ or_false (has old at))
    ] in
    joined at ∙ ap (λ (b : Bool). b || has row at) with_rank ∙ ap (λ (b : Bool). (has old at || (rank == at)) || b) same ∙ or_swap (has old at) (rank == at) (row_has rows rank at) where
      or_yes : (x e : Bool) → e ≡ true → (x || e) ≡ true
      or_yes true e does = refl
      or_yes false e does = does

pub any_more : (p : ℕ → Bool) (xs : List ℕ) (i : ℕ) → i < length xs → list_any p (take (i + 1) xs) ≡ (list_any p (take i xs) || p (get_or xs i 0))
any_more p xs i lt = ap (list_any p) (take_more xs i 0 lt) ∙ list_any-append p (take i xs) (get_or xs i 0 ∷ []) ∙ ap (λ (b : Bool). list_any p (take i xs) || b) (or_false (p (get_or xs i 0)))

-- the ranks of one file more
pub placed_more : (ranks order : List ℕ) (rank : ℕ) → rank < length order → AllPairs (λ file other. file ≢ other) order → get_or order rank 0 < length ranks → ((k : ℕ) → k < rank → get_or ranks (get_or order k 0) 0 ≡ k) → (k : ℕ) → k < rank + 1
    → get_or (set ranks (get_or order rank 0) rank) (get_or order k 0) 0 ≡ k
placed_more ranks order rank lt distinct within each k low = elim (cases_lt k rank) [
  | inl l ↦ get_or-set_other ranks (get_or order rank 0) (get_or order k 0) rank 0 (distinct k rank 0 l lt) ∙ each k l
  | inr l ↦ let e : k ≡ rank = omega arith in get_or-set_at ranks (get_or order rank 0) (get_or order k 0) rank 0 (ap (λ (i : ℕ). get_or order i 0) e) within ∙ sym e
]

module _ (edges : List (List ℕ)) (order ranks : List ℕ) (is : IsBuildOrder edges order) (placed : AreRanks ranks order (length edges)) where
  -- the rows of the ranks before one
  abbrev pub AreRows : List PositionSet → ℕ → Type 0
  AreRows rows end = (rank at : ℕ) → rank < end → at < length order → row_has rows rank at ≡ reaches edges (get_or order rank 0) (get_or order at 0)

  pub earlier_ranks : (rank : ℕ) → rank < length order → (dep : ℕ) → Contains (deps_in edges (get_or order rank 0)) dep → get_or ranks dep 0 < rank
  earlier_ranks rank lt dep there =
      let earlier = dep_rank edges order is rank lt dep there in
      let inside : earlier.0 < length order = omega (arith, earlier.1) in
      omega (arith, earlier.1, ap (λ (file : ℕ). get_or ranks file 0) (sym earlier.2) ∙ placed.each earlier.0 inside)

  same_rank : (j at : ℕ) → j < length order → at < length order → (j == at) ≡ (get_or order j 0 == get_or order at 0)
  same_rank j at lt low = elim (cases_eq j at) [
    | inl e ↦ eq-eqb j at e ∙ sym (eq-eqb (get_or order j 0) (get_or order at 0) (ap (λ (k : ℕ). get_or order k 0) e))
    | inr ne ↦ ne_eqb j at ne ∙ sym (ne_eqb (get_or order j 0) (get_or order at 0) (λ same. elim (cases_lt j at) [
      | inl l ↦ is.distinct j at 0 l low same
      | inr l ↦ is.distinct at j 0 (omega arith) lt (sym same)
    ]))
  ]

  -- a row that joins those of what the file depends on
  pub row_reaches : (rows : List PositionSet) (rank : ℕ) (row : PositionSet) → rank < length order → AreRows rows rank
      → ((at : ℕ) → has row at ≡ list_any (λ dep. (get_or ranks dep 0 == at) || row_has rows (get_or ranks dep 0) at) (deps_in edges (get_or order rank 0)))
      → (at : ℕ) → at < length order → has row at ≡ reaches edges (get_or order rank 0) (get_or order at 0)
  row_reaches rows rank row lt so_far joins at low =
      joins at ∙ any_same (λ dep. (get_or ranks dep 0 == at) || row_has rows (get_or ranks dep 0) at) (λ dep. (dep == get_or order at 0) || reaches edges dep (get_or order at 0)) (deps_in edges (get_or order rank 0)) (λ dep there.
      let earlier = dep_rank edges order is rank lt dep there in
      let inside : earlier.0 < length order = omega (arith, earlier.1) in
      let at_rank : get_or ranks dep 0 ≡ earlier.0 = ap (λ (file : ℕ). get_or ranks file 0) (sym earlier.2) ∙ placed.each earlier.0 inside in
      ap (λ (j : ℕ). (j == at) || row_has rows j at) at_rank
      ∙ ap (λ (b : Bool). b || row_has rows earlier.0 at) (same_rank earlier.0 at inside low)
      ∙ ap (λ (b : Bool). (get_or order earlier.0 0 == get_or order at 0) || b) (so_far earlier.0 at earlier.1 low)
      ∙ ap (λ (file : ℕ). (file == get_or order at 0) || reaches edges file (get_or order at 0)) earlier.2)
      ∙ sym (reaches_by_step edges order is rank (get_or order at 0) lt)

  -- one row more
  pub rows_more : (rows : List PositionSet) (rank : ℕ) (row : PositionSet) → rank < length order → length rows ≡ rank → AreRows rows rank
      → ((at : ℕ) → at < length order → has row at ≡ reaches edges (get_or order rank 0) (get_or order at 0)) → AreRows (rows ++ row ∷ []) (rank + 1)
  unfolding row_has
  rows_more rows rank row lt count so_far is_row k at low within = elim (cases_lt k rank) [
    | inl l ↦ ap (λ (o : Option PositionSet). option_map_or (λ r. has r at) o false) (slice_get-push_other rows row k (λ e. omega (arith, e))) ∙ so_far k at l within
    | inr l ↦
        let e : k ≡ length rows = omega arith in
        let same : rank ≡ k = omega arith in
        ap (λ (o : Option PositionSet). option_map_or (λ r. has r at) o false) (ap (slice_get (rows ++ row ∷ [])) e ∙ slice_get-pushed rows row) ∙ is_row at within ∙ ap (λ (j : ℕ). reaches edges (get_or order j 0) (get_or order at 0)) same
  ]

  pub deps_earlier : (rank : ℕ) → rank < length order → All (λ dep. get_or ranks dep 0 < rank) (deps_in edges (get_or order rank 0))
  deps_earlier rank lt k d low =
      let deps : List ℕ = deps_in edges (get_or order rank 0) in
      earlier_ranks rank lt (get_or deps k d) (k, low, get_or_default deps k (get_or deps k d) d low)

  -- the rows after one more was made from these
  pub closure_next : (rows view : List PositionSet) (rank : ℕ) (deps : List ℕ) (row : PositionSet) → rank < length order → length rows ≡ rank → AreRows rows rank → view ≡ rows → deps ≡ deps_in edges (get_or order rank 0)
      → ((at : ℕ) → has row at ≡ list_any (λ dep. (get_or ranks dep 0 == at) || row_has view (get_or ranks dep 0) at) deps) → AreRows (rows ++ row ∷ []) (rank + 1)
  closure_next rows view rank deps row lt count so_far same are joins =
      rows_more rows rank row lt count so_far (row_reaches rows rank row lt so_far (λ at.
      joins at ∙ ap (λ (xs : List PositionSet). list_any (λ dep. (get_or ranks dep 0 == at) || row_has xs (get_or ranks dep 0) at) deps) same
      ∙ ap (list_any (λ dep. (get_or ranks dep 0 == at) || row_has rows (get_or ranks dep 0) at)) are))
