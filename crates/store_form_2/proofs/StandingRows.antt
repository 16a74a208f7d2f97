-- Files that stand where they are in a graph.
use Rattle.std.proofs.Common.{◌≡◌, ◌<◌, ◌≤◌, ◌+◌, ◌∙◌, ℕ, zero, suc, List, length, get_or, ap, sym, subst, arith, inl, inr}
use Rattle.std.specs.Prelude.{All, Contains}
use Rattle.std.specs.List.Sorted.{IsStrictlyIncreasing}
use Rattle.std.proofs.lemmas.Bool.{cases_lt}
use Rattle.std.proofs.lemmas.List.{get_or_default}
use Rattle.base.specs.declared.graph.Entry.{Entry}
use Rattle.base.specs.Graphs.{IsEntryAt}
use Rattle.base.specs.View.{IsView}
use Rattle.project_views.proofs.Rising.{before_later, rank_le}
use Rattle.store_form_2.specs.Validity.{StandBelow}

module _ (deps : List ℕ) (rising : IsStrictlyIncreasing deps) (last : ℕ) (below : All (λ dep. dep < last) deps) where
  -- rising from after
  from_top : (j k : ℕ) → k + j + 1 ≡ length deps → get_or deps k 0 + j < last
  from_top zero k e = omega (arith, below k 0 (omega (arith, e)))
  from_top (suc j) k e = omega (arith, from_top j (k + 1) (omega (arith, e)), before_later deps rising k (k + 1) (omega arith) (omega (arith, e)))

  at_rank : (rest rank : ℕ) → rank + rest + 1 ≡ length deps → length deps ≡ last → get_or deps rank 0 ≡ rank
  at_rank rest rank e all = omega (arith, from_top rest rank e, rank_le deps rising rank (omega (arith, e)), all)

  rest_of : (rank count : ℕ) → rank < count → (rest : ℕ) × (rank + rest + 1 ≡ count)
  rest_of zero zero lt = absurd (omega arith)
  rest_of (suc rank) zero lt = absurd (omega arith)
  rest_of zero (suc count) lt = (count, omega arith)
  rest_of (suc rank) (suc count) lt = let r = rest_of rank count (omega arith) in (r.0, omega (arith, r.1))

  -- as many positions as there are below the bound are all of them
  pub all_below : length deps ≡ last → (rank : ℕ) → rank < last → Contains deps rank
  all_below all rank lt =
      let within : rank < length deps = omega (arith, all) in
      let r = rest_of rank (length deps) within in
      (rank, within, get_or_default deps rank rank 0 within ∙ at_rank r.0 rank r.1 all)

-- the last file depends on all others if it has as many dependencies as there are other files
pub is_whole : (entries : List Entry) (last : ℕ) (entry : Entry) → last + 1 ≡ length entries → entry ≡ get_or entries last entry → StandBelow entries (length entries) → length entry.deps ≡ last → IsView entries
is_whole entries last entry e is stand all =
    let lt : last < length entries = omega (arith, e) in
    let at : IsEntryAt entries last entry = subst (IsEntryAt entries last) (sym is) (stand last lt entry) in
    record {
      some = omega (arith, e);
      whole = λ n rank other same low.
          let here : n ≡ last = omega (arith, e, same) in
          subst (λ (x : Entry). Contains x.deps rank) (is ∙ get_or_default entries last entry other lt ∙ ap (λ (m : ℕ). get_or entries m other) (sym here))
          (all_below entry.deps at.rising last at.before all rank (omega (arith, here, low)));
    }
