-- Files that stand where they are in a graph.
use Rattle.std.proofs.Common.{◌≡◌, ◌<◌, ◌≤◌, ◌+◌, ◌∙◌, ℕ, zero, suc, List, length, get_or, ap, sym, subst, arith, inl, inr}
use Rattle.std.specs.Prelude.{All, Contains}
use Rattle.std.specs.List.Sorted.{IsStrictlyIncreasing}
use Rattle.std.proofs.lemmas.Bool.{cases_lt}
use Rattle.std.proofs.lemmas.List.{get_or_default}
use Rattle.base.specs.declared.graph.Entry.{Entry}
use Rattle.base.specs.Graphs.{IsEntryAt}
use Rattle.base.specs.View.{IsView}
use Rattle.project_views.proofs.Rising.{before_later, few}
use Rattle.store_form_2.specs.Validity.{StandsAt, StandBelow}
use Rattle.tests_graphs.specs.Validity.{FitsFile, HasClosedDeps}

-- a file that passes each test stands where it is
pub stands : (entries : List Entry) (rank : ℕ) (entry : Entry) → rank < length entries → entry ≡ get_or entries rank entry → FitsFile entry → IsStrictlyIncreasing entry.deps → All (λ dep. dep < rank) entry.deps → HasClosedDeps entries rank → StandsAt entries rank
stands entries rank entry lt is fits rising before closed other =
    let same : (e : Entry) → get_or entries rank e ≡ entry = λ e. get_or_default entries rank e entry lt ∙ sym is in
    subst (IsEntryAt entries rank) (sym (same other)) (record {
      rising = rising;
      before = before;
      closed = λ k d l e. subst (λ (x : Entry). All (λ dep. All (Contains x.deps) (get_or entries dep e).deps) x.deps) (same entry) (closed entry e) k d l;
      name = fits.name;
      command = fits.command;
      text = fits.text;
    })

pub is_closed : (entries : List Entry) (rank : ℕ) → StandsAt entries rank → HasClosedDeps entries rank
is_closed entries rank at entry other k d l = (at entry).closed k d l other

module _ (deps : List ℕ) (rising : IsStrictlyIncreasing deps) (last : ℕ) (below : All (λ dep. dep < last) deps) where
  rank_at : ((rank : ℕ) → rank < last → Contains deps rank) → (rank : ℕ) → (lt : rank < last) → (k : ℕ) → k < length deps → get_or deps k 0 ≡ rank → rank ≤ k
  rank_at hold zero lt k within is = omega arith
  rank_at hold (suc rank) lt k within is =
      let low = hold rank (omega arith) in
      let value : get_or deps low.0 0 ≡ rank = get_or_default deps low.0 0 rank low.1 ∙ low.2 in
      let le = rank_at hold rank (omega arith) low.0 low.1 value in
      elim (cases_lt low.0 k) [
        | inl l ↦ omega (arith, le, l)
        | inr ge ↦ elim (cases_lt k low.0) [
          | inl l ↦ absurd (omega (arith, before_later deps rising k low.0 l low.1, value, is))
          | inr same ↦ let one : k ≡ low.0 = omega (arith, ge, same) in absurd (omega (arith, ap (λ (n : ℕ). get_or deps n 0) one, value, is))
        ]
      ]

  -- where all are among the positions, there are as many
  pub count_of : ((rank : ℕ) → rank < last → Contains deps rank) → length deps ≡ last
  count_of hold = elim (cases_lt (length deps) last) [
    | inl short ↦
        let c = hold (length deps) short in
        absurd (omega (arith, c.1, rank_at hold (length deps) short c.0 c.1 (get_or_default deps c.0 0 (length deps) c.1 ∙ c.2)))
    | inr ge ↦ omega (arith, ge, few deps rising last below)
  ]

pub whole_count : (entries : List Entry) (last : ℕ) (entry : Entry) → last + 1 ≡ length entries → entry ≡ get_or entries last entry → StandBelow entries (length entries) → IsView entries → length entry.deps ≡ last
whole_count entries last entry e is stand view =
    let lt : last < length entries = omega (arith, e) in
    let at : IsEntryAt entries last entry = subst (IsEntryAt entries last) (sym is) (stand last lt entry) in
    count_of entry.deps at.rising last at.before (λ rank low. subst (λ (x : Entry). Contains x.deps rank) (sym is) (view.whole last rank entry e low))
