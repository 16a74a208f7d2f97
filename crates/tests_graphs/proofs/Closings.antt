-- Dependencies that are looked at from the last to the first hold those of all of them.
use Rattle.std.proofs.Common.{◌≡◌, ◌≢◌, ◌<◌, ◌≤◌, ◌+◌, ◌∙◌, ◌⊎◌, ℕ, List, length, get_or, sym, subst, refl, arith, inl, inr}
use Rattle.std.specs.Prelude.{All, Contains, slice_index}
use Rattle.std.proofs.lemmas.Bool.{cases_lt}
use Rattle.std.proofs.lemmas.List.{get_or_default}
use Rattle.base.specs.declared.graph.Entry.{Entry}
use Rattle.tests_graphs.specs.Validity.{Covers, IsSeen, HasClosedDeps, HoldsAll}

-- a flag of 2 denotes a rank among the dependencies of a file that was looked at
pub record Seen (entries : List Entry) (deps : List ℕ) (from position : ℕ) : Type 0 where
  pub rank : ℕ
  pub low : from ≤ rank
  pub high : rank < length deps
  pub in_it : (other : Entry) → Contains (get_or entries (get_or deps rank 0) other).deps position

pub record Goes (entries : List Entry) (deps old state : List ℕ) (from : ℕ) : Type 0 where
  pub count : length state ≡ length old
  pub low : from ≤ length deps
  pub flagged : (k : ℕ) → k < length deps → slice_index state (get_or deps k 0) ≢ 0
  pub only : (position : ℕ) → slice_index state position ≢ 0 → Contains deps position
  pub kinds : (position : ℕ) → (slice_index state position ≡ 0) ⊎ ((slice_index state position ≡ 1) ⊎ (slice_index state position ≡ 2))
  pub seen : (position : ℕ) → slice_index state position ≡ 2 → Seen entries deps from position
  pub held : (k : ℕ) (other : Entry) → from ≤ k → k < length deps → All (Contains deps) (get_or entries (get_or deps k 0) other).deps

pub starts : (entries : List Entry) (deps state : List ℕ) → IsSeen deps (length state) state (length deps) → Goes entries deps state state (length deps)
starts entries deps state m = record {
  count = refl;
  low = omega arith;
  flagged = λ k l e. omega (arith, m.held k l, e);
  only = λ position some. elim (m.only position) [
    | inl none ↦ absurd (some none)
    | inr one ↦ one.1
  ];
  kinds = λ position. elim (m.only position) [
    | inl none ↦ inl none
    | inr one ↦ inr (inl one.0)
  ];
  seen = λ position two. elim (m.only position) [
    | inl none ↦ absurd (omega (arith, none, two))
    | inr one ↦ absurd (omega (arith, one.0, two))
  ];
  held = λ k other a b. absurd (omega arith);
}

-- a file that is passed over: its dependencies are those of one that was looked at
pub passes : (entries : List Entry) (deps old state : List ℕ) (k : ℕ) → ((j : ℕ) → j < length old → HasClosedDeps entries j) → All (λ dep. dep < length old) deps → k + 1 ≤ length deps → Goes entries deps old state (k + 1) → slice_index state (get_or deps k 0) ≢ 1 → Goes entries deps old state k
passes entries deps old state k closed within lt g not_one =
    let two : slice_index state (get_or deps k 0) ≡ 2 = elim (g.kinds (get_or deps k 0)) [
      | inl none ↦ absurd (g.flagged k (omega arith) none)
      | inr (inl one) ↦ absurd (not_one one)
      | inr (inr two) ↦ two
    ] in
    let s = g.seen (get_or deps k 0) two in
    record {
      count = g.count;
      low = omega arith;
      flagged = g.flagged;
      only = g.only;
      kinds = g.kinds;
      seen = λ position t. let q = g.seen position t in record { rank = q.rank; low = omega (arith, q.low); high = q.high; in_it = q.in_it };
      held = λ j other a b. elim (cases_lt k j) [
        | inl l ↦ g.held j other (omega arith) b
        | inr l ↦
            let same : j ≡ k = omega arith in
            let at = s.in_it other in
            let p : ℕ = get_or deps s.rank 0 in
            let wide : All (Contains deps) (get_or entries p other).deps = g.held s.rank other s.low s.high in
            let inner : All (Contains (get_or entries p other).deps) (get_or entries (get_or deps k 0) other).deps =
            subst (λ (n : ℕ). All (Contains (get_or entries p other).deps) (get_or entries n other).deps) at.2 (closed p (within s.rank 0 s.high) other other at.0 (get_or deps k 0) at.1) in
            subst (λ (n : ℕ). All (Contains deps) (get_or entries (get_or deps n 0) other).deps) (sym same)
            (λ i d m. let c = inner i d m in subst (Contains deps) c.2 (wide c.0 (get_or (get_or entries (get_or deps k 0) other).deps i d) c.1))
      ];
    }

-- a file that is looked at
pub looks : (entries : List Entry) (deps old state next : List ℕ) (k : ℕ) (entry : Entry) → k + 1 ≤ length deps → get_or deps k 0 < length entries → entry ≡ get_or entries (get_or deps k 0) entry → length next ≡ length state → Goes entries deps old state (k + 1)
    → All (λ dep. slice_index state dep ≢ 0) entry.deps → Covers entry.deps state next (length entry.deps) → Goes entries deps old next k
looks entries deps old state next k entry lt within is count g held covers =
    let all_same : (other : Entry) → get_or entries (get_or deps k 0) other ≡ entry = λ other. get_or_default entries (get_or deps k 0) other entry within ∙ sym is in
    record {
      count = count ∙ g.count;
      low = omega arith;
      flagged = λ j l e. elim (covers (get_or deps j 0)) [
        | inl same ↦ g.flagged j l (sym same ∙ e)
        | inr raised ↦ omega (arith, raised.0, e)
      ];
      only = λ position some. elim (covers position) [
        | inl same ↦ g.only position (λ e. some (same ∙ e))
        | inr raised ↦ g.only position raised.1
      ];
      kinds = λ position. elim (covers position) [
        | inl same ↦ subst (λ (n : ℕ). (n ≡ 0) ⊎ ((n ≡ 1) ⊎ (n ≡ 2))) (sym same) (g.kinds position)
        | inr raised ↦ inr (inr raised.0)
      ];
      seen = λ position two. elim (covers position) [
        | inl same ↦ let q = g.seen position (sym same ∙ two) in record { rank = q.rank; low = omega (arith, q.low); high = q.high; in_it = q.in_it }
        | inr raised ↦ record { rank = k; low = omega arith; high = omega arith; in_it = λ other. subst (λ (e : Entry). Contains e.deps position) (sym (all_same other)) raised.2 }
      ];
      held = λ j other a b. elim (cases_lt k j) [
        | inl l ↦ g.held j other (omega arith) b
        | inr l ↦
            let same : j ≡ k = omega arith in
            subst (λ (n : ℕ). All (Contains deps) (get_or entries (get_or deps n 0) other).deps) (sym same)
            (subst (λ (e : Entry). All (Contains deps) e.deps) (sym (all_same other)) (λ i d m. g.only (get_or entry.deps i d) (held i d m)))
      ];
    }

-- all are looked at
pub finishes : (entries : List Entry) (deps old state : List ℕ) (k : ℕ) → k ≤ 0 → Goes entries deps old state k → HoldsAll entries deps
finishes entries deps old state k le g other i d l = subst (λ (n : ℕ). All (Contains deps) (get_or entries n other).deps) (get_or_default deps i 0 d l) (g.held i other (omega arith) l)

-- what is held is marked
pub all_flagged : (entries : List Entry) (deps old state : List ℕ) (from k : ℕ) (entry : Entry) → k < length deps → entry ≡ get_or entries (get_or deps k 0) entry → Goes entries deps old state from → HoldsAll entries deps → All (λ dep. slice_index state dep ≢ 0) entry.deps
all_flagged entries deps old state from k entry lt is g holds i d m =
    let at : Contains deps (get_or entry.deps i d) = subst (λ (e : Entry). All (Contains deps) e.deps) (sym is) (holds entry k 0 lt) i d m in
    subst (λ (n : ℕ). slice_index state n ≢ 0) (get_or_default deps at.0 0 (get_or entry.deps i d) at.1 ∙ at.2) (g.flagged at.0 at.1)
