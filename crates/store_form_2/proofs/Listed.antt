-- Dependencies that are listed, from the last one down.
use Rattle.std.proofs.Common.{◌≡◌, ◌≢◌, ℕ, ◌+◌, ◌<◌, ◌≤◌, List, length, get_or, Option, None, Some, is_some, true, sym, ap, subst, arith, inl, inr}
use Rattle.std.specs.Prelude.{All, AllPairs, Contains, slice_get}
use Rattle.std.proofs.lemmas.Bool.{cases_lt}
use Rattle.std.proofs.lemmas.Option.{get_or_from_slice_get, slice_get_within}
use Rattle.store_form_2.specs.Fitting.{IsListed}
use Rattle.store_form_2.specs.Nodes.{Node}
use Rattle.store_form_2.proofs.NodeFits.{node_listed}
use Rattle.base_collections.specs.Numbers.{IsIndexOf}
use Rattle.store_form_2.specs.Fits.{AreDone, AreFrom, AreListed, AreSomeNodes, blank_node, deps_at}
use Rattle.store_form_2.proofs.Locations.{are_once}

-- what is found in a set is in it
pub is_in : (numbers : List ℕ) (number : ℕ) (location : Option ℕ) → IsIndexOf numbers number location → is_some location ≡ true → Contains numbers number
is_in numbers number None is e = absurd cc
is_in numbers number (Some location) is e =
    let low : location < length numbers = slice_get_within numbers location number is in
    (location, low, get_or_from_slice_get numbers location number number is)

-- the dependencies of a node are those of its row
pub row_deps : (nodes : List Node) (number : ℕ) (node : Node) → slice_get nodes number ≡ Some node → deps_at nodes number ≡ node.deps
row_deps nodes number node at = ap (λ (n : Node). n.deps) (get_or_from_slice_get nodes number node blank_node at)

-- and are there
pub inner_low : (nodes : List Node) (number : ℕ) (size : ℕ) → AreSomeNodes nodes → number < length nodes → length nodes ≤ size → All (λ dep. dep < size) (deps_at nodes number)
inner_low nodes number size some low le k d l = let below = (some.are.each number blank_node low).before k d l in omega (arith, below, low, le)

module _ (nodes : List Node) (deps : List ℕ) where
  -- one that is covered is listed
  pub passed_over : (covered : List ℕ) (left at : ℕ) → at + 1 ≡ left → left ≤ length deps → AreSomeNodes nodes → All (λ dep. dep < length nodes) deps → AllPairs (λ a b. a ≢ b) deps → Contains covered (get_or deps at 0) → AreDone nodes deps covered left → AreDone nodes deps covered at
  passed_over covered left at e le some there once has done =
      let cover = done.covers has.0 (get_or deps at 0) has.1 in
      let j : ℕ = cover.0 in
      let held : Contains (deps_at nodes (get_or deps j 0)) (get_or deps at 0) = subst (Contains (deps_at nodes (get_or deps j 0))) has.2 cover.3 in
      record {
        listed = λ k low l.
            elim (cases_lt k left) [
              | inl a ↦
                  let here : at ≡ k = omega arith in
                  subst (λ (n : ℕ). IsListed deps n (deps_at nodes (get_or deps n 0))) here
                  (node_listed some.texts nodes deps blank_node at j some.are there (are_once deps once) (omega arith) cover.2 (done.listed j cover.1 cover.2) held)
              | inr a ↦ done.listed k a l
            ];
        covers = λ k d l. let c = done.covers k d l in (c.0, omega (arith, c.1), c.2, c.3);
      }

  -- and one that was tested is
  pub tested : (old new : List ℕ) (left at : ℕ) (inner : List ℕ) → at + 1 ≡ left → left ≤ length deps → deps_at nodes (get_or deps at 0) ≡ inner → IsListed deps at inner → AreFrom old inner new → AreDone nodes deps old left → AreDone nodes deps new at
  tested old new left at inner e le same listed from done = record {
    listed = λ k low l.
        elim (cases_lt k left) [
          | inl a ↦
              let here : at ≡ k = omega arith in
              subst (λ (n : ℕ). IsListed deps n (deps_at nodes (get_or deps n 0))) here (subst (IsListed deps at) (sym same) listed)
          | inr a ↦ done.listed k a l
        ];
    covers = λ k d l.
        elim (from k d l) [
          | inl has ↦
              let c = done.covers has.0 (get_or new k d) has.1 in
              (c.0, omega (arith, c.1), c.2, subst (Contains (deps_at nodes (get_or deps c.0 0))) has.2 c.3)
          | inr has ↦ (at, omega arith, omega arith, subst (λ (ns : List ℕ). Contains ns (get_or new k d)) (sym same) has)
        ];
  }

  pub all_done : (covered : List ℕ) (left : ℕ) → left ≡ 0 → AreDone nodes deps covered left → AreListed nodes deps
  all_done covered left e done k l = done.listed k (omega arith) l
