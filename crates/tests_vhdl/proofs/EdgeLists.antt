-- Lists that can be what files depend on are edges.
use Rattle.std.proofs.Common.{ℕ, ◌<◌, ◌≤◌, List, [], length, sym, subst, arith, inl, inr}
use Rattle.std.proofs.lemmas.Bool.{cases_lt}
use Rattle.std.proofs.lemmas.List.{get_or_past}
use Rattle.base.specs.declared.limits.TheConstants.{FILE_LIMIT}
use Rattle.order.specs.BuildOrder.{deps_in, AreEdges}
use Rattle.tests_vhdl.specs.Deps.{AreDeps}

none_are_deps : (count file : ℕ) → AreDeps count file []
none_are_deps count file = record {
  rising = λ k lt. absurd (omega arith);
  within = λ k d lt. absurd (omega arith);
  others = λ k d lt. absurd (omega arith);
}

deps_everywhere : (edges : List (List ℕ)) → ((file : ℕ) → file < length edges → AreDeps (length edges) file (deps_in edges file)) → (file : ℕ) → AreDeps (length edges) file (deps_in edges file)
deps_everywhere edges each file = elim (cases_lt file (length edges)) [
  | inl l ↦ each file l
  | inr l ↦ subst (AreDeps (length edges) file) (sym (get_or_past edges file [] l)) (none_are_deps (length edges) file)
]

pub edges_when : (edges : List (List ℕ)) → length edges ≤ FILE_LIMIT → ((file : ℕ) → file < length edges → AreDeps (length edges) file (deps_in edges file)) → AreEdges edges
edges_when edges few each = record {
  few = few;
  rising = λ file. (deps_everywhere edges each file).rising;
  within = λ file. (deps_everywhere edges each file).within;
  others = λ file. (deps_everywhere edges each file).others;
}

pub deps_when : (edges : List (List ℕ)) → AreEdges edges → (file : ℕ) → AreDeps (length edges) file (deps_in edges file)
deps_when edges are file = record { rising = are.rising file; within = are.within file; others = are.others file }
