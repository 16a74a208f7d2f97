-- Small generated projects, worked out by hand.
use Rattle.std.specs.Prelude.{◌≡◌, ℕ, List, [], ◌∷◌, map}
use Rattle.base.specs.declared.graph.Entry.{Entry}
use Rattle.order.specs.BuildOrder.{Ordered, file_order}
use Rattle.generated_sources.specs.NumberedFiles.{numbered_edges, numbered_graph}
use Rattle.generated_laws.specs.TouchedNumbers.{touched_numbers}

-- three packages, and then the bench
abbrev pub three_packages : List ℕ
three_packages = 1 ∷ 2 ∷ 3 ∷ 0 ∷ []

-- the bench, and then two packages, the second one first
abbrev pub bench_first : List ℕ
bench_first = 0 ∷ 2 ∷ 1 ∷ []

-- of each file of a graph the positions of all files that it depends on
abbrev pub deps_of_all : List Entry → List (List ℕ)
deps_of_all graph = map (λ entry. entry.deps) graph

-- orders and dependencies of two small projects, and how many files an edit touches
pub record NumberedExamples : Type 0 where
  pub three_edges : numbered_edges three_packages ≡ [] ∷ (0 ∷ []) ∷ (0 ∷ []) ∷ (0 ∷ []) ∷ []
  pub three_order : file_order (numbered_edges three_packages) ≡ Ordered (0 ∷ 1 ∷ 2 ∷ 3 ∷ [])
  pub three_deps : deps_of_all (numbered_graph [] 2 three_packages (0 ∷ 1 ∷ 2 ∷ 3 ∷ [])) ≡ [] ∷ (0 ∷ []) ∷ (0 ∷ []) ∷ (0 ∷ []) ∷ []
  pub two_order : file_order (numbered_edges bench_first) ≡ Ordered (2 ∷ 0 ∷ 1 ∷ [])
  pub two_deps : deps_of_all (numbered_graph [] 2 bench_first (2 ∷ 0 ∷ 1 ∷ [])) ≡ [] ∷ (0 ∷ []) ∷ (0 ∷ []) ∷ []
  pub one_touched : touched_numbers 1 1 ≡ 2
  pub three_touched : touched_numbers 3 2 ≡ 1
  pub ten_touched : touched_numbers 10 2 ≡ 6
