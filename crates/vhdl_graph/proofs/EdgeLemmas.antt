-- The edges of linked files rise, are within the project, and none leads from a file to itself.
use Rattle.std.proofs.Common.{◌≡◌, ◌≢◌, ℕ, ◌<◌, ◌≤◌, ◌==◌, Bool, true, false, not, List, [], length, get_or, inl, inr, sym, ◌∙◌, ap, subst, arith}
use Rattle.std.specs.Prelude.{All, filter, Result, Ok, Err, IfOk}
use Rattle.std.specs.List.Sorted.{IsStrictlyIncreasing}
use Rattle.std.proofs.lemmas.Bool.{cases_lt, eq-eqb}
use Rattle.std.proofs.lemmas.List.{get_or-map, get_or_past, length-map}
use Rattle.std.proofs.lemmas.List.Elements.{All-filter, filter_passes}
use Rattle.std.proofs.lemmas.List.Kept.{IsStrictlyIncreasing-filter}
use Rattle.base.specs.declared.limits.TheConstants.{FILE_LIMIT}
use Rattle.base.specs.declared.linking.Linked.{Linked}
use Rattle.base.specs.declared.linking.LinkFault.{LinkFault}
use Rattle.base.specs.declared.project.Project.{Project}
use Rattle.base.specs.PresentGraph.{below}
use Rattle.base.proofs.Below.{length-below, get_or-below}
use Rattle.vhdl_spec.specs.Dependencies.{LinkUnit, depends_on, edges_of}
use Rattle.order.proofs.Finds.{below_all, below_rises}
use Rattle.order.specs.BuildOrder.{AreEdges, deps_in}
use Rattle.vhdl_spec.proofs.SomeTests.{and_cases}
use Rattle.vhdl_graph.specs.Linking.{GivesAll}

module _ (project : Project) (units : List LinkUnit) (few : length project.files ≤ FILE_LIMIT) where
  abbrev files : ℕ
  files = length project.files

  abbrev edge : ℕ → List ℕ
  edge user = filter (depends_on project units user) (below files)

  count : length (edges_of project units) ≡ files
  count = length-map (below files) edge ∙ length-below files

  here : (file : ℕ) → file < files → deps_in (edges_of project units) file ≡ edge file
  here file lt = get_or-map edge (below files) file 0 [] (omega (arith, lt, length-below files)) ∙ ap edge (get_or-below files file 0 lt)

  past : (file : ℕ) → files ≤ file → deps_in (edges_of project units) file ≡ []
  past file le = get_or_past (edges_of project units) file [] (omega (arith, le, count))

  -- what holds of no dependencies, and of those of each file
  each : (P : ℕ → List ℕ → Type 0) → ((file : ℕ) → P file []) → ((file : ℕ) → P file (edge file)) → (file : ℕ) → P file (deps_in (edges_of project units) file)
  each P none some file = elim (cases_lt file files) [
    | inl lt ↦ subst (P file) (sym (here file lt)) (some file)
    | inr le ↦ subst (P file) (sym (past file le)) (none file)
  ]

  other : (file : ℕ) → All (λ dep. dep ≢ file) (edge file)
  other file k d lt same =
      let passes : depends_on project units file (get_or (edge file) k d) ≡ true = filter_passes (depends_on project units file) (below files) k d lt in
      let apart = and_cases (not (file == get_or (edge file) k d)) _ passes in
      let never : not (file == get_or (edge file) k d) ≡ false = ap (λ (b : Bool). not b) (eq-eqb file (get_or (edge file) k d) (sym same)) in
      let nothing : true ≡ false = sym (apart.0) ∙ never in
      let impossible : ⊥ = cc in
      impossible

  pub are_edges : AreEdges (edges_of project units)
  are_edges = record {
    few = omega (arith, few, count);
    rising = each (λ file deps. IsStrictlyIncreasing deps) (λ file k lt. absurd (omega (arith, lt))) (λ file. IsStrictlyIncreasing-filter (depends_on project units file) (below files) (below_rises files));
    within = each (λ file deps. All (λ dep. dep < length (edges_of project units)) deps) (λ file k d lt. absurd (omega (arith, lt))) (λ file. subst (λ (n : ℕ). All (λ dep. dep < n) (edge file)) (sym count) (All-filter (depends_on project units file) (λ dep. dep < files) (below files) (below_all files)));
    others = each (λ file deps. All (λ dep. dep ≢ file) deps) (λ file k d lt. absurd (omega (arith, lt))) other;
  }

  pub gives_edges : (result : Result Linked LinkFault) → GivesAll project units result → IfOk result (λ linked. AreEdges linked.edges)
  gives_edges (Ok linked) is = subst (λ (l : Linked). AreEdges l.edges) (sym (is.1)) are_edges
  gives_edges (Err fault) is = tt
