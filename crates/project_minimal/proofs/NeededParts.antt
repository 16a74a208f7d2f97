-- The files that tests need depend on each other alone.
use Rattle.std.proofs.Common.{◌≡◌, ℕ, zero, suc, ◌+◌, ◌<◌, ◌==◌, Bool, true, false, cond, ◌||◌, Option, Some, None, List, [], ◌∷◌, length, get_or, inl, inr, refl, sym, ap, subst, ◌∙◌, arith}
use Rattle.std.specs.Prelude.{All, Contains, filter, slice_index}
use Rattle.std.specs.List.{list_any}
use Rattle.std.specs.List.Sorted.{IsStrictlyIncreasing}
use Rattle.std.proofs.lemmas.Bool.{eq-eqb, eqb-true, lt-ltb}
use Rattle.std.proofs.lemmas.List.Elements.{All-filter, filter_passes}
use Rattle.std.proofs.lemmas.List.Kept.{IsStrictlyIncreasing-filter}
use Rattle.base.specs.declared.design.Scan.{Scan}
use Rattle.base.specs.declared.graph.Entry.{Entry}
use Rattle.base.specs.declared.project.Project.{Project}
use Rattle.base.specs.Projects.{IsProject}
use Rattle.base.specs.PresentGraph.{below, listed}
use Rattle.base.proofs.Below.{length-below, get_or-below}
use Rattle.base_outcomes.specs.declared.bench.Bench.{Bench}
use Rattle.order.specs.BuildOrder.{AreEdges, IsBuildOrder, deps_in}
use Rattle.order.specs.LinkedGraph.{FitTexts, closure_of, linked, reaches, reaches_within}
use Rattle.order.proofs.Finds.{in_below, below_all, below_rises}
use Rattle.vhdl_spec.proofs.SomeTests.{or_cases, or_first, some_of}
use Rattle.project_graph.proofs.LinkedGraphs.{get_or-linked, length-linked}
use Rattle.project_views.specs.Parts.{IsPart}
use Rattle.project_views.proofs.ListedGraph.{get_or-listed_from, length-listed_from}
use Rattle.project_minimal.specs.MinimalSet.{NeedSources, is_needed, needed_ranks, needs, said_of, uses, wants_of, units_at}
use Rattle.project_minimal.proofs.Least.{is_needy, some_passes}

in_filter : (p : ℕ → Bool) (xs : List ℕ) (x : ℕ) → Contains xs x → p x ≡ true → Contains (filter p xs) x
in_filter p [] x (k, within, is) told = absurd (omega arith)
in_filter p (first ∷ xs) x (zero, within, is) told = rw (ap p is ∙ told) (zero, omega arith, is)
in_filter p (first ∷ xs) x (suc k, within, is) told = elim (p first) as (λ b. Contains (cond b (first ∷ filter p xs) (filter p xs)) x) [ true ↦ let rest = in_filter p xs x (k, omega arith, is) told in (suc rest.0, omega (arith, rest.1), rest.2) | false ↦ in_filter p xs x (k, omega arith, is) told ]

module _ (said : NeedSources) (tests : List Bench) (order : List ℕ) where
  abbrev rank_needed : ℕ → Bool
  rank_needed rank = is_needed said tests (slice_index order rank)

  ranks_rise : IsStrictlyIncreasing (needed_ranks said tests order)
  ranks_rise = IsStrictlyIncreasing-filter rank_needed (below (length order)) (below_rises (length order))

  ranks_within : All (λ rank. rank < length order) (needed_ranks said tests order)
  ranks_within = All-filter rank_needed (λ rank. rank < length order) (below (length order)) (below_all (length order))

  ranks_needed : All (λ rank. rank_needed rank ≡ true) (needed_ranks said tests order)
  ranks_needed = filter_passes rank_needed (below (length order))

  rank_there : (rank : ℕ) → rank < length order → rank_needed rank ≡ true → Contains (needed_ranks said tests order) rank
  rank_there rank low needed = in_filter rank_needed (below (length order)) rank (in_below (length order) rank low) needed

-- what a file uses it needs
used_needed : (said : NeedSources) (user used : ℕ) → uses said.edges user used ≡ true → needs said user used ≡ true
unfolding needs
used_needed said user used is = or_first (uses said.edges user used) (list_any (λ unit. wants_of said unit used) (units_at said user)) is

-- ## Linked projects

module _ (said : NeedSources) (tests : List Bench) (edges : List (List ℕ)) (order : List ℕ) (is_edges : said.edges ≡ Some edges) (as_many : length edges ≡ length said.files) (are : AreEdges edges) (is : IsBuildOrder edges order) where
  dep_used : (user dep : ℕ) → Contains (deps_in edges user) dep → uses said.edges user dep ≡ true
  dep_used user dep there = ap (λ (e : Option (List (List ℕ))). uses e user dep) is_edges ∙ some_passes (λ other. other == dep) (deps_in edges user) dep there (eq-eqb dep dep refl)

  dep_within : (user dep : ℕ) → Contains (deps_in edges user) dep → dep < length said.files
  dep_within user dep (k, low, at) = omega (arith, are.within user k dep low, at, as_many)

  -- what a needed file depends on, directly or not, is needed
  needed_on : (steps file other : ℕ) → file < length said.files → is_needed said tests file ≡ true → reaches_within edges steps file other ≡ true → is_needed said tests other ≡ true
  unfolding reaches_within
  needed_on zero file other low needed reached = let never : ⊥ = cc in absurd never
  needed_on (suc steps) file other low needed reached =
      let found = some_of (λ dep. dep == other || reaches_within edges steps dep other) (deps_in edges file) reached in
      let within : found.0 < length said.files = dep_within file found.0 found.1 in
      let next : is_needed said tests found.0 ≡ true = (is_needy said tests).grown file found.0 low within needed (used_needed said file found.0 (dep_used file found.0 found.1)) in
      elim (or_cases (found.0 == other) (reaches_within edges steps found.0 other) found.2) [
        | inl same ↦ subst (λ (k : ℕ). is_needed said tests k ≡ true) (eqb-true found.0 other same) next
        | inr more ↦ needed_on steps found.0 other within next more
      ]

  file_low : (rank : ℕ) → rank < length order → get_or order rank 0 < length said.files
  file_low rank low = omega (arith, is.within rank 0 low, as_many)

module _ (project : Project) (texts : List (List ℕ)) (scans : List Scan) (tests : List Bench) (edges : List (List ℕ)) (order : List ℕ) (proper : IsProject project) (fit : FitTexts project.files texts) (are : AreEdges edges) (as_many : length edges ≡ length project.files) (is : IsBuildOrder edges order) where
  abbrev said : NeedSources
  said = said_of project texts scans (Some edges)

  abbrev kept : List ℕ
  kept = needed_ranks said tests order

  -- what a needed file has in its closure is needed
  closed_rank : (rank at : ℕ) → rank < length order → rank_needed said tests order rank ≡ true → at < length order → reaches edges (get_or order rank 0) (get_or order at 0) ≡ true → Contains kept at
  closed_rank rank at low needed within reached =
      rank_there said tests order at within (needed_on said tests edges order refl as_many are is (length edges) (get_or order rank 0) (get_or order at 0) (file_low said tests edges order refl as_many are is rank low) needed reached)

  closed_entry : (rank : ℕ) (other : Entry) → rank < length order → rank_needed said tests order rank ≡ true → All (Contains kept) (get_or (linked project.files texts edges order) rank other).deps
  closed_entry rank other low needed =
      subst (λ (e : Entry). All (Contains kept) e.deps) (sym (get_or-linked project texts edges order proper fit are as_many is rank other low))
      (λ k d within.
      closed_rank rank (get_or (closure_of edges order (get_or order rank 0)) k d) low needed
      (All-filter (λ position. reaches edges (get_or order rank 0) (get_or order position 0)) (λ at. at < length order) (below (length order)) (below_all (length order)) k d within)
      (filter_passes (λ position. reaches edges (get_or order rank 0) (get_or order position 0)) (below (length order)) k d within))

  pub linked_part : IsPart (linked project.files texts edges order) kept
  linked_part = record {
    rising = ranks_rise said tests order;
    within = λ k d low. let within = ranks_within said tests order k d low in omega (arith, within, length-linked project texts edges order proper fit are as_many is);
    closed = λ k d low other. closed_entry (get_or kept k d) other (ranks_within said tests order k d low) (ranks_needed said tests order k d low);
  }

  pub linked_part_of : (graph : List Entry) (ranks : List ℕ) → graph ≡ linked project.files texts edges order → ranks ≡ kept → IsPart graph ranks
  linked_part_of graph ranks all some = subst (λ (g : List Entry). IsPart g ranks) (sym all) (subst (IsPart (linked project.files texts edges order)) (sym some) linked_part)

-- ## Listed projects

module _ (project : Project) (texts : List (List ℕ)) (scans : List Scan) (tests : List Bench) (each : length texts ≡ length project.files) where
  abbrev listed_said : NeedSources
  listed_said = said_of project texts scans None

  abbrev files : List ℕ
  files = below (length project.files)

  abbrev listed_kept : List ℕ
  listed_kept = needed_ranks listed_said tests files

  at_rank : (rank : ℕ) → rank < length files → get_or files rank 0 ≡ rank
  at_rank rank low = get_or-below (length project.files) rank 0 (omega (arith, low, length-below (length project.files)))

  earlier_needed : (rank at : ℕ) → rank < length files → rank_needed listed_said tests files rank ≡ true → at < rank → Contains listed_kept at
  earlier_needed rank at low needed before =
      let most : length files ≡ length project.files = length-below (length project.files) in
      let here : is_needed listed_said tests rank ≡ true = sym (ap (is_needed listed_said tests) (at_rank rank low)) ∙ needed in
      let there : is_needed listed_said tests at ≡ true = (is_needy listed_said tests).grown rank at (omega (arith, low, most)) (omega (arith, low, most, before)) here (used_needed listed_said rank at (lt-ltb at rank before)) in
      rank_there listed_said tests files at (omega (arith, low, before)) (ap (is_needed listed_said tests) (at_rank at (omega (arith, low, before))) ∙ there)

  entry_deps : (rank : ℕ) (other : Entry) → rank < length files → (get_or (listed project.files texts) rank other).deps ≡ below rank
  entry_deps rank other low =
      let most : length files ≡ length project.files = length-below (length project.files) in
      let zero_plus : 0 + rank ≡ rank = omega arith in
      ap (λ (e : Entry). e.deps) (get_or-listed_from 0 project.files texts rank other (record { name = other.name; command = other.command }) [] (omega (arith, each)) (omega (arith, each, low, most))) ∙ ap below zero_plus

  pub listed_part : IsPart (listed project.files texts) listed_kept
  listed_part = record {
    rising = ranks_rise listed_said tests files;
    within = λ k d low. let within = ranks_within listed_said tests files k d low in omega (arith, within, length-below (length project.files), length-listed_from 0 project.files texts (omega (arith, each)), each);
    closed = λ k d low other.
        let rank : ℕ = get_or listed_kept k d in
        let within : rank < length files = ranks_within listed_said tests files k d low in
        subst (λ (deps : List ℕ). All (Contains listed_kept) deps) (sym (entry_deps rank other within))
        (λ j c m. let before : j < rank = omega (arith, m, length-below rank) in
        let is : get_or (below rank) j c ≡ j = get_or-below rank j c before in
        subst (Contains listed_kept) (sym is) (earlier_needed rank j within (ranks_needed listed_said tests files k d low) before));
  }

  pub listed_part_of : (graph : List Entry) (ranks : List ℕ) → graph ≡ listed project.files texts → ranks ≡ listed_kept → IsPart graph ranks
  listed_part_of graph ranks all some = subst (λ (g : List Entry). IsPart g ranks) (sym all) (subst (IsPart (listed project.files texts)) (sym some) listed_part)
