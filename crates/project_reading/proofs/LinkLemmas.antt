-- What linking says of a project.
use Rattle.std.proofs.Common.{◌≡◌, ℕ, List, [], length, Option, Some, None, Result, Ok, Err, ap, sym, ◌∙◌}
use Rattle.std.specs.Option.{option_map_or, option_or}
use Rattle.std.proofs.lemmas.List.{length-map}
use Rattle.base.specs.declared.linking.Linked.{Linked}
use Rattle.base.specs.declared.linking.LinkFault.{LinkFault}
use Rattle.base.specs.declared.project.Project.{Project}
use Rattle.base.specs.PresentGraph.{below}
use Rattle.base.proofs.Below.{length-below}
use Rattle.std.specs.List.{filter, flat_map}
use Rattle.vhdl_spec.specs.Dependencies.{LinkUnit, link_of, edges_of, depends_on, warnings_of, first_duplicate, first_missing}

same_edges : (mine said : Linked) → ◌≡◌ {A = Result Linked LinkFault} (Ok mine) (Ok said) → mine.edges ≡ said.edges
same_edges mine said same = cc

-- each file of a project has its edges
pub edges_for_each : (project : Project) (units : List LinkUnit) (links : Linked) → link_of project units ≡ Ok links → length links.edges ≡ length project.files
edges_for_each project units links is = by_cases (option_or (first_duplicate [] units) (first_missing project units)) is where
  mine : Linked
  mine = record { edges = edges_of project units; warnings = flat_map (warnings_of project units) units }

  count : length (edges_of project units) ≡ length project.files
  count = length-map (below (length project.files)) (λ user. filter (depends_on project units user) (below (length project.files))) ∙ length-below (length project.files)

  by_cases : (fault : Option LinkFault) → option_map_or (λ f. Err f) fault (Ok mine) ≡ Ok links → length links.edges ≡ length project.files
  by_cases None same = ap (λ (edges : List (List ℕ)). length edges) (sym (same_edges mine links same)) ∙ count
  by_cases (Some fault) same = let nothing : ⊥ = cc in absurd nothing
