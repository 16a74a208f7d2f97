-- The result that C gets for the graph of a project.
use Rattle.std.specs.Prelude.{◌≡◌, ℕ, ◌-◌, true, List, Ok, length, slice_get}
use Rattle.std.specs.Option.{option_map_or}
use Rattle.base.specs.declared.design.Scan.{Scan}
use Rattle.base.specs.declared.graph.Entry.{Entry}
use Rattle.base.specs.declared.linking.Warning.{Warning}
use Rattle.base.specs.declared.project.Project.{Project}
use Rattle.base.specs.declared.project.ProjectFile.{ProjectFile}
use Rattle.vhdl_spec.specs.Dependencies.{link_of, link_units}
use Rattle.vhdl_spec.specs.Scans.{AreScansOf}
use Rattle.order.specs.BuildOrder.{Cyclic, Ordered, file_order}
use Rattle.order.specs.LinkedGraph.{linked}
use Rattle.project_file.specs.Csv.{csv_project}
use Rattle.bench_library.specs.declared.graphs.Graphed.{Graphed}
use Rattle.bench_library.specs.Projects.{parts_at}

-- how many files the last file of a graph depends on
abbrev pub last_deps : List Entry → ℕ
last_deps graph = option_map_or (λ entry. length entry.deps) (slice_get graph (length graph - 1)) 0

-- the files have an order; their graph in this order has `count` files, and its last file has `deps` dependencies
pub record HasGraph (files : List ProjectFile) (texts edges : List (List ℕ)) (count deps : ℕ) : Type 0 where
  pub order : List ℕ
  pub ordered : file_order edges ≡ Ordered order
  pub counted : count ≡ length (linked files texts edges order)
  pub last : deps ≡ last_deps (linked files texts edges order)

-- some files depend on each other in a circle, so no order of all files exists
pub record HasCycle (edges : List (List ℕ)) : Type 0 where
  pub files : List ℕ
  pub cyclic : file_order edges ≡ Cyclic files

-- the result by the dependencies of the files: a graph if it is whole, and a cycle if it is cyclic
pub record IsGraphed (files : List ProjectFile) (texts edges : List (List ℕ)) (told : Graphed) : Type 0 where
  pub whole : told.whole ≡ true → HasGraph files texts edges told.files told.deps
  pub cyclic : told.cyclic ≡ true → HasCycle edges

-- the result by the dependencies that the texts link to
pub record TellsLinks (project : Project) (texts : List (List ℕ)) (told : Graphed) : Type 0 where
  pub scans : List Scan
  pub are : AreScansOf texts scans
  pub edges : List (List ℕ)
  pub warnings : List Warning
  pub links : link_of project (link_units 0 project.files texts scans) ≡ Ok (record { edges = edges; warnings = warnings })
  pub graph : IsGraphed project.files texts edges told

-- the result for the project of a project file, whose files are the parts of a text
pub record IsTold (csv text ends : List ℕ) (told : Graphed) : Type 0 where
  pub project : Project
  pub said : csv_project csv ≡ Ok project
  pub links : TellsLinks project (parts_at text 0 ends) told

-- a project file gives a project, whose files are the parts of a text; there are `count` parts
pub record HasSources (csv text ends : List ℕ) (count : ℕ) : Type 0 where
  pub project : Project
  pub said : csv_project csv ≡ Ok project
  pub counted : count ≡ length (parts_at text 0 ends)
