-- The libraries of a project: libraries that have files in it, and external libraries.
use Rattle.std.specs.Prelude.{◌≡◌, ℕ, Bool, ◌&&◌, ◌||◌, not, List, [], ◌∷◌, Vec, codes}
use Rattle.std.specs.Global.{Global}
use Rattle.std.specs.List.{list_any}
use Rattle.std.specs.Str.{bytes_eq}
use Rattle.indexmap.specs.IndexSet.{IndexSet}
use Rattle.base.specs.declared.project.Project.{Project}
use Rattle.vhdl_spec.specs.Dependencies.{has_files, is_one_of}
use Rattle.vhdl_graph.specs.declared.libraries.Libraries.{Libraries}

-- a name is among names
abbrev pub knows : {S : Type 0} → IndexSet (Vec ℕ Global) S → List ℕ → Bool
knows names name = list_any (λ key. bytes_eq name key.items) names.keys

-- the libraries that are outside of every project that has no files in them
abbrev pub always_external : List (List ℕ)
always_external = codes "std" ∷ codes "ieee" ∷ codes "vunit_lib" ∷ []

-- the libraries of a project
pub record AreLibraries (project : Project) (libraries : Libraries) : Type 0 where
  pub own : (name : List ℕ) → knows libraries.own name ≡ has_files project name
  pub external : (name : List ℕ) → knows libraries.external name ≡ (is_one_of project.external name || is_one_of always_external name)

-- a library isn't looked into
abbrev pub stands_outside : Libraries → List ℕ → Bool
stands_outside libraries library = not (knows libraries.own library) && knows libraries.external library
