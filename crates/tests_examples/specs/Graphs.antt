-- The examples of "The graph".
use Rattle.std.specs.Prelude.{◌≡◌, ℕ, ◌+◌, ◌^◌, ◌∷◌, true, false, List, [], map, codes}
use Rattle.base.specs.PresentGraph.{below, listed}
use Rattle.base.specs.View.{rank_in, view, viewed}
use Rattle.base.specs.declared.file.FileName.{FileName}
use Rattle.base.specs.declared.graph.Entry.{Entry}
use Rattle.base.specs.declared.project.ProjectFile.{ProjectFile}
use Rattle.order.specs.BuildOrder.{Cyclic, Ordered, all_taken, deps_in, file_order}
use Rattle.order.specs.LinkedGraph.{IsWay, linked, reaches}
use Rattle.tests_examples.specs.Example.{a_name, b_name, command, file, files, name}

-- of a, b and c: b depends on a and c
abbrev three : List (List ℕ)
three = [] ∷ (0 ∷ 2 ∷ []) ∷ [] ∷ []

-- a and b depend on c, c on d, d on e, and e on c
abbrev five : List (List ℕ)
five = (2 ∷ []) ∷ (2 ∷ []) ∷ (3 ∷ []) ∷ (4 ∷ []) ∷ (2 ∷ []) ∷ []

-- of c, w and q: w depends on c, and c on q
abbrev chain : List (List ℕ)
chain = (2 ∷ []) ∷ (0 ∷ []) ∷ [] ∷ []

-- a file of a project by its name, compiled by `cc`
abbrev project_file_of : FileName → ProjectFile
project_file_of it = record { name = it; command = command }

-- a file of a graph whose path and text are a letter, with the positions of its dependencies
abbrev letter_file : ℕ → List ℕ → Entry
letter_file letter deps = file (name letter) (letter ∷ []) deps

-- three packages; the third depends only on the first
abbrev packages : List Entry
packages = letter_file 97 [] ∷ letter_file 98 [] ∷ letter_file 99 (0 ∷ []) ∷ []

-- the graph of a listed project
pub record ListedFiles : Type 0 where
  -- the third file depends on those
  pub before_third : below 2 ≡ 0 ∷ 1 ∷ []
  pub example : listed (project_file_of a_name ∷ project_file_of b_name ∷ []) (codes "x" ∷ codes "y" ∷ []) ≡ files
  pub edges : deps_in three 0 ≡ []
  pub edges_of_b : deps_in three 1 ≡ 0 ∷ 2 ∷ []

-- orders and cycles
pub record Orders : Type 0 where
  -- a, c, b
  pub order : file_order three ≡ Ordered (0 ∷ 2 ∷ 1 ∷ [])
  -- nothing can be taken; the way is a, c, d, e and again c
  pub none : all_taken five ≡ []
  pub cycle : file_order five ≡ Cyclic (2 ∷ 3 ∷ 4 ∷ [])

-- files that others reach: c is 0, w is 1 and q is 2 of the project
pub record Ways : Type 0 where
  pub reached : reaches chain 1 2 ≡ true
  pub not_back : reaches chain 2 1 ≡ false
  pub way : IsWay chain 1 (0 ∷ []) 2
  pub linked_files :
      linked (map (λ letter. project_file_of (name letter)) (99 ∷ 119 ∷ 113 ∷ [])) (codes "c" ∷ codes "w" ∷ codes "q" ∷ []) chain (2 ∷ 0 ∷ 1 ∷ [])
      ≡ letter_file 113 [] ∷ letter_file 99 (0 ∷ []) ∷ letter_file 119 (0 ∷ 1 ∷ []) ∷ []

-- views and their positions
pub record Views : Type 0 where
  pub third : view packages 2 ≡ letter_file 97 [] ∷ letter_file 99 (0 ∷ []) ∷ []
  pub indices : viewed packages 2 ≡ 0 ∷ 2 ∷ []
  pub example : view files 1 ≡ files
  pub number : rank_in (0 ∷ 2 ∷ []) 2 ≡ 1
