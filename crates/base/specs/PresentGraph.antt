-- The present graph of a listed project: the files in listed order, each depending on all earlier ones.
use Rattle.std.specs.Prelude.{◌≡◌, ℕ, zero, suc, List, [], ◌∷◌, ◌++◌, slice_get, Some}
use Rattle.base.specs.declared.graph.Entry.{Entry}
use Rattle.base.specs.declared.project.ProjectFile.{ProjectFile}

-- the numbers below n, rising
unfoldable pub below : ℕ → List ℕ
below zero = []
below (suc n) = below n ++ n ∷ []

-- a file at a position of a listed project
abbrev pub listed_entry : ℕ → ProjectFile → List ℕ → Entry
listed_entry position file text = record { name = file.name; command = file.command; text = text; deps = below position }

-- the files with their texts, from a position on
unfoldable pub listed_from : ℕ → List ProjectFile → List (List ℕ) → List Entry
listed_from position [] texts = []
listed_from position (file ∷ files) [] = []
listed_from position (file ∷ files) (text ∷ texts) = listed_entry position file text ∷ listed_from (suc position) files texts

-- the graph of a listed project with these texts: each file depends on all before it
abbrev pub listed : List ProjectFile → List (List ℕ) → List Entry
listed files texts = listed_from 0 files texts

-- each file of the graph depends on all earlier ones
abbrev pub IsListed : List Entry → Type 0
IsListed graph = (position : ℕ) (entry : Entry) → slice_get graph position ≡ Some entry → entry.deps ≡ below position
