-- A record of a store as bytes: a view, and what the compiler gave for its last file.
use Rattle.std.specs.Prelude.{ℕ, ◌≤◌, List, ◌++◌, length, All, ◌<◌, ◌^◌}
use Rattle.std.specs.List.{flat_map}
use Rattle.base.specs.declared.graph.Entry.{Entry}
use Rattle.base.specs.Bytes.{number_bytes, text_bytes}
use Rattle.base.specs.Graphs.{IsGraph}
use Rattle.base.specs.View.{IsView}
use Rattle.base.specs.Jobs.{name_bytes}
use Rattle.base.specs.declared.limits.TheConstants.{ARTEFACT_LIMIT}

-- words, after their number
unfoldable pub words_bytes : List (List ℕ) → List ℕ
words_bytes words = number_bytes (length words) ++ flat_map text_bytes words

-- positions, after their number
unfoldable pub positions_bytes : List ℕ → List ℕ
positions_bytes positions = number_bytes (length positions) ++ flat_map number_bytes positions

-- a file: its name, the words of its compiler, its text, and what it depends on
unfoldable pub entry_bytes : Entry → List ℕ
entry_bytes entry = name_bytes entry.name ++ (words_bytes entry.command ++ (text_bytes entry.text ++ positions_bytes entry.deps))

-- the files of the view, after their number, and then the artefact
unfoldable pub record_bytes : List Entry → List ℕ → List ℕ
record_bytes view artefact = number_bytes (length view) ++ (flat_map entry_bytes view ++ text_bytes artefact)

-- a view, and at most 262,144 bytes of artefact
pub record IsRecord (view : List Entry) (artefact : List ℕ) : Type 0 where
  pub graph : IsGraph view
  pub whole : IsView view
  pub small : length artefact ≤ ARTEFACT_LIMIT

-- what has a spelling
pub record HasSpelling (entry : Entry) : Type 0 where
  pub library : length entry.name.library < 2 ^ 32
  pub path : length entry.name.path < 2 ^ 32
  pub count : length entry.command < 2 ^ 32
  pub words : All (λ word. length word < 2 ^ 32) entry.command
  pub text : length entry.text < 2 ^ 32
  pub few : length entry.deps < 2 ^ 32
  pub deps : All (λ dep. dep < 2 ^ 32) entry.deps
