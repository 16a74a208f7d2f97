-- The graph of the generated project, whatever order its files come in.
use Rattle.std.specs.Prelude.{◌≡◌, ℕ, ◌<◌, ◌≤◌, List, slice_index}
use Rattle.base.specs.declared.file.FileName.{FileName}
use Rattle.base.specs.declared.graph.Entry.{Entry}
use Rattle.base.specs.declared.limits.TheConstants.{FILE_LIMIT}
use Rattle.base.specs.Names.{FitsCommand}
use Rattle.order.specs.BuildOrder.{Ordered, file_order}
use Rattle.generated_sources.specs.PackageLinks.{used_library}
use Rattle.generated_sources.specs.NumberedFiles.{AreAllNumbers, numbered_bytes, numbered_edges, numbered_path}

-- The bench and `count` packages, at least one and fewer than the limit of files, with a command that compiles them and their
-- compile order.
pub record AreInOrder (count : ℕ) (command : List (List ℕ)) (numbers order : List ℕ) : Type 0 where
  pub some : 1 ≤ count
  pub few : count < FILE_LIMIT
  pub fits : FitsCommand command
  pub all : AreAllNumbers count numbers
  pub ordered : file_order (numbered_edges numbers) ≡ Ordered order

-- the number of the file at a position of the graph
abbrev pub ordered_number : (numbers order : List ℕ) → (position : ℕ) → ℕ
ordered_number numbers order position = slice_index numbers (slice_index order position)

-- the library `lib`, and the path of the bench or of a package
abbrev pub numbered_name : ℕ → FileName
numbered_name number = record { library = used_library; path = numbered_path number }

-- a file of a graph is that of a number
pub record IsEntryOfNumber (command : List (List ℕ)) (edited number : ℕ) (entry : Entry) : Type 0 where
  pub name_is : entry.name ≡ numbered_name number
  pub command_is : entry.command ≡ command
  pub text_is : entry.text ≡ numbered_bytes edited number
