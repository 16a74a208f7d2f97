-- Names of files that are read from the start of bytes.
use Rattle.std.specs.Prelude.{ℕ, ◌<◌, ◌^◌, List, length, Option, Some}
use Rattle.base.specs.declared.file.FileName.{FileName}
use Rattle.base_bytes.specs.Reading.{◌>>=◌, text_at}

-- the name of a file at the start of bytes: a library and a path, as texts
unfoldable pub name_at : List ℕ → Option (FileName × List ℕ)
name_at bytes = do
  library ← text_at bytes
  path ← text_at library.1
  Some (record { library = library.0; path = path.0 }, path.1)

-- library and path are short enough for their lengths to fit into four bytes
pub record HasNameSpelling (name : FileName) : Type 0 where
  pub library : length name.library < 2 ^ 32
  pub path : length name.path < 2 ^ 32
