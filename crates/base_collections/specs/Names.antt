-- What is in a set of names of files.
use Rattle.std.specs.Prelude.{◌≡◌, List}
use Rattle.base.specs.declared.file.FileName.{FileName}
use Rattle.base.specs.Names.{has_name}

-- a set has just these names
abbrev pub Holds : List FileName → List FileName → Type 0
Holds set names = (name : FileName) → has_name set name ≡ has_name names name
