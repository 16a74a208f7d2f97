-- The files of the generated project as the compiler that is part of the program is asked for them.
use Rattle.std.specs.Prelude.{◌≡◌, ℕ, Bool, List, codes}
use Rattle.std.specs.List.{Contains}
use Rattle.base.specs.declared.graph.BuiltFile.{BuiltFile}
use Rattle.base.specs.declared.graph.Entry.{Entry}
use Rattle.generated_sources.specs.PackageLinks.{used_library}
use Rattle.memory_children.specs.Answers.{second_word}
use Rattle.generated_children.specs.CompiledTexts.{package_artefact}

-- a file of the library `lib` with this path and this text, whose command is that compiler
pub record IsLoopEntry (path text : List ℕ) (entry : Entry) : Type 0 where
  pub library : entry.name.library ≡ used_library
  pub path_is : entry.name.path ≡ path
  pub text_is : entry.text ≡ text
  pub compiler : second_word entry.command ≡ codes "child-analyse"

-- a file of that library whose artefact is the artefact of this package, edited or not
pub record IsPackageBuilt (number : ℕ) (file : BuiltFile) : Type 0 where
  pub library : file.name.library ≡ used_library
  pub noted : Bool
  pub artefact : file.artefact ≡ package_artefact number noted

-- one of the files that were built is that of a package
pub record HasPackage (number : ℕ) (files : List BuiltFile) : Type 0 where
  pub file : BuiltFile
  pub among : Contains files file
  pub is : IsPackageBuilt number file
