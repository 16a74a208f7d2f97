-- What a compiler is asked: the bytes of its input.
use Rattle.std.specs.Prelude.{ℕ, List, ◌++◌, length, codes}
use Rattle.std.specs.List.{flat_map}
use Rattle.base.specs.declared.file.FileName.{FileName}
use Rattle.base.specs.declared.graph.BuiltFile.{BuiltFile}
use Rattle.base.specs.declared.graph.Entry.{Entry}
use Rattle.base.specs.declared.child.Request.{Request}
use Rattle.base.specs.declared.child.MaybeText.TheVariants.{Nothing}
use Rattle.base.specs.Bytes.{number_bytes, text_bytes}

-- a file: its library and its path
unfoldable pub name_bytes : FileName → List ℕ
name_bytes name = text_bytes name.library ++ text_bytes name.path

-- a file that was built: its name and its artefact
unfoldable pub built_bytes : BuiltFile → List ℕ
built_bytes file = name_bytes file.name ++ text_bytes file.artefact

-- the files that were built, after their number
unfoldable pub all_built_bytes : List BuiltFile → List ℕ
all_built_bytes files = number_bytes (length files) ++ flat_map built_bytes files

-- the input of a compiler: a file, its text, and the files that it depends on, in compile order
unfoldable pub compile_input : FileName → List ℕ → List BuiltFile → List ℕ
compile_input name source built = codes "VRC1" ++ (name_bytes name ++ (text_bytes source ++ all_built_bytes built))

-- what a compiler is started with for a file over the files that it depends on
abbrev pub compile_request : Entry → List BuiltFile → Request
compile_request entry built = record { command = entry.command; input = compile_input entry.name entry.text built; results = Nothing }
