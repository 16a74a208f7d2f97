-- A request of a compiler before the files that its file depends on are written.
use Rattle.std.specs.Prelude.{ℕ, List, ◌++◌, codes}
use Rattle.base.specs.declared.file.FileName.{FileName}
use Rattle.base.specs.declared.graph.Entry.{Entry}
use Rattle.base.specs.Bytes.{number_bytes, text_bytes}
use Rattle.base.specs.Jobs.{name_bytes}
use Rattle.child_compile_request.specs.declared.writing.RequestWriter.{RequestWriter}

-- the input up to the number of the files that the file depends on
unfoldable pub begun_input : FileName → List ℕ → ℕ → List ℕ
begun_input name text count = codes "VRC1" ++ (name_bytes name ++ (text_bytes text ++ number_bytes count))

-- a request up to the number of the files that the file depends on, of which none is written yet
abbrev pub begun : Entry → ℕ → RequestWriter
begun entry count = record { command = entry.command; input = begun_input entry.name entry.text count }
