-- So far those of the files up to the index are there.
use Rattle.std.proofs.Common.{◌≡◌, ℕ, List, take}
use Rattle.std.specs.List.{list_any}
use Rattle.std.specs.Str.{bytes_eq}
use Rattle.vhdl_graph.specs.Libraries.{knows}
use Rattle.vhdl_graph.proofs.libraries.own_names.Given as goal

abbrev pub invariant-loop-file : goal.invariant-loop-file
invariant-loop-file l = (other : List ℕ) → knows l.names other ≡ list_any (λ file. bytes_eq other file.name.library) (take l.file-index l.files)
