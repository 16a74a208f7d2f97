-- What the loop of `add_files` keeps: the files at the indices so far are added.
use Rattle.std.proofs.Common.{◌≡◌, ◌++◌, take, map}
use Rattle.project_file.specs.Toml.{file_in}
use Rattle.project_file.specs.Libraries.{texts_at}
use Rattle.project_file.proofs.libraries.add_files.Given as goal

abbrev pub invariant-loop-i : goal.invariant-loop-i
invariant-loop-i l = l.files ≡ l.fn.files ++ map (file_in l.library l.command) (texts_at l.names (take l.i l.indices))
