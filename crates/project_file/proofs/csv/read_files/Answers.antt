-- What remains to be proved of `read_files`.
use Rattle.std.proofs.Common.{sym, ap, ◌∙◌}
use Rattle.project_file.specs.Csv.{files_after}
use Rattle.project_file.proofs.csv.read_files.Goals as goal

pub returns-in-None : goal.returns-in-None
unfolding files_after
returns-in-None c = sym c.lines.invariant.files ∙ ap (files_after c.lines.files c.lines.number) c.in-None.ensures.lines
