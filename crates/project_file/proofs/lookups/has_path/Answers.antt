-- What remains to be proved of `has_path`.
use Rattle.std.proofs.Common.{◌≡◌, subst, Some}
use Rattle.std.specs.Prelude.{Contains, slice_get}
use Rattle.toml.specs.View.{table_view}
use Rattle.base.specs.declared.file.FileName.{FileName}
use Rattle.project_file.proofs.FewFiles.{has_named, has_unnamed}
use Rattle.project_file.proofs.lookups.has_path.Goals as goal

pub returns-in-None : goal.returns-in-None
returns-in-None c = λ names are. has_unnamed names c.args.paths.now.keys c.args.path.now (table_view c.args.table.now) are (subst (λ (key : FileName). ¬ Contains c.args.paths.now.keys key) c.in_ok-key.ensures c.in-None.ensures)

pub returns : goal.returns
returns c = λ names are. has_named names c.args.paths.now.keys c.args.path.now c.in-Some._index (table_view c.args.table.now) c.is_wanted.result are (subst (λ (key : FileName). slice_get c.args.paths.now.keys c.in-Some._index ≡ Some key) c.in_ok-key.ensures c.in-Some.ensures) c.is_wanted.ensures
