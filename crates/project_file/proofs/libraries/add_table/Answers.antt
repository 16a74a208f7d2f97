-- What remains to be proved of `add_table`.
use Rattle.std.proofs.lemmas.Result.{err_from_is_err_and}
use Rattle.toml.specs.View.{table_view}
use Rattle.project_file.proofs.LibrarySum.{no_files, files_more}
use Rattle.project_file.proofs.libraries.add_table.Goals as goal

pub returns-in_err-kept-clause-fails : goal.returns-in_err-kept-clause-fails
returns-in_err-kept-clause-fails c =
    let named = c.in_ok-library.ensures c.requires.keys in
    let p = err_from_is_err_and c.from_residual-in_err-kept.result c.from_residual-in_err-kept.ensures.1 in
    rw (p.1, p.2) (no_files c.args.names.now c.args.compiler.now (table_view c.args.table.now) c.args.files c.args.before.now.keys c.in_ok-library.library named.0 c.in_err-kept.field-0.0 c.in_err-kept.ensures.added)

pub returns-clause-added : goal.returns-clause-added
returns-clause-added c =
    let named = c.in_ok-library.ensures c.requires.keys in
    files_more c.args.names.now c.args.compiler.now (table_view c.args.table.now) c.args.files c.args.before.now.keys c.in_ok-library.library named.0 c.library_after.new.before.keys c.in_ok-kept.kept c.requires.keys named.1 c.in_ok-kept.ensures.added
