-- What remains to be proved of `check_pair`.
use Rattle.std.proofs.lemmas.Result.{err_from_is_err_and}
use Rattle.toml.specs.View.{table_view}
use Rattle.project_file.proofs.FewLinks.{pair_fails, pair_goes_on}
use Rattle.project_file.proofs.lookups.check_pair.Goals as goal

pub returns-in_err-check_index : goal.returns-in_err-check_index
returns-in_err-check_index c = λ names compiler files gives.
    let p = err_from_is_err_and c.from_residual-in_err-check_index.result c.from_residual-in_err-check_index.ensures.1 in
    rw (p.1, p.2) (pair_fails files (table_view c.args.table.now) c.in_ok-user.user c.in_ok-used.used c.in_err-check_index.field-0.0 c.in_ok-user.ensures c.in_ok-used.ensures (c.in_err-check_index.ensures names compiler files gives))

pub returns : goal.returns
returns c = λ names compiler files gives.
    pair_goes_on files (table_view c.args.table.now) c.in_ok-user.user c.in_ok-used.used c.check_index-2.result c.in_ok-user.ensures c.in_ok-used.ensures (c.in_ok-check_index.ensures names compiler files gives) (c.check_index-2.ensures names compiler files gives)
