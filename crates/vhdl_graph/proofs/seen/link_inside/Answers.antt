-- First what is missing, then what is named.
use Rattle.std.proofs.lemmas.Result.{err_from_is_err_and}
use Rattle.vhdl_graph.proofs.seen.link_inside.Goals as goal

pub returns-in_err-check_ref : goal.returns-in_err-check_ref
returns-in_err-check_ref c units known =
    let p = err_from_is_err_and c.from_residual-in_err-check_ref.result c.from_residual-in_err-check_ref.ensures.1 in
    rw (p.1, p.2) (c.in_err-check_ref.ensures units known.index.holds known.libraries)

pub returns : goal.returns
returns c units known = ((c.in_ok-check_ref.ensures units known.index.holds known.libraries).0, c.in_ok-put_ref.ensures c.args.project.now.files units known.index)
