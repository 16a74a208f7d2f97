-- Duplicates first, and then what the files answer.
use Rattle.std.proofs.lemmas.Result.{err_from_is_err_and}
use Rattle.vhdl_spec.specs.Dependencies.{link_units}
use Rattle.vhdl_graph.proofs.EdgeLemmas.{gives_edges}
use Rattle.vhdl_graph.proofs.FileLemmas.{all_links}
use Rattle.vhdl_graph.proofs.linking.link.Goals as goal

pub returns-in_err-rows-clause-exact : goal.returns-in_err-rows-clause-exact
returns-in_err-rows-clause-exact c scans are =
    let p = err_from_is_err_and c.from_residual-in_err-rows.result c.from_residual-in_err-rows.ensures.1 in
    rw (p.1, p.2) tt

pub returns-clause-exact : goal.returns-clause-exact
returns-clause-exact c scans are = all_links c.args.project.now (link_units 0 c.args.project.now.files c.args.texts.now scans) c.link_files.result (c.in_ok-index.ensures.index c.args.texts.now scans are.files).0 (c.link_files.ensures scans are)

pub returns-clause-edges : goal.returns-clause-edges
returns-clause-edges c =
    let scans = c.requires.outlined.scans in
    gives_edges c.args.project.now (link_units 0 c.args.project.now.files c.args.texts.now scans) c.requires.few c.link_files.result (c.link_files.ensures scans c.requires.outlined.are)
