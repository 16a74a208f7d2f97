-- What remains to be proved of `check_pairs`.
use Rattle.std.proofs.lemmas.Result.{err_from_is_err_and}
use Rattle.std.specs.Borrow.{Bor}
use Rattle.std.specs.BTreeMap.{BTreeMap}
use Rattle.std.specs.Prelude.{String}
use Rattle.std.specs.declared.alloc.Global.{Global}
use Rattle.toml.specs.declared.value.Value.{Value}
use Rattle.toml.specs.View.{table_view}
use Rattle.project_file.proofs.FewLinks.{link_more, link_fails, links_all}
use Rattle.project_file.proofs.lookups.check_pairs.Goals as goal

pub returns-in_err-check_pair : goal.returns-in_err-check_pair
returns-in_err-check_pair c = λ compiler files said are.
    let p = err_from_is_err_and c.from_residual-in_err-check_pair.result c.from_residual-in_err-check_pair.ensures.1 in
    rw (p.1, p.2) (link_fails (λ (t : Bor (BTreeMap (String Global) Value)). table_view t.now) files c.args.pairs.now c.loop-i.i c.index-pairs-i.result c.loop-i-test.true c.index-pairs-i.is _ (c.loop-i.invariant compiler files said are) c.in_err-check_pair.field-0.0
    (c.in_err-check_pair.ensures c.args.names.now compiler files (record { said = said; libraries = are; index = c.in_ok-paths.ensures; once = c.requires.distinct })))

pub loop-i-preserved : goal.loop-i-preserved
loop-i-preserved c = λ compiler files said are.
    link_more (λ (t : Bor (BTreeMap (String Global) Value)). table_view t.now) files c.args.pairs.now c.loop-i.i c.index-pairs-i.result c.loop-i-test.true c.index-pairs-i.is _ (c.loop-i.invariant compiler files said are)
    (c.in_ok-check_pair.ensures c.args.names.now compiler files (record { said = said; libraries = are; index = c.in_ok-paths.ensures; once = c.requires.distinct }))

pub returns : goal.returns
returns c = λ compiler files said are. links_all (λ (t : Bor (BTreeMap (String Global) Value)). table_view t.now) files c.args.pairs.now c.loop-i.i _ c.loop-i-test.false (c.loop-i.invariant compiler files said are)
