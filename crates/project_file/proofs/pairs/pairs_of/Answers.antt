-- What remains to be proved of `pairs_of`.
use Rattle.std.proofs.lemmas.Result.{err_from_is_err_and}
use Rattle.std.specs.Borrow.{Bor}
use Rattle.std.specs.BTreeMap.{BTreeMap}
use Rattle.std.specs.Prelude.{String}
use Rattle.std.specs.declared.alloc.Global.{Global}
use Rattle.toml.specs.declared.value.Value.{Value}
use Rattle.toml.specs.View.{table_view}
use Rattle.project_file.proofs.PairSteps.{pair_more, pair_fails, pairs_all}
use Rattle.project_file.proofs.pairs.pairs_of.Goals as goal

pub returns-in_err-pair_of : goal.returns-in_err-pair_of
returns-in_err-pair_of c =
    let p = err_from_is_err_and c.from_residual-in_err-pair_of.result c.from_residual-in_err-pair_of.ensures.1 in
    rw (p.1, p.2) (pair_fails (λ (t : Bor (BTreeMap (String Global) Value)). table_view t.now) c.args.files.now c.args.tables.now c.loop-i.i c.index-tables-i.result c.loop-i-test.true c.index-tables-i.is c.loop-i.pairs _ c.loop-i.invariant c.in_err-pair_of.field-0.0 (c.in_err-pair_of.ensures c.args.files.now c.in_ok-index.ensures))

pub loop-i-preserved : goal.loop-i-preserved
loop-i-preserved c = pair_more (λ (t : Bor (BTreeMap (String Global) Value)). table_view t.now) c.args.files.now c.args.tables.now c.loop-i.i c.index-tables-i.result c.loop-i-test.true c.index-tables-i.is c.loop-i.pairs _ c.loop-i.invariant c.in_ok-pair_of.field-0 c.push.new.self (c.in_ok-pair_of.ensures c.args.files.now c.in_ok-index.ensures) c.in_ok-push.ensures.ok

pub returns : goal.returns
returns c = pairs_all (λ (t : Bor (BTreeMap (String Global) Value)). table_view t.now) c.args.files.now c.args.tables.now c.loop-i.i c.loop-i.pairs _ c.loop-i-test.false c.loop-i.invariant
