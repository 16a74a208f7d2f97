-- What remains to be proved of `files_of`.
use Rattle.std.proofs.lemmas.Result.{err_from_is_err_and}
use Rattle.std.specs.Borrow.{Bor}
use Rattle.std.specs.BTreeMap.{BTreeMap}
use Rattle.std.specs.Prelude.{String}
use Rattle.std.specs.declared.alloc.Global.{Global}
use Rattle.toml.specs.declared.value.Value.{Value}
use Rattle.toml.specs.View.{table_view}
use Rattle.project_file.proofs.LibrarySum.{table_more, table_fails, files_all, named_more, named_all}
use Rattle.project_file.proofs.libraries.files_of.Goals as goal

pub returns-in_err-files-clause-files : goal.returns-in_err-files-clause-files
returns-in_err-files-clause-files c =
    let p = err_from_is_err_and c.from_residual-in_err-files.result c.from_residual-in_err-files.ensures.1 in
    rw (p.1, p.2) (table_fails (λ (t : Bor (BTreeMap (String Global) Value)). table_view t.now) c.args.names.now c.args.compiler.now c.args.tables.now c.loop-i.i c.index-tables-i.result c.loop-i-test.true c.index-tables-i.is c.loop-i.files c.loop-i.libraries.keys _ c.loop-i.invariant.files c.in_err-files.field-0.0 c.in_err-files.ensures.fails)

pub loop-i-preserved : goal.loop-i-preserved
loop-i-preserved c =
    let added = c.in_ok-files.ensures.added in
    record {
      size = c.in_ok-files.ensures.size;
      keys = added.keys;
      named = named_more (λ (t : Bor (BTreeMap (String Global) Value)). table_view t.now) c.args.tables.now c.loop-i.i c.index-tables-i.result c.loop-i.libraries.keys c.add_table.new.before.keys c.loop-i-test.true c.index-tables-i.is c.loop-i.invariant.named added.named;
      few = added.few;
      files = table_more (λ (t : Bor (BTreeMap (String Global) Value)). table_view t.now) c.args.names.now c.args.compiler.now c.args.tables.now c.loop-i.i c.index-tables-i.result c.loop-i-test.true c.index-tables-i.is c.loop-i.files c.loop-i.libraries.keys _ c.loop-i.invariant.files c.add_table.new.before.keys c.in_ok-files.files added;
    }

pub returns-clause-files : goal.returns-clause-files
returns-clause-files c = files_all (λ (t : Bor (BTreeMap (String Global) Value)). table_view t.now) c.args.names.now c.args.compiler.now c.args.tables.now c.loop-i.i c.loop-i.files c.loop-i.libraries.keys _ c.loop-i-test.false c.loop-i.invariant.few c.loop-i.invariant.files

pub returns-clause-libraries : goal.returns-clause-libraries
returns-clause-libraries c = named_all (λ (t : Bor (BTreeMap (String Global) Value)). table_view t.now) c.args.tables.now c.loop-i.i c.loop-i.libraries.keys c.loop-i-test.false c.loop-i.invariant.keys c.loop-i.invariant.named
