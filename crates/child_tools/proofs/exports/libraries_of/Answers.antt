-- Each file has its library put there.
use Rattle.std.proofs.Common.{List, take, sym, subst}
use Rattle.std.proofs.lemmas.List.{take_all}
use Rattle.base.specs.declared.graph.BuiltFile.{BuiltFile}
use Rattle.child_tools.proofs.MissingLemmas.{AreThere, libraries_known, library_more, next_take, own_there, put_is_there}
use Rattle.child_tools.proofs.exports.libraries_of.Goals as goal

pub loop-file-init : goal.loop-file-init
loop-file-init c = record {
  all = own_there c.args.library.now c.new-libraries.result c.put_new.new.libraries c.new-libraries.ensures.none c.in_ok-put_new.ensures;
  before = put_is_there c.args.library.now c.new-libraries.result c.put_new.new.libraries c.in_ok-put_new.ensures;
}

pub loop-file-preserved : goal.loop-file-preserved
loop-file-preserved c =
    let put = c.in_ok-put_next.ensures c.loop-file.invariant.before in record {
      all = subst (λ (files : List BuiltFile). AreThere files c.args.library.now c.put_next.new.libraries) (sym (next_take c.args.files.now c.loop-file.file-index c.file-item.result c.loop-file-test.true c.file-item.is))
          (library_more (take c.loop-file.file-index c.args.files.now) c.file-item.result c.args.library.now c.loop-file.libraries c.put_next.new.libraries c.loop-file.invariant.all put);
      before = put_is_there c.file-item.result.name.library c.loop-file.libraries c.put_next.new.libraries put;
    }

pub returns : goal.returns
returns c last is =
    libraries_known c.args.files.now c.args.library.now c.loop-file.libraries last is
    (subst (λ (files : List BuiltFile). AreThere files c.args.library.now c.loop-file.libraries) (take_all c.loop-file.file-index c.args.files.now c.loop-file-test.false) c.loop-file.invariant.all)
