-- What remains to be proved of `index_of`.
use Rattle.std.proofs.Common.{subst}
use Rattle.base.specs.declared.file.FileName.{FileName}
use Rattle.base_collections.specs.Numbers.{IsNumbered}
use Rattle.project_file.proofs.FewFiles.{alone_more_name}
use Rattle.project_file.proofs.lookups.index_of.Goals as goal

pub loop-i-preserved : goal.loop-i-preserved
loop-i-preserved c =
    alone_more_name c.args.names.now c.loop-i.i c.index-names-i.result c.loop-i.paths.keys c.add.new.self.keys c.in_ok-add.field-0 c.requires.distinct c.loop-i-test.true c.index-names-i.is c.loop-i.invariant
    (subst (λ (key : FileName). IsNumbered key c.in_ok-add.field-0 c.loop-i.paths.keys c.add.new.self.keys) c.in_ok-alone.ensures c.in_ok-add.ensures.ok)
