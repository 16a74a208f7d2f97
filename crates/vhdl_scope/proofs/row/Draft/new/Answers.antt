-- There is no run.
use Rattle.vhdl_scope.proofs.RowLemmas.{no_words}
use Rattle.vhdl_scope.proofs.row.Draft.new.Goals as goal

pub returns : goal.returns
returns c = no_words c.args.words c.new.result.items c.new.ensures.items
