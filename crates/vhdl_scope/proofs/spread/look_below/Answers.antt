-- There is nothing to take, or the index is looked at.
use Rattle.std.proofs.Common.{◌∙◌, [], sym}
use Rattle.std.proofs.lemmas.List.{get_or_default}
use Rattle.vhdl_scope.proofs.SpreadLemmas.{nothing_more}
use Rattle.vhdl_scope.proofs.spread.look_below.Goals as goal

pub returns-then-same-clause-looked : goal.returns-then-same-clause-looked
returns-then-same-clause-looked c = nothing_more c.args.links.now c.args.at c.args.rows.now c.args.top.now c.requires.inside (sym (get_or_default c.args.rows.now c.args.at c.index-rows-at.result [] c.requires.at) ∙ c.same.ensures c.if-same.true)
