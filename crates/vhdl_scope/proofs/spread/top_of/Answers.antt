-- One row more; past the last no row has a number.
use Rattle.std.proofs.Common.{◌∙◌, [], ap, arith, length}
use Rattle.std.proofs.lemmas.List.{get_or_default, length-replicate}
use Rattle.vhdl_scope.proofs.SpreadLemmas.{inside_all, inside_more}
use Rattle.vhdl_scope.proofs.spread.top_of.Goals as goal

pub loop-row-init : goal.loop-row-init
loop-row-init c = record {
  even = ap length c.new-top.ensures ∙ length-replicate c.args.words 0;
  inside = λ k below. absurd (omega (arith, below));
}

pub loop-row-preserved : goal.loop-row-preserved
loop-row-preserved c = record {
  even = c.join.ensures.len ∙ c.loop-row.invariant.even;
  inside = inside_more c.args.rows.now c.loop-row.top c.join.new.self c.row-item.result c.loop-row.row-index
      (c.row-item.is ∙ get_or_default c.args.rows.now c.loop-row.row-index c.row-item.result [] c.loop-row-test.true)
      c.in_ok-join.ensures.bits c.loop-row.invariant.inside;
}

pub returns : goal.returns
returns c = inside_all c.args.rows.now c.loop-row.top c.loop-row.row-index c.loop-row-test.false c.loop-row.invariant.inside
