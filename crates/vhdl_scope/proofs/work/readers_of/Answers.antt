-- One index more is known.
use Rattle.std.proofs.Common.{ℕ, ◌∙◌, [], arith, subst}
use Rattle.std.proofs.lemmas.List.{get_or_default}
use Rattle.vhdl_scope.specs.Work.{AreReaders}
use Rattle.vhdl_scope.proofs.WorkLemmas.{known_more, known_past}
use Rattle.vhdl_scope.proofs.work.readers_of.Goals as goal

pub loop-at-preserved : goal.loop-at-preserved
loop-at-preserved c = record {
  each = c.in_ok-add_reader.ensures.each ∙ c.loop-at.invariant.each;
  row_indices = subst (λ (row_indices : ℕ). AreReaders row_indices c.add_reader.new.readers.items) c.loop-at.invariant.each c.in_ok-add_reader.ensures.row_indices;
  known = known_more c.args.links.now c.loop-at.readers.items c.add_reader.new.readers.items c.loop-at.at _ (c.as_slice.ensures ∙ (c.index-links-at.is ∙ get_or_default c.args.links.now c.loop-at.at _ [] c.loop-at-test.true)) c.in_ok-add_reader.ensures c.loop-at.invariant.known;
}

pub returns-clause-known : goal.returns-clause-known
returns-clause-known c = known_past c.args.links.now c.loop-at.readers.items c.loop-at.at (omega arith) c.loop-at.invariant.known
