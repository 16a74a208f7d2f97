-- One token more.
use Rattle.vhdl_spec.specs.References.{is_context_ref}
use Rattle.vhdl_outline.specs.Indices.{ref_index}
use Rattle.vhdl_spec.proofs.Walks.{walk_more}
use Rattle.vhdl_outline.proofs.context.push_context_indices.Goals as goal

pub loop-at-preserved : goal.loop-at-preserved
loop-at-preserved c = record {
  clause = c.clause_after-clause.ensures;
  after = c.in_ok-push_context_index.ensures.after;
  found = walk_more (ref_index c.args.roles.now) (is_context_ref c.args.roles.now) c.args.clause.start c.loop-at.at c.args.found.now.items c.loop-at.found.items c.push_context_index.new.found.items c.loop-at.auto.at c.loop-at.invariant.found c.in_ok-push_context_index.ensures.found;
}
