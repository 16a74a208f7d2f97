-- One index more, and no reference up to the next dot.
use Rattle.std.proofs.Common.{◌++◌, ◌+◌, List, map, refl, ◌∙◌, ap, sym, arith}
use Rattle.vhdl_spec.specs.References.{is_reference}
use Rattle.vhdl_outline.specs.declared.indices.RefIndex.{RefIndex}
use Rattle.vhdl_outline.specs.Indices.{ref_index}
use Rattle.vhdl_outline.proofs.DotSteps.{none_so_far, skip_references}
use Rattle.vhdl_spec.proofs.Walks.{indices_none, walk_more}
use Rattle.vhdl_outline.proofs.named.push_indices.Goals as goal

pub loop-at-init : goal.loop-at-init
loop-at-init c =
    let roles = c.args.roles.now in
    let passed = c.next_dotted-at.ensures in
    record {
      after = passed.reaches;
      within = passed.within;
      reached = record { clause = c.requires.clause; before = passed.reaches };
      indices = c.requires.before;
      found = none_so_far _ _ (skip_references (ref_index roles) roles roles c.args.clause.start c.args.clause.start c.args.end c.next_dotted-at.result refl (omega arith) passed ∙ ap (map (ref_index roles)) (indices_none (is_reference roles) c.args.clause.start));
    }

pub loop-at-preserved : goal.loop-at-preserved
loop-at-preserved c =
    let roles = c.args.roles.now in
    let passed = c.next_dotted-at-in-loop-at.ensures in
    record {
      after = let after = c.loop-at.invariant.after in omega (arith, after, passed.reaches);
      within = passed.within;
      reached = record { clause = c.push_at.ensures.reached.clause; before = let before = c.push_at.ensures.reached.before in omega (arith, before, passed.reaches) };
      indices = c.in_ok-push_at.ensures.after;
      found = walk_more (ref_index roles) (is_reference roles) c.args.clause.start c.loop-at.at c.args.found.now.items c.loop-at.found.items c.push_at.new.found.items c.loop-at.invariant.after c.loop-at.invariant.found c.in_ok-push_at.ensures.found
          ∙ ap (λ (xs : List RefIndex). c.args.found.now.items ++ xs) (sym (skip_references (ref_index roles) roles roles c.args.clause.start (c.loop-at.at + 1) c.args.end c.next_dotted-at-in-loop-at.result refl (let after = c.loop-at.invariant.after in omega (arith, after)) passed));
    }
