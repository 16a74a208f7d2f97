-- One index more, and no use up to the next dot.
use Rattle.std.proofs.Common.{◌++◌, ◌+◌, ℕ, List, ◌∙◌, ap, sym, arith}
use Rattle.vhdl_spec.specs.References.{is_use_of_all}
use Rattle.vhdl_outline.proofs.DotSteps.{none_so_far, skip_uses}
use Rattle.vhdl_spec.proofs.Walks.{indices_none}
use Rattle.vhdl_outline.proofs.IndexSteps.{indices_all_more}
use Rattle.vhdl_outline.proofs.uses.push_uses.Goals as goal

pub loop-at-init : goal.loop-at-init
loop-at-init c =
    let passed = c.next_dotted-at.ensures in
    record {
      after = passed.reaches;
      within = passed.within;
      reached = record { clause = c.requires.clause; before = passed.reaches };
      inside = c.requires.before;
      found = none_so_far _ _ (skip_uses c.args.roles.now c.args.clause.start c.args.clause.start c.args.end c.next_dotted-at.result (omega arith) passed ∙ indices_none (is_use_of_all c.args.roles.now) c.args.clause.start);
    }

pub loop-at-preserved : goal.loop-at-preserved
loop-at-preserved c =
    let passed = c.next_dotted-at-in-loop-at.ensures in
    record {
      after = let after = c.loop-at.invariant.after in omega (arith, after, passed.reaches);
      within = passed.within;
      reached = record { clause = c.push_use.ensures.reached.clause; before = let before = c.push_use.ensures.reached.before in omega (arith, before, passed.reaches) };
      inside = c.in_ok-push_use.ensures.after;
      found = indices_all_more (is_use_of_all c.args.roles.now) c.args.clause.start c.loop-at.at c.args.uses.now.items c.loop-at.uses.items c.push_use.new.uses.items c.loop-at.invariant.after c.loop-at.invariant.found c.in_ok-push_use.ensures.found
          ∙ ap (λ (xs : List ℕ). c.args.uses.now.items ++ xs) (sym (skip_uses c.args.roles.now c.args.clause.start (c.loop-at.at + 1) c.args.end c.next_dotted-at-in-loop-at.result (let after = c.loop-at.invariant.after in omega (arith, after)) passed));
    }
