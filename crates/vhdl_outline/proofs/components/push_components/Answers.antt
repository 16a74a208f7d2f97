-- One index more, and no component up to the next of that word.
use Rattle.std.proofs.Common.{◌++◌, ◌+◌, ℕ, List, map, ◌∙◌, ap, sym, arith}
use Rattle.vhdl_outline.specs.Components.{is_component, name_index}
use Rattle.vhdl_outline.proofs.ComponentSteps.{skip_components}
use Rattle.vhdl_outline.proofs.DotSteps.{none_so_far}
use Rattle.vhdl_spec.proofs.Walks.{indices_none, walk_more}
use Rattle.vhdl_outline.proofs.components.push_components.Goals as goal

pub loop-at-init : goal.loop-at-init
loop-at-init c =
    let passed = c.next_component-at.ensures in
    record {
      after = passed.reaches;
      within = passed.within;
      inside = c.requires.before;
      found = none_so_far _ _ (skip_components c.args.roles.now c.args.start c.args.start c.args.end c.next_component-at.result (omega arith) passed ∙ ap (map name_index) (indices_none (is_component c.args.roles.now) c.args.start));
    }

pub loop-at-preserved : goal.loop-at-preserved
loop-at-preserved c =
    let passed = c.next_component-at-in-loop-at.ensures in
    record {
      after = let after = c.loop-at.invariant.after in omega (arith, after, passed.reaches);
      within = passed.within;
      inside = c.in_ok-push_component.ensures.after;
      found = walk_more name_index (is_component c.args.roles.now) c.args.start c.loop-at.at c.args.found.now.items c.loop-at.found.items c.push_component.new.found.items c.loop-at.invariant.after c.loop-at.invariant.found c.in_ok-push_component.ensures.found
          ∙ ap (λ (xs : List ℕ). c.args.found.now.items ++ xs) (sym (skip_components c.args.roles.now c.args.start (c.loop-at.at + 1) c.args.end c.next_component-at-in-loop-at.result (let after = c.loop-at.invariant.after in omega (arith, after)) passed));
    }
