-- The name is what comes after the word.
use Rattle.std.proofs.Common.{ap, sym, ◌∙◌}
use Rattle.child_tools.proofs.Said.{entity_said, is_after}
use Rattle.child_tools.proofs.benches.is_entity_line.Goals as goal

pub returns-in-Some : goal.returns-in-Some
returns-in-Some c = c.eq.ensures ∙ sym (entity_said c.args.name.now c.args.line.now ∙ ap (is_after c.args.name.now) c.in-Some.ensures.is)

pub returns-in-None : goal.returns-in-None
returns-in-None c = sym (entity_said c.args.name.now c.args.line.now ∙ ap (is_after c.args.name.now) c.in-None.ensures.is)
