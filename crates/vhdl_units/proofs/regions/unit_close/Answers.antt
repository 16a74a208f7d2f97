-- The walk ends where the unit's close is, or finds none.
use Rattle.std.proofs.Common.{Bool, subst, arith}
use Rattle.vhdl_units.specs.Walk.{IsStep}
use Rattle.vhdl_units.proofs.Reaching.{leads_step, leads_end, leads_nowhere}
use Rattle.vhdl_units.proofs.regions.unit_close.Goals as goal

pub returns-then-branch : goal.returns-then-branch
returns-then-branch c =
    leads_end c.args.roles.now c.args.start c.loop-at.regions.frames.items c.loop-at.regions.inside c.loop-at.at c.loop-at.invariant.leads c.class_at-class.result c.step.new.self.frames.items c.step.new.self.inside c.class_at-class.ensures.class
    (subst (λ (ended : Bool). IsStep c.class_at-class.result c.loop-at.regions.frames.items c.loop-at.regions.inside c.step.new.self.frames.items c.step.new.self.inside ended) c.if-branch.true c.in_ok-step.ensures)

pub loop-at-preserved : goal.loop-at-preserved
loop-at-preserved c = record {
  known_is = let known = c.class_at-class.ensures.known in record { counts = known.counts; counted = omega (arith, known.counted); begins = known.begins; decided = omega (arith, known.decided) };
  leads = leads_step c.args.roles.now c.args.start c.loop-at.regions.frames.items c.loop-at.regions.inside c.loop-at.at c.loop-at.invariant.leads c.class_at-class.result c.step.new.self.frames.items c.step.new.self.inside c.class_at-class.ensures.class
      (subst (λ (ended : Bool). IsStep c.class_at-class.result c.loop-at.regions.frames.items c.loop-at.regions.inside c.step.new.self.frames.items c.step.new.self.inside ended) c.if-branch.false c.in_ok-step.ensures);
}

pub returns : goal.returns
returns c = leads_nowhere c.args.roles.now c.args.start c.loop-at.regions.frames.items c.loop-at.regions.inside c.loop-at.at c.loop-at.invariant.leads c.loop-at-test.false
