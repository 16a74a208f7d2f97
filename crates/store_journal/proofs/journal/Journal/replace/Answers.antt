use Rattle.std.proofs.Common.{length, refl, ap, ◌∙◌, arith}
use Rattle.store_journal.specs.Journals.{JournalState, other_side}
use Rattle.store_journal.proofs.Replacing.{Replaces, replacing_moments, replacing_loses, replaced_payloads, replaced_in_step}
use Rattle.store_journal.proofs.SideBytes.{side_length}
use Rattle.store_journal.proofs.LiveForms.{replacing_live}
use Rattle.store_journal.proofs.journal.Journal.replace.Given as given
use Rattle.store_journal.proofs.journal.Journal.replace.Goals as goal
use Rattle.store_journal.proofs.journal.Journal.replace.Goals.{After-make_side}

pub invariant_of-self : goal.invariant_of-self
invariant_of-self g c =
    let whole = ap length c.bytes-bytes.ensures.bytes ∙ side_length c.args.side.form c.args.side.generation c.args.side.payloads in
    omega (arith, whole)

known : (g : given.Over) (c : After-make_side g) → g.D.Disk.tells → Replaces c.args.self.now (g.D.Disk.moments c.args.disk.now).now c.other-other.result c.bytes-bytes.result.now c.args.side
known g c told = record {
  in_step = c.requires.in_step told;
  other = c.other-other.ensures ∙ ap (λ (j : JournalState). other_side j.live) c.self.view_is;
  form = c.requires.form;
  higher = c.requires.generation;
  below = omega (arith, c.generation-generation.ensures, c.generation-generation.type_inv);
  bytes_are = c.bytes-bytes.ensures.bytes;
  small = c.bytes-bytes.ensures.small;
}

pub returns-in-Ok-clause-in_step : goal.returns-in-Ok-clause-in_step
returns-in-Ok-clause-in_step g c = λ told.
    let moments = g.D.Disk.moments in
    let old = moments c.args.disk.now in
    replaced_in_step c.args.self.now _ c.other-other.result c.bytes-bytes.result.now c.args.side old.now (moments c.make_side.new.disk).now (known g (goal.at.returns-in-Ok-clause-in_step g c).After-make_side told) (c.in-Ok.ensures.made told)
    (ap (λ (j : JournalState). j.form) c.self.view_is) refl c.generation-generation.ensures refl

pub returns-in-Ok-clause-replaced : goal.returns-in-Ok-clause-replaced
returns-in-Ok-clause-replaced g c = λ told.
    let moments = g.D.Disk.moments in
    let old = moments c.args.disk.now in
    replaced_payloads c.args.self.now c.other-other.result c.bytes-bytes.result.now c.args.side old.now (moments c.make_side.new.disk).now (known g (goal.at.returns-in-Ok-clause-replaced g c).After-make_side told) (c.in-Ok.ensures.made told)

pub returns-in-Ok-clause-any_moment : goal.returns-in-Ok-clause-any_moment
returns-in-Ok-clause-any_moment g c = λ told.
    let moments = g.D.Disk.moments in
    let old = moments c.args.disk.now in
    replacing_moments c.args.self.now c.other-other.result c.bytes-bytes.result.now c.args.side old (moments c.make_side.new.disk) (known g (goal.at.returns-in-Ok-clause-any_moment g c).After-make_side told) (c.make_side.ensures.steps told)

pub returns-in-Ok-clause-loses : goal.returns-in-Ok-clause-loses
returns-in-Ok-clause-loses g c = λ told.
    let moments = g.D.Disk.moments in
    let old = moments c.args.disk.now in
    replacing_loses c.args.self.now c.other-other.result c.bytes-bytes.result.now c.args.side old (moments c.make_side.new.disk) (known g (goal.at.returns-in-Ok-clause-loses g c).After-make_side told) (c.make_side.ensures.steps told)

pub returns-clause-any_moment : goal.returns-clause-any_moment
returns-clause-any_moment g c = λ told.
    let moments = g.D.Disk.moments in
    let old = moments c.args.disk.now in
    replacing_moments c.args.self.now c.other-other.result c.bytes-bytes.result.now c.args.side old (moments c.make_side.new.disk) (known g (goal.at.returns-clause-any_moment g c).After-make_side told) (c.make_side.ensures.steps told)

pub returns-clause-loses : goal.returns-clause-loses
returns-clause-loses g c = λ told.
    let moments = g.D.Disk.moments in
    let old = moments c.args.disk.now in
    replacing_loses c.args.self.now c.other-other.result c.bytes-bytes.result.now c.args.side old (moments c.make_side.new.disk) (known g (goal.at.returns-clause-loses g c).After-make_side told) (c.make_side.ensures.steps told)

pub returns-in-Ok-clause-live : goal.returns-in-Ok-clause-live
returns-in-Ok-clause-live g c = λ told.
    let moments = g.D.Disk.moments in
    let old = moments c.args.disk.now in
    replacing_live c.args.self.now c.other-other.result c.bytes-bytes.result.now c.args.side old (moments c.make_side.new.disk) (known g (goal.at.returns-in-Ok-clause-live g c).After-make_side told) (c.make_side.ensures.steps told)

pub returns-clause-live : goal.returns-clause-live
returns-clause-live g c = λ told.
    let moments = g.D.Disk.moments in
    let old = moments c.args.disk.now in
    replacing_live c.args.self.now c.other-other.result c.bytes-bytes.result.now c.args.side old (moments c.make_side.new.disk) (known g (goal.at.returns-clause-live g c).After-make_side told) (c.make_side.ensures.steps told)
