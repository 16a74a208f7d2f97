use Rattle.std.proofs.Common.{length, refl, sym, ap, ◌∙◌, arith}
use Rattle.store_journal.specs.Journals.{JournalState, other_side}
use Rattle.store_journal.proofs.Changing.{Changes, changing_moments, changing_loses, changed_payloads, changed_in_step}
use Rattle.store_journal.proofs.SideBytes.{side_length}
use Rattle.store_journal.proofs.journal.Journal.change_form.Given as given
use Rattle.store_journal.proofs.journal.Journal.change_form.Goals as goal
use Rattle.store_journal.proofs.journal.Journal.change_form.Goals.{After-make_side}

pub invariant_of-self : goal.invariant_of-self
invariant_of-self g c =
    let whole = ap length c.bytes-bytes.ensures.bytes ∙ side_length c.args.side.form c.args.side.generation c.args.side.payloads in
    omega (arith, whole)

known : (g : given.Over) (c : After-make_side g) → g.D.Disk.tells → Changes c.args.self.now (g.D.Disk.moments c.args.disk.now).now c.other-beside.result c.bytes-bytes.result.now c.args.side
known g c told = record {
  in_step = c.requires.in_step told;
  other = c.other-beside.ensures ∙ ap (λ (j : JournalState). other_side j.live) c.self.view_is;
  form = c.requires.form;
  first = c.requires.generation;
  none = c.requires.none told;
  bytes_are = c.bytes-bytes.ensures.bytes;
  small = c.bytes-bytes.ensures.small;
}

pub returns-in-Ok-clause-in_step : goal.returns-in-Ok-clause-in_step
returns-in-Ok-clause-in_step g c = λ told.
    let moments = g.D.Disk.moments in
    let old = moments c.args.disk.now in
    changed_in_step c.args.self.now _ c.other-beside.result c.bytes-bytes.result.now c.args.side old.now (moments c.make_side.new.disk).now (known g (goal.at.returns-in-Ok-clause-in_step g c).After-make_side told) (c.in-Ok.ensures.made told)
    c.form-form.ensures refl (sym c.requires.generation) refl

pub returns-in-Ok-clause-changed : goal.returns-in-Ok-clause-changed
returns-in-Ok-clause-changed g c = λ told.
    let moments = g.D.Disk.moments in
    let old = moments c.args.disk.now in
    changed_payloads c.args.self.now c.other-beside.result c.bytes-bytes.result.now c.args.side old.now (moments c.make_side.new.disk).now (known g (goal.at.returns-in-Ok-clause-changed g c).After-make_side told) (c.in-Ok.ensures.made told)

pub returns-in-Ok-clause-any_moment : goal.returns-in-Ok-clause-any_moment
returns-in-Ok-clause-any_moment g c = λ told.
    let moments = g.D.Disk.moments in
    let old = moments c.args.disk.now in
    changing_moments c.args.self.now c.other-beside.result c.bytes-bytes.result.now c.args.side old (moments c.make_side.new.disk) (known g (goal.at.returns-in-Ok-clause-any_moment g c).After-make_side told) (c.make_side.ensures.steps told)

pub returns-in-Ok-clause-loses : goal.returns-in-Ok-clause-loses
returns-in-Ok-clause-loses g c = λ told.
    let moments = g.D.Disk.moments in
    let old = moments c.args.disk.now in
    changing_loses c.args.self.now c.other-beside.result c.bytes-bytes.result.now c.args.side old (moments c.make_side.new.disk) (known g (goal.at.returns-in-Ok-clause-loses g c).After-make_side told) (c.make_side.ensures.steps told)

pub returns-clause-any_moment : goal.returns-clause-any_moment
returns-clause-any_moment g c = λ told.
    let moments = g.D.Disk.moments in
    let old = moments c.args.disk.now in
    changing_moments c.args.self.now c.other-beside.result c.bytes-bytes.result.now c.args.side old (moments c.make_side.new.disk) (known g (goal.at.returns-clause-any_moment g c).After-make_side told) (c.make_side.ensures.steps told)

pub returns-clause-loses : goal.returns-clause-loses
returns-clause-loses g c = λ told.
    let moments = g.D.Disk.moments in
    let old = moments c.args.disk.now in
    changing_loses c.args.self.now c.other-beside.result c.bytes-bytes.result.now c.args.side old (moments c.make_side.new.disk) (known g (goal.at.returns-clause-loses g c).After-make_side told) (c.make_side.ensures.steps told)
