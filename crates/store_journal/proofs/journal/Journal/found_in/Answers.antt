use Rattle.std.proofs.Common.{◌≡◌, [], false, inl, inr, sym, ap, subst, ◌∙◌}
use Rattle.std.specs.Prelude.{IfOk, OnOk}
use Rattle.outside.specs.Disks.{Image, reads_of}
use Rattle.store_journal.specs.Finds.{found_journal, found_taken}
use Rattle.store_journal.specs.Forms.{HoldsForms, found_form, has_form}
use Rattle.store_journal.specs.Journals.{IsHealthy, IsInStep, OpensAs}
use Rattle.store_journal.specs.Payloads.{payloads, side_bytes}
use Rattle.store_journal.proofs.Readings.{ok_both}
use Rattle.store_journal.proofs.Resting.{rests_then}
use Rattle.store_journal.proofs.Stays.{present_alone, present_forms, present_found, read_forms, then_all_forms, then_forms}
use Rattle.store_journal.proofs.journal.Journal.found_in.Goals as goal

pub returns-in_err-headers-clause-any_moment : goal.returns-in_err-headers-clause-any_moment
returns-in_err-headers-clause-any_moment g c = λ told. read_forms c.args.newer c.args.older (g.D.Disk.moments c.args.disk.now) (g.D.Disk.moments c.read_form_headers.new.disk) (c.read_form_headers.ensures.moments told)

pub returns-in_err-headers-clause-opens : goal.returns-in_err-headers-clause-opens
returns-in_err-headers-clause-opens g c = λ told. inl (c.read_form_headers.ensures.moments told)

pub returns-clause-any_moment : goal.returns-clause-any_moment
returns-clause-any_moment g c = λ told.
    let moments = g.D.Disk.moments in
    then_forms c.args.newer c.args.older (moments c.args.disk.now) (moments c.read_form_headers.new.disk) (moments c.open_found.new.disk) (c.read_form_headers.ensures.moments told) (c.in_ok-headers.ensures.settled told) (c.open_found.ensures.holds told)

pub returns-clause-opens : goal.returns-clause-opens
returns-clause-opens g c = λ told.
    let moments = g.D.Disk.moments in
    inr (moments c.read_form_headers.new.disk, c.read_form_headers.ensures.moments told, then_all_forms c.args.newer c.args.older (moments c.args.disk.now) (moments c.read_form_headers.new.disk) (moments c.open_found.new.disk) (c.in_ok-headers.ensures.settled told) (c.open_found.ensures.holds told))

pub returns-clause-held : goal.returns-clause-held
returns-clause-held g c = λ told.
    let moments = g.D.Disk.moments in
    let old = reads_of (moments c.args.disk.now).now in
    let middle = moments c.read_form_headers.new.disk in
    let new = moments c.open_found.new.disk in
    let at = found_form c.args.newer c.args.older in
    let same = ap reads_of (c.in_ok-headers.ensures.settled told) in
    ok_both c.open_found.result (λ found. IsInStep (found_journal found) new.now) (λ found. found_taken g.N.Visitor.taken g.O.Visitor.taken found ≡ payloads (at (reads_of middle.now)) (reads_of middle.now)) (λ found. payloads (at old) (reads_of new.now) ≡ found_taken g.N.Visitor.taken g.O.Visitor.taken found)
    (λ found in_step is. ap (λ (image : Image). payloads (at image) (reads_of new.now)) (sym same) ∙ present_found c.args.newer c.args.older middle new (c.open_found.ensures.holds told) in_step.settled ∙ sym is)
    (c.open_found.ensures.in_step told) (c.open_found.ensures.payloads told)

pub returns-clause-stays : goal.returns-clause-stays
returns-clause-stays g c = λ told.
    let moments = g.D.Disk.moments in
    let old = reads_of (moments c.args.disk.now).now in
    let middle = moments c.read_form_headers.new.disk in
    let new = moments c.open_found.new.disk in
    let P = HoldsForms c.args.newer c.args.older in
    let same = ap reads_of (c.in_ok-headers.ensures.settled told) in
    ok_both c.open_found.result (λ found. IsInStep (found_journal found) new.now) (λ found. IsInStep (found_journal found) new.now) (λ _. P old (reads_of new.now))
    (λ found in_step again. subst (λ (image : Image). P image (reads_of new.now)) same (present_forms c.args.newer c.args.older middle new (c.open_found.ensures.holds told) in_step.settled))
    (c.open_found.ensures.in_step told) (c.open_found.ensures.in_step told)

pub returns-clause-alone : goal.returns-clause-alone
returns-clause-alone g c = λ told.
    let middle = g.D.Disk.moments c.read_form_headers.new.disk in
    let new = g.D.Disk.moments c.open_found.new.disk in
    let at = found_form c.args.newer c.args.older in
    ok_both c.open_found.result (λ found. IsInStep (found_journal found) new.now) (λ found. (found_journal found).form ≡ at (reads_of middle.now)) (λ found. (found_journal found).form ≡ c.args.older → has_form c.args.newer (reads_of new.now) ≡ false)
    (λ found in_step is older. present_alone c.args.newer c.args.older middle new c.requires.forms (sym is ∙ older) (c.open_found.ensures.holds told) in_step.settled)
    (c.open_found.ensures.in_step told) (c.open_found.ensures.found told)

pub returns-clause-rests : goal.returns-clause-rests
returns-clause-rests g c = λ told healthy.
    let moments = g.D.Disk.moments in
    let old = moments c.args.disk.now in
    let middle = moments c.read_form_headers.new.disk in
    let same = ap reads_of (c.in_ok-headers.ensures.settled told) in
    rests_then c.open_found.result old middle (moments c.open_found.new.disk) (c.read_form_headers.ensures.moments told) same (c.open_found.ensures.rests told (subst (λ (image : Image). IsHealthy (found_form c.args.newer c.args.older image) image) (sym same) healthy))

pub returns-clause-found : goal.returns-clause-found
returns-clause-found g c = λ told.
    let same = ap reads_of (c.in_ok-headers.ensures.settled told) in
    subst (λ (image : Image). IfOk c.open_found.result (λ found. (found_journal found).form ≡ found_form c.args.newer c.args.older image)) same (c.open_found.ensures.found told)

pub returns-clause-payloads : goal.returns-clause-payloads
returns-clause-payloads g c = λ told.
    let same = ap reads_of (c.in_ok-headers.ensures.settled told) in
    subst (λ (image : Image). IfOk c.open_found.result (λ found. found_taken g.N.Visitor.taken g.O.Visitor.taken found ≡ payloads (found_form c.args.newer c.args.older image) image)) same (c.open_found.ensures.payloads told)

pub returns-clause-counts : goal.returns-clause-counts
returns-clause-counts g c = λ told.
    let same = ap reads_of (c.in_ok-headers.ensures.settled told) in
    subst (λ (image : Image). IfOk c.open_found.result (λ found. OpensAs (found_form c.args.newer c.args.older image) image (found_journal found))) same (c.open_found.ensures.counts told)

pub returns-clause-fresh : goal.returns-clause-fresh
returns-clause-fresh g c = λ told none gone.
    let new = reads_of (g.D.Disk.moments c.open_found.new.disk).now in
    let same = ap reads_of (c.in_ok-headers.ensures.settled told) in
    subst (λ (image : Image). has_form c.args.newer image ≡ false → has_form c.args.older image ≡ false → OnOk c.open_found.result (new ≡ record { a = side_bytes c.args.newer 1 []; b = image.b })) same (c.open_found.ensures.fresh told) none gone
