use Rattle.std.proofs.Common.{rules, ◌≡◌, ℕ, false, List, [], ap, sym, subst, ◌∙◌}
use Rattle.outside.specs.Disks.{Image, reads_of}
use Rattle.store_journal.specs.declared.finding.FoundForm.{FoundForm}
use Rattle.store_journal.specs.declared.finding.FoundForm.TheVariants.{Newer, Older}
use Rattle.store_journal.specs.declared.opening.Opened.{Opened}
use Rattle.store_journal.specs.Finds.{IsOfFoundForm, BorrowsStill, found_journal, found_taken}
use Rattle.store_journal.specs.Forms.{found_form, has_form}
use Rattle.store_journal.specs.Journals.{IsHealthy, IsInStep, JournalState}
use Rattle.store_journal.specs.Payloads.{payloads}
use Rattle.store.specs.Held.{TakenState}
use Rattle.store.proofs.Borrowed.{all_borrowed, none_borrowed}
use Rattle.store.proofs.Compacted.{found_generation, image_asks, none_unasked, store_asks, taken_asks}
use Rattle.store.proofs.Kept.{kept_held, requests_held}
use Rattle.store_journal.proofs.Losing.{reads_image}
use Rattle.store.proofs.RequestMoments.{open_leaves, open_opens, then_leaves, then_opens}
use Rattle.store.proofs.TakingOver.{found_none, healthy_found}
use Rattle.store.proofs.reading.read.Goals as goal

abbrev taken : FoundForm TakenState (List (List ℕ)) → List (List ℕ)
taken = found_taken (λ t. t.taken) (λ ps. ps)

of_newer : (found : FoundForm TakenState (List (List ℕ))) (opened : Opened TakenState) → found ≡ Newer opened → IsOfFoundForm 3 2 found → opened.journal.form ≡ 3
of_newer found opened is form = subst (IsOfFoundForm 3 2) is form

of_older : (found : FoundForm TakenState (List (List ℕ))) (opened : Opened (List (List ℕ))) → found ≡ Older opened → IsOfFoundForm 3 2 found → opened.journal.form ≡ 2
of_older found opened is form = subst (IsOfFoundForm 3 2) is form

borrowed_newer : (found : FoundForm TakenState (List (List ℕ))) (opened : Opened TakenState) (newer older : List (List ℕ)) → found ≡ Newer opened → BorrowsStill (λ t. t.borrowed) (λ ps. []) newer older found → opened.payloads.borrowed ≡ newer
borrowed_newer found opened newer older is still = subst (BorrowsStill (λ t. t.borrowed) (λ ps. []) newer older) is still

three_is_two : ◌≡◌ {A = ℕ} 3 2 → ⊥
three_is_two e = absurd cc

pub returns-in_err-found-clause-any_moment : goal.returns-in_err-found-clause-any_moment
returns-in_err-found-clause-any_moment g c = λ told. open_leaves (g.D.Disk.moments c.args.disk.now) (g.D.Disk.moments c.found_in.new.disk) (c.found_in.ensures.any_moment told)

pub returns-in_err-found-clause-opens : goal.returns-in_err-found-clause-opens
returns-in_err-found-clause-opens g c = λ told.
    let old = g.D.Disk.moments c.args.disk.now in
    open_opens old (g.D.Disk.moments c.found_in.new.disk) (reads_of old.now) (c.found_in.ensures.opens told)

pub returns-in_err-found-clause-rests : goal.returns-in_err-found-clause-rests
returns-in_err-found-clause-rests g c = λ told healthy.
    let reads = reads_of (g.D.Disk.moments c.args.disk.now).now in
    let rests = c.found_in.ensures.rests told (subst (λ (f : ℕ). IsHealthy f (reads_of (g.D.Disk.moments c.args.disk.now).now)) (sym (healthy_found (reads_of (g.D.Disk.moments c.args.disk.now).now) healthy)) healthy) in
    record { goes = rests.goes; same = search rules }

pub returns-in_err-parts-in-Newer-clause-any_moment : goal.returns-in_err-parts-in-Newer-clause-any_moment
returns-in_err-parts-in-Newer-clause-any_moment g c = λ told. open_leaves (g.D.Disk.moments c.args.disk.now) (g.D.Disk.moments c.found_in.new.disk) (c.found_in.ensures.any_moment told)

pub returns-in_err-parts-in-Newer-clause-opens : goal.returns-in_err-parts-in-Newer-clause-opens
returns-in_err-parts-in-Newer-clause-opens g c = λ told.
    let old = g.D.Disk.moments c.args.disk.now in
    open_opens old (g.D.Disk.moments c.found_in.new.disk) (reads_of old.now) (c.found_in.ensures.opens told)

pub returns-in_ok-parts-in-Newer-clause-any_moment : goal.returns-in_ok-parts-in-Newer-clause-any_moment
returns-in_ok-parts-in-Newer-clause-any_moment g c = λ told. open_leaves (g.D.Disk.moments c.args.disk.now) (g.D.Disk.moments c.found_in.new.disk) (c.found_in.ensures.any_moment told)

pub returns-in_ok-parts-in-Newer-clause-opens : goal.returns-in_ok-parts-in-Newer-clause-opens
returns-in_ok-parts-in-Newer-clause-opens g c = λ told.
    let old = g.D.Disk.moments c.args.disk.now in
    open_opens old (g.D.Disk.moments c.found_in.new.disk) (reads_of old.now) (c.found_in.ensures.opens told)

pub returns-in_err-parts-in-Older-clause-any_moment : goal.returns-in_err-parts-in-Older-clause-any_moment
returns-in_err-parts-in-Older-clause-any_moment g c = λ told.
    let old = g.D.Disk.moments c.args.disk.now in
    let middle = g.D.Disk.moments c.found_in.new.disk in
    then_leaves old middle (g.D.Disk.moments c.take_over.new.disk) (requests_held (reads_of old.now) (reads_of middle.now) (c.in_ok-found.ensures.stays told)) (c.take_over.ensures.any_moment told)
    (reads_image old (g.met.D.Disk.sound c.args.disk.now)) (open_leaves old middle (c.found_in.ensures.any_moment told))

pub returns-in_err-parts-in-Older-clause-opens : goal.returns-in_err-parts-in-Older-clause-opens
returns-in_err-parts-in-Older-clause-opens g c = λ told.
    let old = g.D.Disk.moments c.args.disk.now in
    let middle = g.D.Disk.moments c.found_in.new.disk in
    then_opens old middle (g.D.Disk.moments c.take_over.new.disk) (requests_held (reads_of old.now) (reads_of middle.now) (c.in_ok-found.ensures.stays told)) (c.take_over.ensures.any_moment told)
    (open_opens old middle (reads_of old.now) (c.found_in.ensures.opens told))

pub returns-in_ok-parts-in-Older-clause-any_moment : goal.returns-in_ok-parts-in-Older-clause-any_moment
returns-in_ok-parts-in-Older-clause-any_moment g c = λ told.
    let old = g.D.Disk.moments c.args.disk.now in
    let middle = g.D.Disk.moments c.found_in.new.disk in
    then_leaves old middle (g.D.Disk.moments c.take_over.new.disk) (requests_held (reads_of old.now) (reads_of middle.now) (c.in_ok-found.ensures.stays told)) (c.take_over.ensures.any_moment told)
    (reads_image old (g.met.D.Disk.sound c.args.disk.now)) (open_leaves old middle (c.found_in.ensures.any_moment told))

pub returns-in_ok-parts-in-Older-clause-opens : goal.returns-in_ok-parts-in-Older-clause-opens
returns-in_ok-parts-in-Older-clause-opens g c = λ told.
    let old = g.D.Disk.moments c.args.disk.now in
    let middle = g.D.Disk.moments c.found_in.new.disk in
    then_opens old middle (g.D.Disk.moments c.take_over.new.disk) (requests_held (reads_of old.now) (reads_of middle.now) (c.in_ok-found.ensures.stays told)) (c.take_over.ensures.any_moment told)
    (open_opens old middle (reads_of old.now) (c.found_in.ensures.opens told))

pub returns-in_err-parts-in-Older-clause-rests : goal.returns-in_err-parts-in-Older-clause-rests
returns-in_err-parts-in-Older-clause-rests g c = λ told healthy.
    let is : (found_journal c.in_ok-found.found).form ≡ 3 = c.in_ok-found.ensures.found told ∙ healthy_found (reads_of (g.D.Disk.moments c.args.disk.now).now) healthy in
    absurd (three_is_two (sym is ∙ ap (λ (j : JournalState). j.form) (ap found_journal c.in-Older.is) ∙ of_older c.in_ok-found.found c.in-Older.opened c.in-Older.is c.in_ok-found.ensures.form))

pub returns-in_ok-parts-in-Older-clause-rests : goal.returns-in_ok-parts-in-Older-clause-rests
returns-in_ok-parts-in-Older-clause-rests g c = λ told healthy.
    let is : (found_journal c.in_ok-found.found).form ≡ 3 = c.in_ok-found.ensures.found told ∙ healthy_found (reads_of (g.D.Disk.moments c.args.disk.now).now) healthy in
    absurd (three_is_two (sym is ∙ ap (λ (j : JournalState). j.form) (ap found_journal c.in-Older.is) ∙ of_older c.in_ok-found.found c.in-Older.opened c.in-Older.is c.in_ok-found.ensures.form))

-- the payloads that were found are those of form 3
form_is : (form : ℕ) (reads : Image) (opened : List (List ℕ)) → form ≡ 3 → opened ≡ payloads form reads → opened ≡ payloads 3 reads
form_is form reads opened is are = subst (λ (f : ℕ). opened ≡ payloads f reads) is are

pub returns-in_ok-parts-in-Newer-clause-asks : goal.returns-in_ok-parts-in-Newer-clause-asks
returns-in_ok-parts-in-Newer-clause-asks g c = λ told.
    let reads : Image = reads_of (g.D.Disk.moments c.args.disk.now).now in
    let newer = ap found_journal c.in-Newer.is in
    let journal = c.in_ok-parts-in-Newer.ensures.journal ∙ sym newer in
    let found : found_form 3 2 (reads_of (g.D.Disk.moments c.args.disk.now).now) ≡ 3 = sym (c.in_ok-found.ensures.found told) ∙ ap (λ (j : JournalState). j.form) newer ∙ of_newer c.in_ok-found.found c.in-Newer.opened c.in-Newer.is c.in_ok-found.ensures.form in
    let generation = ap (λ (j : JournalState). j.generation) journal ∙ found_generation reads (found_journal c.in_ok-found.found) (found_form 3 2 reads) found (c.in_ok-found.ensures.counts told) in
    let held = c.in_ok-parts-in-Newer.ensures.payloads ∙ sym (ap taken c.in-Newer.is) ∙ form_is (found_form 3 2 reads) reads (taken c.in_ok-found.found) found (c.in_ok-found.ensures.payloads told) in
    (λ asks. image_asks reads c.in_ok-parts-in-Newer.parts.journal.generation c.in_ok-parts-in-Newer.parts.held.payloads generation held asks, λ asks. store_asks reads c.in_ok-parts-in-Newer.parts.journal.generation c.in_ok-parts-in-Newer.parts.held.payloads generation held asks)

pub returns-in_ok-parts-in-Newer-clause-in_step : goal.returns-in_ok-parts-in-Newer-clause-in_step
returns-in_ok-parts-in-Newer-clause-in_step g c = λ told.
    let newer = ap found_journal c.in-Newer.is in
    let journal = c.in_ok-parts-in-Newer.ensures.journal ∙ sym newer in
    let form = ap (λ (j : JournalState). j.form) newer ∙ of_newer c.in_ok-found.found c.in-Newer.opened c.in-Newer.is c.in_ok-found.ensures.form in
    let found : found_form 3 2 (reads_of (g.D.Disk.moments c.args.disk.now).now) ≡ 3 = sym (c.in_ok-found.ensures.found told) ∙ form in
    record {
      journal_in_step = subst (λ (j : JournalState). IsInStep j (g.D.Disk.moments c.found_in.new.disk).now) (sym journal) (c.in_ok-found.ensures.in_step told);
      form = ap (λ (j : JournalState). j.form) journal ∙ form;
      payloads_are = c.in_ok-parts-in-Newer.ensures.payloads ∙ sym (ap taken c.in-Newer.is) ∙ form_is (found_form 3 2 (reads_of (g.D.Disk.moments c.args.disk.now).now)) (reads_of (g.D.Disk.moments c.found_in.new.disk).now) (taken c.in_ok-found.found) found (sym (c.in_ok-found.ensures.held told));
    }

pub returns-in_ok-parts-in-Older-clause-asks : goal.returns-in_ok-parts-in-Older-clause-asks
returns-in_ok-parts-in-Older-clause-asks g c = λ told.
    let reads : Image = reads_of (g.D.Disk.moments c.args.disk.now).now in
    let form = ap (λ (j : JournalState). j.form) (ap found_journal c.in-Older.is) ∙ of_older c.in_ok-found.found c.in-Older.opened c.in-Older.is c.in_ok-found.ensures.form in
    let none : has_form 3 (reads_of (g.D.Disk.moments c.args.disk.now).now) ≡ false = found_none reads (sym (c.in_ok-found.ensures.found told) ∙ form) in
    (λ asks. taken_asks reads c.in_ok-parts-in-Older.parts.journal.generation c.in_ok-parts-in-Older.parts.held.payloads none c.in_ok-parts-in-Older.ensures.live asks, λ asks. absurd (none_unasked reads none asks))

pub returns-in_err-parts-in-Newer-clause-rests : goal.returns-in_err-parts-in-Newer-clause-rests
returns-in_err-parts-in-Newer-clause-rests g c = λ told healthy.
    let rests = c.found_in.ensures.rests told (subst (λ (f : ℕ). IsHealthy f (reads_of (g.D.Disk.moments c.args.disk.now).now)) (sym (healthy_found (reads_of (g.D.Disk.moments c.args.disk.now).now) healthy)) healthy) in
    record { goes = rests.goes; same = search rules }

pub returns-in_ok-parts-in-Newer-clause-rests : goal.returns-in_ok-parts-in-Newer-clause-rests
returns-in_ok-parts-in-Newer-clause-rests g c = λ told healthy.
    let rests = c.found_in.ensures.rests told (subst (λ (f : ℕ). IsHealthy f (reads_of (g.D.Disk.moments c.args.disk.now).now)) (sym (healthy_found (reads_of (g.D.Disk.moments c.args.disk.now).now) healthy)) healthy) in
    record { goes = rests.goes; same = search rules }

pub take_over-requires-clause-in_step : goal.take_over-requires-clause-in_step
take_over-requires-clause-in_step g c = λ told. subst (λ (j : JournalState). IsInStep j (g.D.Disk.moments c.found_in.new.disk).now) (ap found_journal c.in-Older.is) (c.in_ok-found.ensures.in_step told)

pub returns-in_ok-parts-in-Newer-clause-keeps : goal.returns-in_ok-parts-in-Newer-clause-keeps
returns-in_ok-parts-in-Newer-clause-keeps g c = λ told. kept_held (reads_of (g.D.Disk.moments c.args.disk.now).now) (reads_of (g.D.Disk.moments c.found_in.new.disk).now) (c.in_ok-found.ensures.stays told)

pub returns-in_ok-parts-in-Newer-clause-records : goal.returns-in_ok-parts-in-Newer-clause-records
returns-in_ok-parts-in-Newer-clause-records g c = λ told. requests_held (reads_of (g.D.Disk.moments c.args.disk.now).now) (reads_of (g.D.Disk.moments c.found_in.new.disk).now) (c.in_ok-found.ensures.stays told)

pub returns-in_ok-parts-in-Older-clause-keeps : goal.returns-in_ok-parts-in-Older-clause-keeps
returns-in_ok-parts-in-Older-clause-keeps g c = λ told. c.in_ok-parts-in-Older.ensures.keeps told ∙ kept_held (reads_of (g.D.Disk.moments c.args.disk.now).now) (reads_of (g.D.Disk.moments c.found_in.new.disk).now) (c.in_ok-found.ensures.stays told)

pub returns-in_ok-parts-in-Older-clause-records : goal.returns-in_ok-parts-in-Older-clause-records
returns-in_ok-parts-in-Older-clause-records g c = λ told. c.in_ok-parts-in-Older.ensures.records told ∙ requests_held (reads_of (g.D.Disk.moments c.args.disk.now).now) (reads_of (g.D.Disk.moments c.found_in.new.disk).now) (c.in_ok-found.ensures.stays told)

pub returns-in_ok-parts-in-Older-clause-in_step : goal.returns-in_ok-parts-in-Older-clause-in_step
returns-in_ok-parts-in-Older-clause-in_step g c = λ told. c.in_ok-parts-in-Older.ensures.in_step told

pub returns-in_ok-parts-in-Newer-clause-borrowed : goal.returns-in_ok-parts-in-Newer-clause-borrowed
returns-in_ok-parts-in-Newer-clause-borrowed g c =
    let still = borrowed_newer c.in_ok-found.found c.in-Newer.opened _ _ c.in-Newer.is c.in_ok-found.ensures.borrows in
    all_borrowed c.args.files.now c.in_ok-parts-in-Newer.parts.held.borrowed (c.in_ok-parts-in-Newer.ensures.borrowed ∙ still ∙ c.over-own.ensures.borrowed)

pub returns-in_ok-parts-in-Older-clause-borrowed : goal.returns-in_ok-parts-in-Older-clause-borrowed
returns-in_ok-parts-in-Older-clause-borrowed g c = none_borrowed c.args.files.now c.in_ok-parts-in-Older.parts.held.borrowed c.in_ok-parts-in-Older.ensures.borrowed
