use Rattle.std.proofs.Common.{◌≡◌, ◌∷◌, [], ℕ, ◌-◌, List, length, subst, ap, ◌∙◌}
use Rattle.std.specs.Prelude.{OnOk}
use Rattle.std.proofs.lemmas.Result.{on_ok_weaker}
use Rattle.outside.specs.declared.disk.Side.{Side}
use Rattle.outside.specs.Disks.{Moments, DiskState, on_side, writing, written_through, Goes}
use Rattle.store_journal.specs.Journals.{JournalState}
use Rattle.store_journal.specs.Steps.{Went, committing, write_step, last_moment}
use Rattle.store_journal.proofs.Went.{went_once, went_on}
use Rattle.store_journal.proofs.journal.Journal.append.Goals as goal

-- the first write alone
begun : (live : Side) (len : ℕ) (bytes : List ℕ) (old new : Moments) → Goes (on_side live (writing len (length bytes)) old.now) old new → Went (committing live len bytes old.now) old new
unfolding committing
begun live len bytes old new goes = went_once (write_step live len bytes old.now) _ old new goes

-- both writes
both : (live : Side) (len : ℕ) (bytes : List ℕ) (old middle new : Moments) → Goes (on_side live (writing len (length bytes)) old.now) old middle → middle.now ≡ on_side live (written_through len bytes) old.now → Goes (on_side live (writing (len - 1) 1) middle.now) middle new → Went (committing live len bytes old.now) old new
unfolding committing
both live len bytes old middle new first is second =
    went_on (write_step live len bytes old.now) _ old middle new first is (went_once (write_step live (len - 1) (1 ∷ []) (on_side live (written_through len bytes) old.now)) [] middle new (subst (λ (disk : DiskState). Goes (on_side live (writing (len - 1) 1) disk) middle new) is second))

-- what both leave
left : (live : Side) (len : ℕ) (bytes : List ℕ) (old middle new : DiskState) → middle ≡ on_side live (written_through len bytes) old → new ≡ on_side live (written_through (len - 1) (1 ∷ [])) middle → new ≡ last_moment old (committing live len bytes old)
unfolding committing last_moment
left live len bytes old middle new first second = second ∙ ap (on_side live (written_through (len - 1) (1 ∷ []))) first

pub returns-in_err-write_durably-clause-steps : goal.returns-in_err-write_durably-clause-steps
returns-in_err-write_durably-clause-steps g c = λ told.
    let moments = g.D.Disk.moments in
    let old = moments c.args.disk.now in
    let new = moments c.write_durably.new.disk in
    let bytes = c.args.bytes.now in
    subst (λ (j : JournalState). Went (committing j.live j.len bytes old.now) old new) c.self.view_is (begun c.self.inside.live c.self.inside.len bytes old new (c.write_durably.ensures.moments told))

pub returns-clause-steps : goal.returns-clause-steps
returns-clause-steps g c = λ told.
    let moments = g.D.Disk.moments in
    let old = moments c.args.disk.now in
    let new = moments c.write_durably-2.new.disk in
    let bytes = c.args.bytes.now in
    let went = both c.self.inside.live c.self.inside.len bytes old (moments c.write_durably.new.disk) new (c.write_durably.ensures.moments told) (c.in_ok-write_durably.ensures.written told) (c.write_durably-2.ensures.moments told) in
    subst (λ (j : JournalState). Went (committing j.live j.len bytes old.now) old new) c.self.view_is went

pub returns-clause-appended : goal.returns-clause-appended
returns-clause-appended g c = λ told.
    let moments = g.D.Disk.moments in
    let old = moments c.args.disk.now in
    let middle = moments c.write_durably.new.disk in
    let new = moments c.write_durably-2.new.disk in
    let bytes = c.args.bytes.now in
    let to = λ (is : new.now ≡ on_side c.self.inside.live (written_through (c.self.inside.len - 1) (1 ∷ [])) middle.now). left c.self.inside.live c.self.inside.len bytes old.now middle.now new.now (c.in_ok-write_durably.ensures.written told) is in
    subst (λ (j : JournalState). OnOk c.write_durably-2.result (new.now ≡ last_moment old.now (committing j.live j.len bytes old.now))) c.self.view_is (on_ok_weaker c.write_durably-2.result to (c.write_durably-2.ensures.written told))
