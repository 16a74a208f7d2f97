use Rattle.std.proofs.Common.{◌∙◌, sym, ap, subst}
use Rattle.store_journal.specs.declared.layout.Headers.{Headers}
use Rattle.store_journal.specs.declared.layout.Live.{Live}
use Rattle.store_journal.specs.Headers.{IsLiveOf}
use Rattle.store_journal.proofs.Lives.{a_alone, a_not_lower, b_alone, b_higher, none_live}
use Rattle.store_journal.proofs.layout.live_side.Goals as goal

pub returns-in_default-b-clause-counts : goal.returns-in_default-b-clause-counts
returns-in_default-b-clause-counts c = λ form image is.
    none_live form image (sym c.in_default.is ∙ ap (λ (h : Headers). h.a) is) (sym c.in_default-b.is ∙ ap (λ (h : Headers). h.b) is)

pub returns-in_default-clause-counts : goal.returns-in_default-clause-counts
returns-in_default-clause-counts c = λ form image is.
    subst (λ (live : Live). IsLiveOf form image live) (sym c.live_as.ensures)
    (b_alone form image c.in-Some-b.second (sym c.in_default.is ∙ ap (λ (h : Headers). h.a) is) (sym c.in-Some-b.is ∙ ap (λ (h : Headers). h.b) is))

pub returns-in_default-b-2-clause-counts : goal.returns-in_default-b-2-clause-counts
returns-in_default-b-2-clause-counts c = λ form image is.
    subst (λ (live : Live). IsLiveOf form image live) (sym c.live_as-in_default-b-2.ensures)
    (a_alone form image c.in-Some.first (sym c.in-Some.is ∙ ap (λ (h : Headers). h.a) is) (sym c.in_default-b-2.is ∙ ap (λ (h : Headers). h.b) is))

pub returns-then-first-second-clause-counts : goal.returns-then-first-second-clause-counts
returns-then-first-second-clause-counts c = λ form image is.
    subst (λ (live : Live). IsLiveOf form image live) (sym c.live_as-then-first-second.ensures)
    (b_higher form image c.in-Some.first c.in-Some-b-2.second (sym c.in-Some.is ∙ ap (λ (h : Headers). h.a) is) (sym c.in-Some-b-2.is ∙ ap (λ (h : Headers). h.b) is) c.if-first-second.true)

pub returns-clause-counts : goal.returns-clause-counts
returns-clause-counts c = λ form image is.
    subst (λ (live : Live). IsLiveOf form image live) (sym c.live_as-2.ensures)
    (a_not_lower form image c.in-Some.first c.in-Some-b-2.second (sym c.in-Some.is ∙ ap (λ (h : Headers). h.a) is) (sym c.in-Some-b-2.is ∙ ap (λ (h : Headers). h.b) is) c.if-first-second.false)
