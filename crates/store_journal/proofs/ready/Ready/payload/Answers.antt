use Rattle.std.proofs.Common.{◌≤◌, List, ℕ, length, ap, sym, subst, ◌∙◌}
use Rattle.store_journal.specs.Journals.{payload_within}
use Rattle.store_journal.proofs.Framed.{framed_length, within}
use Rattle.store_journal.proofs.ready.Ready.payload.Goals as goal

pub inner-requires : goal.inner-requires
inner-requires c = subst (λ (bs : List ℕ). 5 ≤ length bs) (sym c.bytes.ensures.bytes) (framed_length c.args.self.now)

pub returns : goal.returns
returns c = c.inner.ensures ∙ ap payload_within c.bytes.ensures.bytes ∙ within c.args.self.now
