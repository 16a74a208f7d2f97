-- A store of passes after a call that changes its list of built files alone.
use Rattle.std.proofs.Common.{◌≡◌, ◌∙◌, sym, ap, subst}
use Rattle.outside.specs.Disks.{DiskState}
use Rattle.store_journal.specs.Journals.{IsInStep, JournalState}
use Rattle.passes.specs.Stored.{IsPassStoreInStep, PassStoreState}

-- with the same journal and payloads it is in step with the same disks
pub listed_in_step : (before after : PassStoreState) (disk : DiskState) → after.held.payloads ≡ before.held.payloads → after.journal ≡ before.journal → IsPassStoreInStep before disk → IsPassStoreInStep after disk
listed_in_step before after disk payloads journal step = record {
  journal_in_step = subst (λ (j : JournalState). IsInStep j disk) (sym journal) step.journal_in_step;
  form = ap (λ (j : JournalState). j.form) journal ∙ step.form;
  payloads_are = payloads ∙ step.payloads_are;
}
