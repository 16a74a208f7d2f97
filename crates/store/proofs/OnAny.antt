-- What holds whatever a call answers.
use Rattle.std.proofs.Common.{◌≡◌, List, None, false, Result, Ok, Err, ap, sym, subst, subst₂, ◌∙◌}
use Rattle.std.specs.Prelude.{IfOk, OnOk}
use Rattle.base.specs.declared.file.FileName.{FileName}
use Rattle.base.specs.declared.graph.Entry.{Entry}
use Rattle.outside.specs.Disks.{DiskState}
use Rattle.store.specs.Held.{AreBorrowedBy, HeldState, latest_held}
use Rattle.store_journal.specs.Journals.{JournalState}
use Rattle.store.specs.Stored.{ArePartsInStep, IsRequestStoreInStep, RequestStoreState}

-- what holds at all holds where a call answered a value
pub on_ok_any : {T E P : Type 0} (result : Result T E) → P → OnOk result P
on_ok_any (Ok value) holds = holds
on_ok_any (Err fault) holds = tt

-- a store of a journal and of what is held is in step with the disk that they are in step with
pub still_in_step : {E : Type 0} (result : Result RequestStoreState E) (journal : JournalState) (held : HeldState) (disk : DiskState) → IfOk result (λ store. store.journal ≡ journal) → IfOk result (λ store. store.held ≡ held) → ArePartsInStep journal held disk → IfOk result (λ store. IsRequestStoreInStep store disk)
still_in_step (Ok store) journal held disk same_journal same_held in_step = subst₂ (λ (j : JournalState) (h : HeldState). ArePartsInStep j h disk) (sym same_journal) (sym same_held) in_step
still_in_step (Err fault) journal held disk same_journal same_held in_step = tt

-- and it borrows the texts that were borrowed
pub still_borrowed : {E : Type 0} (result : Result RequestStoreState E) (held : HeldState) (files : List Entry) → IfOk result (λ store. store.held ≡ held) → AreBorrowedBy files held.borrowed → IfOk result (λ store. AreBorrowedBy files store.held.borrowed)
still_borrowed (Ok store) held files same borrowed = subst (λ (h : HeldState). AreBorrowedBy files h.borrowed) (sym same) borrowed
still_borrowed (Err fault) held files same borrowed = tt

-- and where nothing was held of any name, it has no record
pub still_none : {E : Type 0} (result : Result RequestStoreState E) (held : HeldState) → IfOk result (λ store. store.held ≡ held) → ((name : FileName) → latest_held held.payloads name ≡ None) → IfOk result (λ store. (name : FileName) → latest_held store.held.payloads name ≡ None)
still_none (Ok store) held same none = λ name. ap (λ (h : HeldState). latest_held h.payloads name) same ∙ none name
still_none (Err fault) held same none = tt

-- and its journal can be used where it could be used
pub still_usable : {E : Type 0} (result : Result RequestStoreState E) (journal : JournalState) → IfOk result (λ store. store.journal ≡ journal) → journal.broken ≡ false → IfOk result (λ store. store.journal.broken ≡ false)
still_usable (Ok store) journal same usable = ap (λ (j : JournalState). j.broken) same ∙ usable
still_usable (Err fault) journal same usable = tt
