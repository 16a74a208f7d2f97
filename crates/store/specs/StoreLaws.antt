-- What holds where a store is in step with a disk.
use Rattle.std.specs.Prelude.{◌≡◌, ℕ, Bool, true, not, ◌&&◌, List, if◌then◌else◌}
use Rattle.std.proofs.Common.{ap, subst, sym, ◌∙◌}
use Rattle.base.specs.declared.file.FileName.{FileName}
use Rattle.outside.specs.Disks.{DiskState, Image, IsDurable, reads_of}
use Rattle.outside.proofs.ImageLaws.{settled_disk_only}
use Rattle.outside.specs.Records.{latest as latest_request}
use Rattle.store.specs.Held.{latest_held}
use Rattle.store_journal.specs.Forms.{has_form}
use Rattle.store_journal.specs.Journals.{IsInStep, JournalState}
use Rattle.store_journal.specs.Payloads.{payloads}
use Rattle.store_journal.proofs.Forms.{counts_has_form}
use Rattle.store_form_2.specs.NodeContents.{contents_of as node_contents_of}
use Rattle.store_form_2.specs.Migrating.{migrated_requests}
use Rattle.store.specs.Stored.{IsRequestStoreInStep, RequestStoreState, own_requests, requests_in}

-- a stop can leave what reads give
pub request_store_durable : (store : RequestStoreState) (disk : DiskState) → IsRequestStoreInStep store disk → IsDurable disk
request_store_durable store disk in_step = subst IsDurable (sym in_step.journal_in_step.settled) (settled_disk_only (reads_of disk))

-- where form 3 is live its records are an image's
pub live_requests : (image : Image) → has_form 3 image ≡ true → requests_in image ≡ own_requests image
live_requests image live = ap (λ (b : Bool). if not b && has_form 2 image then migrated_requests (node_contents_of (payloads 2 image)).records else own_requests image) live

-- a journal of form 3 that is in step
pub in_step_live : (journal : JournalState) (disk : DiskState) → IsInStep journal disk → journal.form ≡ 3 → has_form 3 (reads_of disk) ≡ true
in_step_live journal disk in_step form = subst (λ (f : ℕ). has_form f (reads_of disk) ≡ true) form (counts_has_form journal.form (reads_of disk) journal.live in_step.counts)

-- the latest record of each name is the disk's
pub request_store_held : (store : RequestStoreState) (disk : DiskState) (name : FileName) → IsRequestStoreInStep store disk → latest_held store.held.payloads name ≡ latest_request name (requests_in (reads_of disk))
request_store_held store disk name in_step =
    ap (λ (payloads : List (List ℕ)). latest_held payloads name) in_step.payloads_are
    ∙ ap (latest_request name) (sym (live_requests (reads_of disk) (in_step_live store.journal disk in_step.journal_in_step in_step.form)))
