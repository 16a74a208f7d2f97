-- The records of a store of requests.
use Rattle.std.specs.Prelude.{◌≡◌, ℕ, ◌<◌, Bool, true, false, List, [], length, Option, Some, Result, Ok, Err, slice_index_or, if◌then◌else◌}
use Rattle.std.specs.Option.{option_map_or}
use Rattle.base.specs.declared.file.FileName.{FileName}
use Rattle.base.specs.declared.graph.Entry.{Entry}
use Rattle.base.specs.declared.memory.DiskFailed.{DiskFailed}
use Rattle.outside.specs.declared.records.StoreFault.{StoreFault}
use Rattle.outside.specs.declared.records.StoreFault.TheVariants as fault
use Rattle.outside.specs.Disks.{DiskState, Image, image_side, reads_of}
use Rattle.store_journal.specs.DeadBytes.{AsksAt, closed_length}
use Rattle.store_journal.specs.Forms.{older_counts}
use Rattle.store_journal.specs.Payloads.{counting, generation_of, payloads}
use Rattle.store_journal.specs.Journals.{IsHealthy, IsInStep, JournalState}
use Rattle.store_codec.specs.Compaction.{compacted_requests}
use Rattle.store_codec.specs.Ranges.{request_in_ranges}
use Rattle.outside.specs.Records.{HasRecordsOf, IsAllOrLatest, Record as RequestRecord, is_of as asks_for, latest_alone as latest_requests}
use Rattle.store_codec.specs.RecordTables.{drafted_record, record_table_of, requests_among}
use Rattle.store_table.specs.declared.cutting.CutRequest.{CutRequest}
use Rattle.store.specs.declared.additions.RequestAddition.{RequestAddition}
use Rattle.store.specs.Additions.{AddsRequest, IsCutFor, added_name, no_entry}
use Rattle.store.specs.Held.{HeldState}
use Rattle.store.specs.LookedUp.{AreRecordHandles}
use Rattle.store.specs.declared.handles.RecordHandle.{RecordHandle}
use Rattle.store_form_2.specs.NodeContents.{contents_of as node_contents_of}
use Rattle.store_form_2.specs.Migrating.{migrated_requests}
use Rattle.store.specs.Taking.{taken_payloads}

-- a store: what its journal knows of the disk, the payloads with the names and the room that it has, and where it found the
-- files of the graph that it was opened over
pub record RequestStoreState : Type 0 where
  pub journal : JournalState
  pub held : HeldState
  pub handles : List (Option RecordHandle)

-- a record that is ready to be committed: its payload, what that adds, and the payload without its text, where a file lends that
pub record PreparedState : Type 0 where
  pub payload : List ℕ
  pub addition : RequestAddition
  pub cut : Option CutRequest

-- a payload, with what it adds, and without its text where a file lends that
abbrev pub prepared_of : List ℕ → RequestAddition → Option CutRequest → PreparedState
prepared_of payload addition cut = record { payload = payload; addition = addition; cut = cut }

-- the records of the payloads of form 3 alone
abbrev pub own_requests : Image → List RequestRecord
own_requests image = requests_among (payloads 3 image)

-- The records of an image: those of form 3. If form 2 alone is live, they are the requests that stand for its records.
abbrev pub requests_in : Image → List RequestRecord
requests_in image = if older_counts 3 2 image then migrated_requests (node_contents_of (payloads 2 image)).records else own_requests image

-- the payloads of an image: those of form 3, or the payloads that take over those of form 2 if form 2 alone is live
abbrev pub kept_payloads : Image → List (List ℕ)
kept_payloads image = if older_counts 3 2 image then taken_payloads (payloads 2 image) else payloads 3 image

-- a store of this journal and these payloads that has found these files
abbrev pub store_with : JournalState → HeldState → List (Option RecordHandle) → RequestStoreState
store_with journal held handles = record { journal = journal; held = held; handles = handles }

-- a store of this journal and these payloads that has looked up no file yet
abbrev pub store_of : JournalState → HeldState → RequestStoreState
store_of journal held = store_with journal held []

-- The journal, of form 3, is in step with the disk, and the payloads are the disk's.
pub record ArePartsInStep (journal : JournalState) (held : HeldState) (disk : DiskState) : Type 0 where
  pub journal_in_step : IsInStep journal disk
  pub form : journal.form ≡ 3
  pub payloads_are : held.payloads ≡ payloads 3 (reads_of disk)

-- a store that is in step with the disk, whichever files it has looked up
abbrev pub IsRequestStoreInStep : RequestStoreState → DiskState → Type 0
IsRequestStoreInStep store disk = ArePartsInStep store.journal store.held disk

-- a store that has looked up the files of a graph: it knows the latest record of each, if there is one
abbrev pub IsOver : RequestStoreState → List Entry → Type 0
IsOver store graph = AreRecordHandles (record_table_of store.held.payloads) graph store.handles

-- all the records, or the latest alone
abbrev pub AreAllOrLatest : List RequestRecord → List RequestRecord → Type 0
AreAllOrLatest before now = IsAllOrLatest before now

-- an image has the records of an image of a disk, or the latest of these alone
abbrev pub HasRequestsOf : DiskState → Image → Type 0
HasRequestsOf disk image = HasRecordsOf requests_in disk image

-- the record that a prepared one adds to payloads
abbrev pub prepared_record : List (List ℕ) → PreparedState → RequestRecord
prepared_record payloads prepared = drafted_record (record_table_of payloads) (request_in_ranges prepared.payload prepared.addition.draft)

-- A prepared record is one that the payloads of a store take up, and there is room for it.
pub record IsRequestReady (held : HeldState) (prepared : PreparedState) : Type 0 where
  pub adds : AddsRequest held.payloads held.names prepared.payload prepared.addition
  pub cut : IsCutFor held.borrowed prepared.payload prepared.addition prepared.cut
  pub room : 0 < held.room

-- A record was prepared for the file at a position of a graph.
pub record IsPreparedAt (graph : List Entry) (at : ℕ) (prepared : PreparedState) : Type 0 where
  pub at_is : prepared.addition.at ≡ at
  pub named : (slice_index_or graph at no_entry).name ≡ added_name prepared.payload prepared.addition

-- the latest record of each name, with one more record
abbrev pub with_newer : RequestRecord → (FileName → Option RequestRecord) → FileName → Option RequestRecord
with_newer new latest_of name = if asks_for name new then Some new else latest_of name

-- the latest records after a commit that answered
abbrev pub after_committing : {T : Type 0} → Result T DiskFailed → RequestRecord → (FileName → Option RequestRecord) → FileName → Option RequestRecord
after_committing (Ok value) new latest_of = with_newer new latest_of
after_committing (Err fault) new latest_of = latest_of

-- the bytes that compaction would leave, up to and with the closed commit byte
abbrev pub live_length : List (List ℕ) → ℕ
live_length payloads = closed_length (compacted_requests (requests_among payloads))

-- Opening a store compacts it exactly if its dead bytes are more than its live ones and more than the limit, and there is a
-- next generation.
abbrev pub AsksCompaction : ℕ → List (List ℕ) → Type 0
AsksCompaction generation payloads = AsksAt generation (closed_length payloads) (live_length payloads)

-- the generation of an image: that of the side that counts, or 1 where none does
abbrev pub opened_generation : Image → ℕ
opened_generation image = option_map_or (λ side. generation_of (image_side side image)) (counting 3 image) 1

-- an image whose store is compacted when it is opened
abbrev pub ImageAsksCompaction : Image → Type 0
ImageAsksCompaction image = AsksCompaction (opened_generation image) (payloads 3 image)

-- An image that opening doesn't change: a side counts, the commit byte after its last payload isn't open, and its payloads ask
-- for no compaction.
pub record IsResting (image : Image) : Type 0 where
  pub healthy : IsHealthy 3 image
  pub unasked : ¬ ImageAsksCompaction image

-- An image after compaction of some records. Its payloads keep the latest of these records, and its records are these latest
-- ones. None of its bytes is dead, since compaction would keep all of its payloads.
pub record HasCompactedOver (before : List RequestRecord) (after : Image) : Type 0 where
  pub side : payloads 3 after ≡ compacted_requests before
  pub records : requests_in after ≡ latest_requests before
  pub live : payloads 3 after ≡ compacted_requests (requests_in after)

-- whether a call answered a fault of the disk
abbrev pub has_disk_failed : {T : Type 0} → Result T StoreFault → Bool
has_disk_failed (Ok value) = false
has_disk_failed (Err fault.NoMemory) = false
has_disk_failed (Err fault.DiskFailed) = true

-- two things hold where a call answered that there is no memory
abbrev pub OnNoMemory : {T : Type 0} → Result T StoreFault → Type 0 → Type 0 → Type 0
OnNoMemory (Ok value) one other = Unit {0}
OnNoMemory (Err fault.NoMemory) one other = one × other
OnNoMemory (Err fault.DiskFailed) one other = Unit {0}
