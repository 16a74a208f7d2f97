-- The passes of a store.
use Rattle.std.specs.Prelude.{◌≡◌, ℕ, List}
use Rattle.std.specs.Option.{option_map_or}
use Rattle.outside.specs.Disks.{DiskState, Image, IsImage, image_side, reads_of}
use Rattle.store_journal.specs.DeadBytes.{AsksAt, closed_length}
use Rattle.store_journal.specs.Journals.{IsHealthy, IsInStep, JournalState}
use Rattle.store_journal.specs.Payloads.{counting, generation_of, payloads}
use Rattle.passes_spec.specs.Passes.{IsAllOrLast, Pass, last_passes}
use Rattle.passes_codec.specs.PassTables.{passes_among}
use Rattle.passes_codec.specs.Compaction.{compacted_passes}
use Rattle.passes_table.specs.States.{PassesState}

-- a store: what its journal knows of the disk, and its passes with the pending list of built files
pub record PassStoreState : Type 0 where
  pub journal : JournalState
  pub held : PassesState

-- a store of this journal and these passes
abbrev pub store_of : JournalState → PassesState → PassStoreState
store_of journal held = record { journal = journal; held = held }

-- the passes of a store
abbrev pub passes_held : PassStoreState → List Pass
passes_held store = passes_among store.held.payloads

-- the passes of an image
abbrev pub passes_in : Image → List Pass
passes_in image = passes_among (payloads 5 image)

-- A store is in step with a disk: its journal, of form 5, is, and its payloads are those of the disk.
pub record IsPassStoreInStep (store : PassStoreState) (disk : DiskState) : Type 0 where
  pub journal_in_step : IsInStep store.journal disk
  pub form : store.journal.form ≡ 5
  pub payloads_are : store.held.payloads ≡ payloads 5 (reads_of disk)

-- An image has the passes of an image of a disk, or the last of the same tests alone.
pub record HasPassesOf (disk : DiskState) (image : Image) : Type 0 where
  pub before : Image
  pub was : IsImage disk before
  pub kept : IsAllOrLast (passes_in before) (passes_in image)

-- ## Compaction

-- the bytes that compaction would leave, up to and with the closed commit byte
abbrev pub live_length : List (List ℕ) → ℕ
live_length payloads = closed_length (compacted_passes (passes_among payloads))

-- Payloads are compacted at opening exactly if their dead bytes are more than the live ones and more than the limit, and there is
-- a next generation.
abbrev pub AsksCompaction : ℕ → List (List ℕ) → Type 0
AsksCompaction generation payloads = AsksAt generation (closed_length payloads) (live_length payloads)

-- the generation of an image: that of the side that counts, or 1 if none does
abbrev pub opened_generation : Image → ℕ
opened_generation image = option_map_or (λ side. generation_of (image_side side image)) (counting 5 image) 1

-- an image whose passes are compacted at opening
abbrev pub ImageAsksCompaction : Image → Type 0
ImageAsksCompaction image = AsksCompaction (opened_generation image) (payloads 5 image)

-- Opening leaves an image unchanged: a side counts, its last commit byte is closed, and it needs no compaction.
pub record IsResting (image : Image) : Type 0 where
  pub healthy : IsHealthy 5 image
  pub unasked : ¬ ImageAsksCompaction image

-- An image after compaction of some passes: it has the last of the same tests alone, and compaction would keep all of its
-- payloads.
pub record HasCompacted (before : List Pass) (after : Image) : Type 0 where
  pub side : payloads 5 after ≡ compacted_passes before
  pub passes : passes_in after ≡ last_passes before
  pub live : payloads 5 after ≡ compacted_passes (passes_in after)
