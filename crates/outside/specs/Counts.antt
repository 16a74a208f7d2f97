-- Counts of faults. A count never falls, and stays at the last number of 64 bits once it is there.
use Rattle.std.specs.Prelude.{◌≡◌, ℕ, ◌+◌, ◌-◌, ◌^◌, ◌≤◌, min, Result, Ok, Err}
use Rattle.base.specs.declared.memory.DiskFailed.{DiskFailed}
use Rattle.outside.specs.declared.records.StoreFault.{StoreFault}
use Rattle.outside.specs.declared.records.StoreFault.TheVariants as store
use Rattle.outside.specs.declared.tree.TreeFault.{TreeFault}
use Rattle.outside.specs.declared.tree.TreeFault.TheVariants as tree
use Rattle.outside.specs.declared.procs.StartFault.{StartFault}
use Rattle.outside.specs.declared.procs.StartFault.TheVariants as start
use Rattle.outside.specs.declared.procs.WaitFault.{WaitFault}
use Rattle.outside.specs.declared.procs.WaitFault.TheVariants as wait
use Rattle.outside.specs.declared.streams.SourceFault.{SourceFault}
use Rattle.outside.specs.declared.streams.SourceFault.TheVariants as source
use Rattle.outside.specs.declared.streams.SinkFault.{SinkFault}
use Rattle.outside.specs.declared.streams.SinkFault.TheVariants as sink

-- the count rose: it is greater now, or it is at the last number
abbrev pub Rose : ℕ → ℕ → Type 0
Rose before now = min (before + 1) (2 ^ 64 - 1) ≤ now

-- the count of faults rose
pub record Counted (before now : ℕ) : Type 0 where
  pub later : before ≤ now
  pub rose : Rose before now

-- After each answer of a tree: its fault was counted, and after any other answer the count is unchanged.
abbrev pub TreeCounts : {T : Type 0} → Result T TreeFault → ℕ → ℕ → Type 0
TreeCounts (Ok value) before now = now ≡ before
TreeCounts (Err tree.NoMemory) before now = now ≡ before
TreeCounts (Err tree.Failed) before now = Counted before now

-- after a failed start the count of failed starts rose, and after any other answer it is unchanged
abbrev pub StartCounts : {T : Type 0} → Result T StartFault → ℕ → ℕ → Type 0
StartCounts (Ok value) before now = now ≡ before
StartCounts (Err start.NoMemory) before now = now ≡ before
StartCounts (Err start.Failed) before now = Counted before now

-- after a lost child the count of lost children rose, and after any other answer it is unchanged
abbrev pub ChildCounts : {T : Type 0} → Result T WaitFault → ℕ → ℕ → Type 0
ChildCounts (Ok value) before now = now ≡ before
ChildCounts (Err (wait.NoMemory ticket)) before now = now ≡ before
ChildCounts (Err (wait.Lost ticket)) before now = Counted before now

-- after a fault of the input its count rose, and after any other answer it is unchanged
abbrev pub SourceCounts : {T : Type 0} → Result T SourceFault → ℕ → ℕ → Type 0
SourceCounts (Ok value) before now = now ≡ before
SourceCounts (Err source.NoMemory) before now = now ≡ before
SourceCounts (Err source.Failed) before now = Counted before now

-- after a fault of the output its count rose, and after any other answer it is unchanged
abbrev pub SinkCounts : {T : Type 0} → Result T SinkFault → ℕ → ℕ → Type 0
SinkCounts (Ok value) before now = now ≡ before
SinkCounts (Err sink.Failed) before now = Counted before now

-- after a fault of a disk its count rose, and after any other answer it is unchanged
abbrev pub DiskCounts : {T : Type 0} → Result T DiskFailed → ℕ → ℕ → Type 0
DiskCounts (Ok value) before now = now ≡ before
DiskCounts (Err fault) before now = Counted before now

-- after a fault of a store's disk its count rose, and after any other answer it is unchanged
abbrev pub StoreCounts : {T : Type 0} → Result T StoreFault → ℕ → ℕ → Type 0
StoreCounts (Ok value) before now = now ≡ before
StoreCounts (Err store.NoMemory) before now = now ≡ before
StoreCounts (Err store.DiskFailed) before now = Counted before now
