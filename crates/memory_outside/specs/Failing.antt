-- The calls of an object that are to fail, by their numbers. A number counts the calls of the object's trait from 0,
-- and stays at the last number of 64 bits once it is there.
use Rattle.std.specs.Prelude.{◌≡◌, ℕ, ◌+◌, ◌-◌, ◌^◌, ◌<◌, ◌==◌, ◌⊎◌, Bool, true, false, min, List, Result, Ok, Err}
use Rattle.std.specs.List.{list_any}
use Rattle.base.specs.declared.memory.DiskFailed.{DiskFailed}
use Rattle.outside.specs.declared.tree.TreeFault.{TreeFault}
use Rattle.outside.specs.declared.tree.TreeFault.TheVariants as tree
use Rattle.outside.specs.declared.procs.StartFault.{StartFault}
use Rattle.outside.specs.declared.procs.StartFault.TheVariants as start
use Rattle.outside.specs.declared.procs.WaitFault.{WaitFault}
use Rattle.outside.specs.declared.procs.WaitFault.TheVariants as wait
use Rattle.outside.specs.declared.streams.SourceFault.{SourceFault}
use Rattle.outside.specs.declared.streams.SourceFault.TheVariants as source
use Rattle.outside.specs.declared.streams.SinkFault.{SinkFault}
use Rattle.outside.specs.declared.streams.SinkFault.TheVariants as sink
use Rattle.memory_outside.specs.declared.failing.Calls.{Calls}

-- the number of the call after a call
abbrev pub next_call : ℕ → ℕ
next_call call = min (call + 1) (2 ^ 64 - 1)

-- whether the next call is in the list of calls that fail
abbrev pub fails_next : Calls → Bool
fails_next calls = list_any (λ n. n == calls.made) calls.failing

-- no call was made
abbrev pub no_calls : List ℕ → Calls
no_calls failing = record { failing = failing; made = 0; failed = 0 }

-- one call more was made, and the count of faults may have changed
pub record MakesCall (old new : Calls) : Type 0 where
  pub failing : new.failing ≡ old.failing
  pub made : new.made ≡ next_call old.made

-- A call of a tree that is listed fails, and any other finds no fault but out of memory.
abbrev pub TreeFails : {T : Type 0} → Result T TreeFault → Calls → Type 0
TreeFails (Ok value) calls = fails_next calls ≡ false
TreeFails (Err tree.NoMemory) calls = fails_next calls ≡ false
TreeFails (Err tree.Failed) calls = fails_next calls ≡ true

-- A start that is listed fails, and any other finds no fault but out of memory.
abbrev pub StartFails : {T : Type 0} → Result T StartFault → Calls → Type 0
StartFails (Ok value) calls = fails_next calls ≡ false
StartFails (Err start.NoMemory) calls = fails_next calls ≡ false
StartFails (Err start.Failed) calls = fails_next calls ≡ true

-- A wait that is listed loses its child, and any other finds no fault but out of memory.
abbrev pub WaitFails : {T : Type 0} → Result T WaitFault → Calls → Type 0
WaitFails (Ok value) calls = fails_next calls ≡ false
WaitFails (Err (wait.NoMemory ticket)) calls = fails_next calls ≡ false
WaitFails (Err (wait.Lost ticket)) calls = fails_next calls ≡ true

-- A take that is listed fails, and any other is answered: it takes no memory.
abbrev pub SourceFails : {T : Type 0} → Result T SourceFault → Calls → Type 0
SourceFails (Ok value) calls = fails_next calls ≡ false
SourceFails (Err source.NoMemory) calls = ⊥
SourceFails (Err source.Failed) calls = fails_next calls ≡ true

-- A line that is listed fails to be taken, and any other finds no fault but out of memory.
abbrev pub LineFails : {T : Type 0} → Result T SourceFault → Calls → Type 0
LineFails (Ok value) calls = fails_next calls ≡ false
LineFails (Err source.NoMemory) calls = fails_next calls ≡ false
LineFails (Err source.Failed) calls = fails_next calls ≡ true

-- A put that is listed fails, and any other fails only where the bytes have no room, for lack of memory.
abbrev pub SinkFails : {T : Type 0} → Result T SinkFault → Calls → (room wanted : ℕ) → Type 0
SinkFails (Ok value) calls room wanted = fails_next calls ≡ false
SinkFails (Err sink.Failed) calls room wanted = (fails_next calls ≡ true) ⊎ (room < wanted)

-- A call of a disk that only asks fails where it is listed, and nowhere else.
abbrev pub AskFails : {T : Type 0} → Result T DiskFailed → Calls → Type 0
AskFails (Ok value) calls = fails_next calls ≡ false
AskFails (Err fault) calls = fails_next calls ≡ true

-- A call of a disk that is listed fails. Any other may find no memory.
abbrev pub DiskFails : {T : Type 0} → Result T DiskFailed → Calls → Type 0
DiskFails (Ok value) calls = fails_next calls ≡ false
DiskFails (Err fault) calls = Unit {0}
