-- What a call makes of the bytes that reads give.
use Rattle.std.proofs.Common.{◌≡◌, ℕ, Bool, true, false, cond, List, length, refl, ap}
use Rattle.outside.specs.declared.disk.Side.{Side}
use Rattle.outside.specs.declared.disk.Side.TheVariants.{A, B}
use Rattle.outside.specs.Disks.{SideState, DiskState, on_side, reads_of, touching, written}
use Rattle.memory_outside.specs.declared.logged.Act.{Act}
use Rattle.memory_outside.specs.declared.logged.Act.TheVariants as act
use Rattle.memory_outside.specs.declared.logged.LoggedCall.{LoggedCall}
use Rattle.memory_outside.specs.Disks.{is_allowed, side_after, disk_after, reads_after, on_bytes}

either_reads : (test : Bool) (one other : SideState) → (cond test one other).reads ≡ cond test one.reads other.reads
either_reads true one other = refl
either_reads false one other = refl

-- a write that failed changes nothing that reads give
same_reads : (test : Bool) (at count : ℕ) (side : SideState) → (cond test (touching at count side) side).reads ≡ side.reads
same_reads true at count side = refl
same_reads false at count side = refl

pub side_reads_after : (done : Bool) (call : Act) (side : SideState) → (side_after done call side).reads ≡ reads_after done call side.reads
side_reads_after true (act.Write at bytes) side = either_reads (is_allowed at (length bytes) side.reads) (written at bytes side) side
side_reads_after false (act.Write at bytes) side = same_reads (is_allowed at (length bytes) side.reads) at (length bytes) side
side_reads_after true act.Cut side = refl
side_reads_after false act.Cut side = refl
side_reads_after true act.Sync side = refl
side_reads_after false act.Sync side = refl

on_side_reads : (side : Side) (change : SideState → SideState) (less : List ℕ → List ℕ) (disk : DiskState) → ((s : SideState) → (change s).reads ≡ less s.reads) → reads_of (on_side side change disk) ≡ on_bytes side less (reads_of disk)
on_side_reads A change less disk same = ap (λ (l : List ℕ). record { a = l; b = disk.b.reads }) (same disk.a)
on_side_reads B change less disk same = ap (λ (l : List ℕ). record { a = disk.a.reads; b = l }) (same disk.b)

pub disk_reads_after : (kept : LoggedCall) (disk : DiskState) → reads_of (disk_after kept disk) ≡ on_bytes kept.side (reads_after kept.done kept.act) (reads_of disk)
disk_reads_after kept disk = on_side_reads kept.side (side_after kept.done kept.act) (reads_after kept.done kept.act) disk (side_reads_after kept.done kept.act)
