-- The fault of a build or of runs of tests that is answered, and what the counts of faults say of it.
use Rattle.std.specs.Prelude.{◌≡◌, ℕ, Bool, true, false, Option, Some, None, Result, Ok, Err}
use Rattle.outside.specs.Counts.{Rose, Counted}
use Rattle.outside.specs.FaultCounts.{BuildFaultCounts, NoBuildCountFell}
use Rattle.run_spec.specs.declared.fault.RunFault.{RunFault}
use Rattle.run_spec.specs.declared.fault.RunFault.TheVariants.{NoMemory, StartFailed, ChildLost, DiskFailed}

-- the first of two faults
abbrev pub earlier_fault : Option RunFault → RunFault → RunFault
earlier_fault None fault = fault
earlier_fault (Some first) fault = first

-- the fault to answer after one more: the first in time, but out of memory in the place of any other
abbrev pub with_fault : Option RunFault → RunFault → RunFault
with_fault first_fault NoMemory = NoMemory
with_fault first_fault StartFailed = earlier_fault first_fault StartFailed
with_fault first_fault ChildLost = earlier_fault first_fault ChildLost
with_fault first_fault DiskFailed = earlier_fault first_fault DiskFailed

-- the fault to answer is that memory ran out
abbrev pub is_no_memory : Option RunFault → Bool
is_no_memory None = false
is_no_memory (Some NoMemory) = true
is_no_memory (Some StartFailed) = false
is_no_memory (Some ChildLost) = false
is_no_memory (Some DiskFailed) = false

-- the fault that is answered
abbrev pub fault_of : {T : Type 0} → Result T RunFault → Option RunFault
fault_of (Ok value) = None
fault_of (Err fault) = Some fault

-- where no fault is answered all counts are unchanged; else the count of that fault rose, and others may have
abbrev pub Explains : Option RunFault → BuildFaultCounts → BuildFaultCounts → Type 0
Explains None first now = now ≡ first
Explains (Some NoMemory) first now = Unit {0}
Explains (Some StartFailed) first now = Rose first.children.starts now.children.starts
Explains (Some ChildLost) first now = Rose first.children.losses now.children.losses
Explains (Some DiskFailed) first now = Rose first.disks now.disks

-- a lost child or a failed call of the disk is answered only where no start has failed: after either none is tried
abbrev pub NoStartFailed : Option RunFault → BuildFaultCounts → BuildFaultCounts → Type 0
NoStartFailed None first now = Unit {0}
NoStartFailed (Some NoMemory) first now = Unit {0}
NoStartFailed (Some StartFailed) first now = Unit {0}
NoStartFailed (Some ChildLost) first now = now.children.starts ≡ first.children.starts
NoStartFailed (Some DiskFailed) first now = now.children.starts ≡ first.children.starts

-- The counts of a build. No count fell, and they explain the fault that is answered. A lost child or a failed call of the disk
-- is answered only where no start failed. The store is broken only where a call of the disk failed.
pub record CountsBy (first_fault : Option RunFault) (broken : Bool) (first now : BuildFaultCounts) : Type 0 where
  pub none_fell : NoBuildCountFell first now
  pub explains : Explains first_fault first now
  pub start_first : NoStartFailed first_fault first now
  pub breaks : broken ≡ true → Rose first.disks now.disks

-- the counts after a child was to be started
abbrev pub CountsStart : {T : Type 0} → Result T RunFault → ℕ → ℕ → Type 0
CountsStart (Ok value) before now = now ≡ before
CountsStart (Err NoMemory) before now = now ≡ before
CountsStart (Err StartFailed) before now = Counted before now
CountsStart (Err ChildLost) before now = ⊥
CountsStart (Err DiskFailed) before now = ⊥
