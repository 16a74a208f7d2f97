-- The counts of runs of tests after a record that failed.
use Rattle.std.proofs.Common.{◌≡◌, ℕ, false, Option, Some, None, Err, refl, ap, subst, arith}
use Rattle.std.proofs.lemmas.Bool.{false≢true}
use Rattle.outside.specs.Counts.{StoreCounts}
use Rattle.outside.specs.FaultCounts.{BuildFaultCounts, ChildFaultCounts}
use Rattle.outside.specs.declared.records.StoreFault.{StoreFault}
use Rattle.outside.specs.declared.records.StoreFault.TheVariants as store
use Rattle.run_spec.specs.declared.fault.RunFault.TheVariants as fault
use Rattle.run_spec.specs.declared.fault.RunFault.{RunFault}
use Rattle.run_spec.specs.Faults.{CountsBy, Explains, NoStartFailed, with_fault}
use Rattle.run_tests.specs.Recording.{record_fault}

abbrev with_disks : BuildFaultCounts → ℕ → BuildFaultCounts
with_disks counts disks = record counts { disks = disks }

after_fault : (T : Type 0) (failed : StoreFault) (now : BuildFaultCounts) (before later : ℕ) → StoreCounts {T = T} (Err failed) before later → CountsBy (Some (with_fault None (record_fault failed))) false (with_disks now before) (with_disks now later)
after_fault T store.NoMemory now before later same = record {
  none_fell = record { children = record { starts = omega arith; losses = omega arith }; disks = (let s : later ≡ before = same in omega arith) };
  explains = tt;
  start_first = tt;
  breaks = λ b. absurd (false≢true b);
}
after_fault T store.DiskFailed now before later counted = record {
  none_fell = record { children = record { starts = omega arith; losses = omega arith }; disks = counted.later };
  explains = counted.rose;
  start_first = refl;
  breaks = λ b. absurd (false≢true b);
}

-- the counts after a record that failed, where there was no fault before
pub counts_after_fault : (T : Type 0) (failed : StoreFault) (first now : BuildFaultCounts) (before later : ℕ) → CountsBy None false first (with_disks now before) → StoreCounts {T = T} (Err failed) before later
    → CountsBy (Some (with_fault None (record_fault failed))) false first (with_disks now later)
counts_after_fault T failed first now before later counts cause = subst (λ (start : BuildFaultCounts). CountsBy (Some (with_fault None (record_fault failed))) false start (with_disks now later)) counts.explains (after_fault T failed now before later cause)

-- memory ran out before anything was done
pub no_memory_counts : (first : BuildFaultCounts) → CountsBy (Some fault.NoMemory) false first first
no_memory_counts first = record {
  none_fell = record { children = record { starts = omega arith; losses = omega arith }; disks = omega arith };
  explains = tt;
  start_first = tt;
  breaks = λ b. absurd (false≢true b);
}

abbrev counts_of : ChildFaultCounts → ℕ → BuildFaultCounts
counts_of children disks = record { children = children; disks = disks }

same_children : (first now : ChildFaultCounts) (disks : ℕ) → counts_of now 0 ≡ counts_of first 0 → counts_of now disks ≡ counts_of first disks
same_children first now disks same = ap (λ (counts : BuildFaultCounts). counts_of counts.children disks) same

-- where nothing is recorded, the counts say the same beside any count of a disk
pub counts_unrecorded : (first_fault : Option RunFault) (first now : ChildFaultCounts) (disks : ℕ) → CountsBy first_fault false (counts_of first 0) (counts_of now 0) → CountsBy first_fault false (counts_of first disks) (counts_of now disks)
counts_unrecorded first_fault first now disks counts = record {
  none_fell = record { children = counts.none_fell.children; disks = omega arith };
  explains = by_fault first_fault counts.explains;
  start_first = at_start first_fault counts.start_first;
  breaks = λ b. absurd (false≢true b);
} where
  by_fault : (o : Option RunFault) → Explains o (counts_of first 0) (counts_of now 0) → Explains o (counts_of first disks) (counts_of now disks)
  by_fault None same = same_children first now disks same
  by_fault (Some fault.NoMemory) said = tt
  by_fault (Some fault.StartFailed) said = said
  by_fault (Some fault.ChildLost) said = said
  by_fault (Some fault.DiskFailed) rose = absurd (omega (arith, rose))

  at_start : (o : Option RunFault) → NoStartFailed o (counts_of first 0) (counts_of now 0) → NoStartFailed o (counts_of first disks) (counts_of now disks)
  at_start None said = tt
  at_start (Some fault.NoMemory) said = tt
  at_start (Some fault.StartFailed) said = tt
  at_start (Some fault.ChildLost) said = said
  at_start (Some fault.DiskFailed) said = said
