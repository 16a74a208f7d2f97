-- The examples of "A build over any store".
use Rattle.std.specs.Prelude.{◌≡◌, ℕ, ◌++◌, ◌∷◌, true, false, List, [], Some, map, take}
use Rattle.base.specs.declared.child.Event.{Event}
use Rattle.base.specs.declared.child.Event.TheVariants.{Ended, Gone, Started}
use Rattle.outside.specs.FaultCounts.{BuildFaultCounts}
use Rattle.run_spec.specs.ChildJournal.{Work}
use Rattle.run_spec.specs.Settled.{none_current}
use Rattle.run_spec.specs.Faults.{CountsBy}
use Rattle.run_build.specs.Faults.{IsDiskFirst, IsLossFirst, before_loss, given_before_loss, is_all_committed}
use Rattle.run_build.specs.Ran.{built_by}
use Rattle.run_spec.specs.declared.fault.RunFault.TheVariants.{ChildLost, DiskFailed, StartFailed}
use Rattle.tests_examples.specs.Example.{a_built, a_request, b_built, b_request, events, exit, file, name, one_slot, with_end_of_b}
use Rattle.run_spec.specs.declared.fault.RunFault.TheVariants as fault

-- b ends with code 1
abbrev b_refused : List Event
b_refused = with_end_of_b (exit 1 [])

-- which files have an artefact in the end
pub record MadeInTheEnd : Type 0 where
  pub first_alone : built_by one_slot b_refused ≡ a_built ∷ []
  pub both : built_by one_slot events ≡ a_built ∷ b_built ∷ []

-- which fault is answered, and what was given before a loss
pub record AnsweredFaults : Type 0 where
  pub lost : is_all_committed (Some ChildLost) false ≡ true
  pub no_memory : is_all_committed (Some fault.NoMemory) false ≡ false
  pub before : before_loss (Started 7 a_request ∷ Gone 7 ∷ Ended 8 (exit 0 []) ∷ []) ≡ Started 7 a_request ∷ []
  pub given : given_before_loss one_slot (take 2 events ++ (Started 8 b_request ∷ Gone 8 ∷ [])) ≡ 1

-- three files that depend on nothing, all of them running
abbrev apart : Work
apart = record { graph = map (λ letter. file (name letter) [] []) (97 ∷ 98 ∷ 99 ∷ []); current = none_current; slots = 3; keep_going = false }

-- the first three events of a build: children 1, 2 and 3 are started
abbrev all_start : List Event
all_start = Started 1 a_request ∷ Started 2 a_request ∷ Started 3 a_request ∷ []

-- a commit before the loss of the second, and the loss before it
pub record GivenBeforeLosses : Type 0 where
  pub given_one : given_before_loss apart (all_start ++ (Ended 1 (exit 0 []) ∷ Gone 2 ∷ Ended 3 (exit 0 []) ∷ [])) ≡ 1
  pub given_none : given_before_loss apart (all_start ++ (Gone 2 ∷ Ended 1 (exit 0 []) ∷ [])) ≡ 0

-- which of a lost child and the disk came first: the loss before the end of the first, and after it
pub record FirstOfTwoFaults : Type 0 where
  pub loss : IsLossFirst apart (all_start ++ (Gone 2 ∷ Ended 1 (exit 0 []) ∷ [])) 0
  pub disk : IsDiskFirst apart (all_start ++ (Ended 1 (exit 0 []) ∷ Gone 2 ∷ Ended 3 (exit 0 []) ∷ [])) 0 true

-- how often starts failed, children were lost, and the disk failed, in this order
abbrev counts : ℕ → ℕ → ℕ → BuildFaultCounts
counts starts losses disks = record { children = record { starts = starts; losses = losses }; disks = disks }

-- the counts of lost children and of the disk rose, and that of failed starts too
pub record CountedFaults : Type 0 where
  pub lost : CountsBy (Some ChildLost) true (counts 0 0 0) (counts 0 1 1)
  pub of_disk : CountsBy (Some DiskFailed) true (counts 0 0 0) (counts 0 1 1)
  pub of_start : CountsBy (Some StartFailed) true (counts 0 0 0) (counts 1 1 1)
  pub of_memory : CountsBy (Some fault.NoMemory) true (counts 0 0 0) (counts 1 1 1)
  pub not_of_disk : CountsBy (Some DiskFailed) true (counts 0 0 0) (counts 1 1 1) → ⊥
  pub not_lost : CountsBy (Some ChildLost) true (counts 0 0 0) (counts 1 1 1) → ⊥
