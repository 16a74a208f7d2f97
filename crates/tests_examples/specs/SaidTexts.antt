-- The examples of "Statuses, texts and answers".
use Rattle.std.specs.Prelude.{◌≡◌, ◌∷◌, true, false, List, [], codes}
use Rattle.std.specs.List.{list_any}
use Rattle.base.specs.declared.child.Event.{Event}
use Rattle.base.specs.declared.child.Event.TheVariants.{Ended, Started}
use Rattle.outside.specs.Records.{latest}
use Rattle.run_spec.specs.ChildJournal.{Work}
use Rattle.run_spec.specs.Commits.{work_of}
use Rattle.run_spec.specs.Statuses.{NoRefusalHalts, is_refused, statuses_of, steady_statuses}
use Rattle.run_spec.specs.declared.statuses.FileStatus.TheVariants.{Compiled, Fresh, Left, Refused}
use Rattle.tests_examples.specs.Example.{Ra, a_request, accepting, b_request, exit, files, one_slot}

-- the compiler of a.vhd starts as child 7, and ends with code 1 and the output no
abbrev refused_a : List Event
refused_a = Started 7 a_request ∷ Ended 7 (exit 1 (codes "no")) ∷ []

-- a and b with a recorded, over one slot
abbrev a_recorded : Work
a_recorded = work_of (λ it. latest it (Ra ∷ [])) files 1 false

-- the statuses of files
pub record FileStatuses : Type 0 where
  pub refused : statuses_of one_slot refused_a ≡ Refused 1 (codes "no") ∷ Left ∷ []
  pub compiled : statuses_of a_recorded (Started 8 b_request ∷ Ended 8 (exit 0 (codes "2")) ∷ []) ≡ Fresh ∷ Compiled ∷ []
  pub steady : steady_statuses accepting files a_recorded.current ≡ Fresh ∷ Compiled ∷ []
  pub some_refused : list_any is_refused (statuses_of one_slot refused_a) ≡ true

-- a refusal halts a build that doesn't keep going
pub record HaltedBuilds : Type 0 where
  pub halts : NoRefusalHalts one_slot refused_a → ⊥
