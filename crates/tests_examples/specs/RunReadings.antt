-- The examples of "What a run of the program did", and of what a run says.
use Rattle.std.specs.Prelude.{◌≡◌, ℕ, true, false, [], Some, None, codes}
use Rattle.base.specs.declared.child.MaybeText.TheVariants.{Given}
use Rattle.outside.specs.FaultCounts.{NoRunCountFell, RunFaultCounts, no_faults}
use Rattle.run_spec.specs.Histories.{Order}
use Rattle.run_build.specs.Building.{has_risen}
use Rattle.vunit_top.specs.Reading.{Bad, Builds, Child, Compiler, Exports, Lists, ListsTests, Over, Stops}
use Rattle.vunit_top.specs.Said.{Causes, HasEnded, Said, Says, order_of, plan_in, report_path_of}
use Rattle.tests_examples.specs.Example.{files}
use Rattle.base_outcomes.specs.declared.outcome.Outcome.TheVariants as outcome
use Rattle.base_outcomes.specs.declared.outcome.Refusal.TheVariants as refusal
use Rattle.base_outcomes.specs.declared.outcome.Limit.TheVariants as limit
use Rattle.base_outcomes.specs.declared.outcome.OutsideObject.TheVariants as which

-- to build a.vhd and b.vhd with three slots until a refusal, over no records
abbrev order : Order
order = record { graph = files; slots = 3; keep_going = false; clean = true }

-- the order and the report that readings give
pub record OrdersOfReadings : Type 0 where
  pub builds : order_of (Builds order []) ≡ Some order
  pub lists : order_of (Lists files) ≡ None
  pub exports : order_of (Exports (codes "e.json") []) ≡ None
  pub none_of_tests : order_of (ListsTests []) ≡ None
  pub none_of_refusal : order_of (Stops refusal.NoProject) ≡ None
  pub none_of_limit : order_of (Over limit.Files 4096) ≡ None
  pub none_of_words : order_of Bad ≡ None
  pub none_of_child : order_of (Child Compiler) ≡ None
  pub report : report_path_of (Exports (codes "e.json") []) ≡ Given (codes "e.json")
  pub no_plan : plan_in (Builds order []) ≡ None
  pub risen : has_risen 0 1 ≡ true
  pub not_risen : has_risen 0 0 ≡ false

-- which answers end a run
pub record EndedRuns : Type 0 where
  pub done : HasEnded outcome.Done
  pub refused : HasEnded (outcome.Refused refusal.NoProject)
  pub out_failed : HasEnded (outcome.OutsideFault which.Out)
  pub tree_failed : HasEnded (outcome.OutsideFault which.Tree) → ⊥
  pub no_memory : HasEnded outcome.NoMemory → ⊥

-- what a run answers and prints where all files compiled
abbrev passed_said : Said
passed_said = record { outcome = outcome.Done; text = codes "Compile passed\n" }

-- this number of faults of the tree, and no fault of any other object
abbrev tree_counts : ℕ → RunFaultCounts
tree_counts count = record no_faults { tree = count }

-- how much is printed before a fault, and which risen count is the cause of an answer
pub record FaultsAnswered : Type 0 where
  pub prefix_put : Says (outcome.OutsideFault which.Out) passed_said [] (codes "Comp")
  pub nothing_put : Says (outcome.OutsideFault which.Disk) passed_said (codes "x") (codes "x")
  pub tree_rose : Causes (outcome.OutsideFault which.Tree) (tree_counts 0) (tree_counts 1)
  pub none_rose : Causes outcome.Done (tree_counts 1) (tree_counts 1)
  pub none_falls : NoRunCountFell (tree_counts 1) (tree_counts 0) → ⊥
