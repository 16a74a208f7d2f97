-- What the steps of this crate answer.
use Rattle.std.specs.Prelude.{◌≡◌, Option, Some, None, Result, Ok, Err, List, ◌++◌, ℕ}
use Rattle.base_outcomes.specs.declared.bench.Bench.{Bench}
use Rattle.base_outcomes.specs.declared.bench.TestFault.{TestFault}
use Rattle.base.specs.declared.memory.OrMemory.{OrMemory}
use Rattle.base.specs.declared.memory.OrMemory.TheVariants.{NoMemory, Fault}
use Rattle.testbench_scan.specs.Benches.{bench_fault, found_bench, names_of_found}
use Rattle.testbench_scan.specs.Paths.{HoldsFullNames}
use Rattle.testbench_scan.specs.declared.names.Names.{Names}

-- the fault is the one that is said, unless memory ran out
abbrev pub IsTestFault : Option TestFault → OrMemory TestFault → Type 0
IsTestFault said NoMemory = Unit {0}
IsTestFault said (Fault fault) = said ≡ Some fault

-- the result is a right value if there is no fault, and otherwise the fault; memory may run out in both cases
abbrev pub GivesOrFails : {T : Type 0} → Option TestFault → (T → Type 0) → Result T (OrMemory TestFault) → Type 0
GivesOrFails said right (Ok value) = (said ≡ None) × right value
GivesOrFails said right (Err fault) = IsTestFault said fault

-- the bench is the one that is said, or the fault
abbrev pub GivesBench : Result Bench TestFault → Result Bench (OrMemory TestFault) → Type 0
GivesBench said (Ok bench) = said ≡ Ok bench
GivesBench said (Err NoMemory) = Unit {0}
GivesBench said (Err (Fault fault)) = said ≡ Err fault

-- what is found of an entity is added, or its fault is given
abbrev pub GivesFound : {T : Type 0} → List (List ℕ) → Result Bench TestFault → Names → List Bench → List Bench → Result T (OrMemory TestFault) → Type 0
GivesFound before found names old new result = GivesOrFails (bench_fault before found) (λ value. HoldsFullNames names (before ++ names_of_found found) × (new ≡ old ++ found_bench found)) result
