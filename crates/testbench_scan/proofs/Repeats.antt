-- Full names that came before, and faults that are given.
use Rattle.std.proofs.Common.{◌≡◌, ℕ, Bool, true, false, cond, Option, Some, None, List, [], ◌∷◌, ◌++◌, append_assoc, append-nil, refl, sym, ◌∙◌, ap}
use Rattle.std.specs.Prelude.{Result, Ok, Err, if◌then◌else◌}
use Rattle.std.specs.Option.{option_map}
use Rattle.base_outcomes.specs.declared.bench.TestFault.{TestFault}
use Rattle.base_outcomes.specs.declared.bench.TestFault.TheVariants.{DuplicateTest}
use Rattle.base.specs.declared.memory.OrMemory.{OrMemory}
use Rattle.base.specs.declared.memory.OrMemory.TheVariants.{NoMemory, Fault}
use Rattle.vhdl_spec.specs.Dependencies.{is_one_of}
use Rattle.testbench_scan.specs.Benches.{first_repeated}
use Rattle.testbench_scan.specs.Results.{GivesOrFails, IsTestFault}

-- a fault that is said here is said there
pub fault_on : (said other : Option TestFault) (fault : OrMemory TestFault) → ((given : TestFault) → said ≡ Some given → other ≡ Some given) → IsTestFault said fault → IsTestFault other fault
fault_on said other NoMemory on is = tt
fault_on said other (Fault fault) on is = on fault is

-- the outcome for an equal fault, with a property that follows from the first one
pub gives_on : {T : Type 0} (said other : Option TestFault) (P Q : T → Type 0) (result : Result T (OrMemory TestFault)) → other ≡ said → ((value : T) → P value → Q value) → GivesOrFails said P result → GivesOrFails other Q result
gives_on said other P Q (Ok value) same on is = (same ∙ is.0, on value (is.1))
gives_on said other P Q (Err fault) same on is = fault_on said other fault (λ given e. same ∙ e) is

abbrev pub repeated_if : Bool → List ℕ → Option TestFault
repeated_if is name = if is then Some (DuplicateTest name) else None

no_repeat : (is : Bool) (name : List ℕ) → repeated_if is name ≡ None → is ≡ false
no_repeat true name told = let no : ⊥ = cc in absurd no
no_repeat false name told = refl

-- none of the names so far came before
abbrev pub NoneRepeated : List (List ℕ) → List (List ℕ) → Type 0
NoneRepeated before names = (rest : List (List ℕ)) → first_repeated before (names ++ rest) ≡ first_repeated (before ++ names) rest

pub none_at_first : (before : List (List ℕ)) → NoneRepeated before []
none_at_first before rest = ap (λ (all : List (List ℕ)). first_repeated all rest) (sym (append-nil before))

pub none_more : (before names : List (List ℕ)) (name : List ℕ) → NoneRepeated before names → repeated_if (is_one_of (before ++ names) name) name ≡ None → NoneRepeated before (names ++ name ∷ [])
none_more before names name none told rest =
    let new : is_one_of (before ++ names) name ≡ false = no_repeat (is_one_of (before ++ names) name) name told in
    ap (first_repeated before) (append_assoc names (name ∷ []) rest) ∙ none (name ∷ rest)
    ∙ ap (λ (b : Bool). cond b (Some name) (first_repeated ((before ++ names) ++ name ∷ []) rest)) new
    ∙ ap (λ (all : List (List ℕ)). first_repeated all rest) (append_assoc before names (name ∷ []))

-- the name here came before
pub fault_here : (before names after all : List (List ℕ)) (name : List ℕ) (fault : OrMemory TestFault) → NoneRepeated before names → all ≡ names ++ name ∷ after → IsTestFault (repeated_if (is_one_of (before ++ names) name) name) fault → IsTestFault (option_map DuplicateTest (first_repeated before all)) fault
fault_here before names after all name fault none is told =
    fault_on (repeated_if (is_one_of (before ++ names) name) name) (option_map DuplicateTest (first_repeated before all)) fault
    (λ given said. ap (λ (some : List (List ℕ)). option_map DuplicateTest (first_repeated before some)) is ∙ ap (option_map DuplicateTest) (none (name ∷ after)) ∙ by_test (is_one_of (before ++ names) name) given said) told where
      by_test : (b : Bool) (given : TestFault) → repeated_if b name ≡ Some given → option_map DuplicateTest (cond b (Some name) (first_repeated ((before ++ names) ++ name ∷ []) after)) ≡ Some given
      by_test true given said = said
      by_test false given said = let no : ⊥ = cc in absurd no
