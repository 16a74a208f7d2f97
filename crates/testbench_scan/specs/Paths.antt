-- Names as paths of bytes: what names begin with alike is one path.
use Rattle.std.specs.Prelude.{◌≡◌, ◌≢◌, ℕ, ◌+◌, List, [], ◌∷◌, ◌++◌, Some, reverse, slice_get}
use Rattle.std.specs.List.{AllPairs}
use Rattle.testbench_scan.specs.declared.names.Names.{Names}
use Rattle.testbench_scan.specs.declared.steps.Step.{Step}

-- the path of these bytes, the last first, ends at an index
abbrev pub LeadsBack : List Step → ℕ → List ℕ → Type 0
LeadsBack steps name_index [] = name_index ≡ 0
LeadsBack steps name_index (byte ∷ before) = (number : ℕ) × (from : ℕ) × (name_index ≡ number + 1) × (slice_get steps number ≡ Some (record { from = from; byte = byte })) × LeadsBack steps from before

-- the path of a name ends at an index
abbrev pub Leads : List Step → ℕ → List ℕ → Type 0
Leads steps name_index name = LeadsBack steps name_index (reverse name)

-- steps were added
abbrev pub HasGrown : List Step → List Step → Type 0
HasGrown old new = (more : List Step) × (new ≡ old ++ more)

-- no two steps are equal
abbrev pub AreOnce : List Step → Type 0
AreOnce steps = AllPairs (λ a b. a ≢ b) steps

-- the paths of names end at indices, in order
abbrev pub AllLead : List Step → List ℕ → List (List ℕ) → Type 0
AllLead steps [] [] = Unit {0}
AllLead steps (name_index ∷ indices) (name ∷ names) = Leads steps name_index name × AllLead steps indices names
AllLead steps [] (name ∷ names) = ⊥
AllLead steps (name_index ∷ indices) [] = ⊥

-- the full names so far
abbrev pub HoldsFullNames : Names → List (List ℕ) → Type 0
HoldsFullNames names before = AllLead names.steps.keys names.ends.keys before
