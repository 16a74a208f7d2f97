-- Patterns taken apart for many names.
use Rattle.std.specs.Prelude.{◌≡◌, ℕ, ◌<◌, ◌≤◌, Bool, true, ◌||◌, List, [], length, slice_index_or, All, Vec}
use Rattle.std.specs.Global.{Global}
use Rattle.std.specs.List.{list_any}
use Rattle.std.specs.Str.{bytes_eq}
use Rattle.indexmap.specs.IndexSet.{IndexSet}
use Rattle.testbench_select.specs.declared.pattern.PatternPart.{PatternPart}
use Rattle.testbench_select.specs.declared.choosing.Choice.{Choice}
use Rattle.testbench_select.specs.Segments.{is_match}
use Rattle.testbench_select.specs.Selection.{is_selected}

-- a name is one of the literal names in a set
abbrev pub is_asked_for : {S : Type 0} → IndexSet (Vec ℕ Global) S → List ℕ → Bool
is_asked_for names name = list_any (λ key. bytes_eq name key.items) names.keys

-- the pattern of a number matches a name
abbrev pub matches_at : List (List PatternPart) → List ℕ → ℕ → Bool
matches_at patterns name number = is_match (slice_index_or patterns number []) name

-- one of the patterns with these numbers matches a name
abbrev pub some_matches : List (List PatternPart) → List ℕ → List ℕ → Bool
some_matches patterns numbers name = list_any (matches_at patterns name) numbers

-- a name is chosen: every name is, or it is one of the literal names, or one of the other patterns matches it
abbrev pub is_chosen : List (List PatternPart) → Choice → List ℕ → Bool
is_chosen patterns choice name = choice.all || (is_asked_for choice.plain name || some_matches patterns choice.others.items name)

-- each number is that of a pattern
abbrev pub AreNumbersOf : List (List PatternPart) → List ℕ → Type 0
AreNumbersOf patterns numbers = All (λ number. number < length patterns) numbers

-- no literal name in a set has more bytes than `longest`
abbrev pub AreUpTo : {S : Type 0} → IndexSet (Vec ℕ Global) S → ℕ → Type 0
AreUpTo names longest = (name : List ℕ) → is_asked_for names name ≡ true → length name ≤ longest

-- no literal name of a choice has more bytes than its `longest`
abbrev pub IsBounded : Choice → Type 0
IsBounded choice = AreUpTo choice.plain choice.longest

-- what some patterns match is chosen, and nothing else
pub record Chooses (patterns some : List (List PatternPart)) (choice : Choice) : Type 0 where
  pub exact : (name : List ℕ) → is_chosen patterns choice name ≡ is_selected some name
  pub numbers : AreNumbersOf patterns choice.others.items
