-- What lines say of cases, line by line.
use Rattle.std.specs.Prelude.{◌≡◌, ℕ, Bool, false, not, ◌||◌, if◌then◌else◌, List, [], Option, None}
use Rattle.std.specs.List.{last_or}
use Rattle.std.specs.Option.{option_map_or}
use Rattle.std.specs.Str.{bytes_eq}
use Rattle.testbench_runs.specs.declared.ends.Verdict.{Verdict}
use Rattle.testbench_runs.specs.declared.ends.Verdict.TheVariants.{Passed, Skipped}
use Rattle.testbench_runs.specs.Verdicts.{case_starts, has_case, passed_if, says_done}

-- what lines say: which cases were started, in no particular order; which was the last; and whether all is done
pub record Sayings : Type 0 where
  pub starts : List (List ℕ)
  pub last : Option (List ℕ)
  pub is_done : Bool

-- what no line says
abbrev pub no_sayings : Sayings
no_sayings = record { starts = []; last = None; is_done = false }

-- the later is what the earlier says, and then these lines
pub record Adds (cases lines : List (List ℕ)) (earlier later : Sayings) : Type 0 where
  pub starts : (name : List ℕ) → has_case later.starts name ≡ (has_case earlier.starts name || has_case (case_starts cases lines) name)
  pub last : later.last ≡ last_or earlier.last (case_starts cases lines)
  pub is_done : later.is_done ≡ (earlier.is_done || says_done lines)

-- this case is the last that was started; false where none was
abbrev pub is_last : Option (List ℕ) → List ℕ → Bool
is_last last name = option_map_or (λ other. bytes_eq other name) last false

-- the verdict of a case by what the lines say of it
abbrev pub verdict_by : Sayings → Bool → List ℕ → Verdict
verdict_by said ends_well name = if not (has_case said.starts name) then Skipped else (if is_last said.last name then passed_if ends_well else Passed)
