-- The status that the program ends with.
use Rattle.std.specs.Prelude.{ℕ, min}
use Rattle.base_outcomes.specs.declared.outcome.Outcome.{Outcome}
use Rattle.base_outcomes.specs.declared.outcome.Outcome.TheVariants.{Done, TestsFailed, Refused, BadWords, OutsideFault, NoMemory, OverLimit, Child}

-- The exit status: 0 done, 1 a refusal (the compiler's too) or failed tests, 2 an invalid command line, 3 a fault outside
-- the program, 4 out of memory, 5 over a limit. A child ends with its own code, at most 255.
abbrev pub exit_status : Outcome → ℕ
exit_status Done = 0
exit_status TestsFailed = 1
exit_status (Refused refusal) = 1
exit_status BadWords = 2
exit_status (OutsideFault which) = 3
exit_status NoMemory = 4
exit_status (OverLimit limit) = 5
exit_status (Child code) = min code 255
