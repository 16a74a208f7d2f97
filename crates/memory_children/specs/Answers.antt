-- What children answer that are the program itself, as an adapter takes it.
use Rattle.std.specs.Prelude.{ℕ, Bool, nat_le, nat_lt, if◌then◌else◌, List, [], length, take, slice_get, codes, unwrap_or}
use Rattle.std.specs.Str.{bytes_eq}
use Rattle.base.specs.declared.child.Request.{Request}
use Rattle.base.specs.declared.child.Exit.{Exit}
use Rattle.base.specs.declared.child.MaybeText.{MaybeText}
use Rattle.base.specs.declared.child.MaybeText.TheVariants.{Nothing, Given}
use Rattle.base.specs.declared.limits.TheConstants.{ARTEFACT_LIMIT, RESULTS_LIMIT}
use Rattle.vhdl_spec.specs.Scans.{Finding}
use Rattle.system_children.specs.Codes.{cut_code}
use Rattle.child_lines.specs.Ends.{ends_with}
use Rattle.child_tools.specs.Answers.{analysis}
use Rattle.child_tools.specs.Benches.{simulation}

-- ## What a child says

-- the second word of a command, or no bytes if it has fewer than two words
abbrev pub second_word : List (List ℕ) → List ℕ
second_word words = unwrap_or (slice_get words 1) []

-- how a child of this second word ends: as the compiler or as the simulator that is part of the program, or as a command
-- that isn't there
unfoldable pub child_end : (List ℕ → Finding) → (word input : List ℕ) → Exit
child_end scan word input = if bytes_eq word (codes "child-analyse") then analysis scan input else if bytes_eq word (codes "child-bench") then simulation input else ends_with 127 []

-- ## What is taken of it

-- an output has more bytes than are kept
abbrev pub is_cut : List ℕ → Bool
is_cut output = nat_lt ARTEFACT_LIMIT (length output)

-- a text that isn't too long for results
abbrev pub short_text : List ℕ → MaybeText
short_text text = if nat_le (length text) RESULTS_LIMIT then Given text else Nothing

-- the results that are taken, by where they are to be left
abbrev pub taken_results : (path left : MaybeText) → MaybeText
taken_results Nothing left = Nothing
taken_results (Given path) Nothing = Nothing
taken_results (Given path) (Given text) = short_text text

-- what is taken of an end, by where results are to be left
unfoldable pub taken_exit : MaybeText → Exit → Exit
taken_exit path end = record { code = cut_code end.code (is_cut end.output) path; output = take ARTEFACT_LIMIT end.output; results = taken_results path end.results }

-- ## The answer

-- the exit of a child that was started with a request, by what a scanner finds in texts
abbrev pub loop_answer : (List ℕ → Finding) → Request → Exit
loop_answer scan request = taken_exit request.results (child_end scan (second_word request.command) request.input)
