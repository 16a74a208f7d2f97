-- The verdicts as JUnit XML. Each line ends with a line feed.
use Rattle.std.specs.Prelude.{ℕ, nat_lt, Bool, ◌&&◌, ◌||◌, ◌==◌, if◌then◌else◌, List, [], ◌∷◌, ◌++◌, codes, zip}
use Rattle.std.specs.Char.{encode_utf8}
use Rattle.std.specs.Fmt.{decimal}
use Rattle.std.specs.List.{flat_map}
use Rattle.testbench_runs.specs.declared.ends.RunEnd.{RunEnd}
use Rattle.testbench_runs.specs.declared.ends.Verdict.{Verdict}
use Rattle.testbench_runs.specs.declared.ends.Verdict.TheVariants.{Passed, Failed, Skipped}
use Rattle.testbench_runs.specs.declared.runs.TestRun.{TestRun}
use Rattle.testbench_runs.specs.Runs.{counted_cases}
use Rattle.report.specs.declared.tally.Tally.{Tally}
use Rattle.report.specs.Counts.{all_verdicts, tally}

-- ## Values

-- a byte of a value, where it stands for itself or is one of the five that have a name
unfoldable pub xml_byte : ℕ → List ℕ
xml_byte byte =
    if byte == 38 then codes "&amp;"
    else (if byte == 60 then codes "&lt;" else (if byte == 62 then codes "&gt;" else (if byte == 34 then codes "&quot;" else (if byte == 39 then codes "&apos;" else byte ∷ []))))

-- A byte ends one of the two characters that XML has not, U+FFFE and U+FFFF, which are 239, 191, 190 and 239, 191, 191 as
-- bytes. It is given with the two bytes before it.
abbrev pub ends_no_character : ℕ → ℕ → ℕ → Bool
ends_no_character first second byte = first == 239 && (second == 191 && (byte == 190 || byte == 191))

-- A byte of a value, after the two bytes before it. With 189 as their last byte these two characters are U+FFFD.
unfoldable pub value_byte : ℕ → ℕ → ℕ → List ℕ
value_byte first second byte = if ends_no_character first second byte then 189 ∷ [] else xml_byte byte

-- the bytes of a value that come after two bytes
unfoldable pub value_after : ℕ → ℕ → List ℕ → List ℕ
value_after first second [] = []
value_after first second (byte ∷ bytes) = value_byte first second byte ++ value_after second byte bytes

-- a name as the value of an attribute
abbrev pub value : List ℕ → List ℕ
value name = value_after 0 0 name

-- What a character is in a value: U+FFFD where it is one of these two, one of the five by its name, and else itself.
unfoldable pub xml_character : ℕ → List ℕ
xml_character character = if character == 65534 || character == 65535 then encode_utf8 65533 else (if nat_lt character 128 then xml_byte character else encode_utf8 character)

-- ## Lines

-- the first line: XML 1.0 in UTF-8
unfoldable pub xml_line : List ℕ
xml_line = codes "<?xml version=\"1.0\" encoding=\"utf-8\"?>\n"

-- the line that begins all cases
unfoldable pub suite_line : Tally → List ℕ
suite_line counts =
    codes "<testsuite name=\"testsuite\" tests=\"" ++ (decimal counts.total
    ++ (codes "\" failures=\"" ++ (decimal counts.failed
    ++ (codes "\" skipped=\"" ++ (decimal counts.skipped
    ++ codes "\" errors=\"0\">\n")))))

-- the last line, which ends all cases
unfoldable pub last_line : List ℕ
last_line = codes "</testsuite>\n"

-- the class of the cases of a run
unfoldable pub class_of : TestRun → List ℕ
class_of run = value run.library ++ (codes "." ++ value run.bench)

-- a case, by its run and its name, up to what says its verdict
unfoldable pub case_start : TestRun → List ℕ → List ℕ
case_start run name =
    codes "  <testcase classname=\"" ++ (class_of run
    ++ (codes "\" name=\"" ++ (value name ++ codes "\"")))

-- a case from its verdict on
unfoldable pub case_end : Verdict → List ℕ
case_end Passed = codes "/>\n"
case_end Failed = codes ">\n    <failure message=\"Failed\"/>\n  </testcase>\n"
case_end Skipped = codes ">\n    <skipped/>\n  </testcase>\n"

-- a case with its verdict
abbrev pub case_element : TestRun → List ℕ → Verdict → List ℕ
case_element run name verdict = case_start run name ++ case_end verdict

-- cases of a run that have a verdict, in order
abbrev pub case_elements : TestRun → List (List ℕ) → List Verdict → List ℕ
case_elements run names verdicts = flat_map (λ both. case_element run both.0 both.1) (zip names verdicts)

-- the cases of a run
abbrev pub run_elements : TestRun → RunEnd → List ℕ
run_elements run end = case_elements run (counted_cases run) end.verdicts

-- the cases of runs that have an end, in order
abbrev pub all_elements : List TestRun → List RunEnd → List ℕ
all_elements runs ends = flat_map (λ both. run_elements both.0 both.1) (zip runs ends)

-- the ends of runs as JUnit XML
abbrev pub junit : List TestRun → List RunEnd → List ℕ
junit runs ends = xml_line ++ (suite_line (tally (all_verdicts ends)) ++ (all_elements runs ends ++ last_line))
