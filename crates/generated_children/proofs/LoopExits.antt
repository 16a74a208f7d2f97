-- If the compiler's answer is an artefact within the limit, the whole answer is taken.
use Rattle.std.proofs.Common.{◌≡◌, ℕ, ◌≤◌, Bool, false, List, length, take, ap, ◌∙◌, arith}
use Rattle.std.specs.Prelude.{codes}
use Rattle.std.proofs.lemmas.Bool.Decides.{nat_tests}
use Rattle.std.proofs.lemmas.List.{take_all}
use Rattle.base.specs.Jobs.{compile_input, compile_request}
use Rattle.base.specs.declared.child.Exit.{Exit}
use Rattle.base.specs.declared.child.MaybeText.TheVariants.{Nothing}
use Rattle.base.specs.declared.child.Request.{Request}
use Rattle.base.specs.declared.graph.BuiltFile.{BuiltFile}
use Rattle.base.specs.declared.graph.Entry.{Entry}
use Rattle.base.specs.declared.limits.TheConstants.{ARTEFACT_LIMIT}
use Rattle.vhdl_spec.specs.Scans.{Finding, IsScanner}
use Rattle.system_children.specs.Codes.{cut_code}
use Rattle.child_lines.specs.Ends.{ends_with}
use Rattle.child_tools.specs.Answers.{analysis}
use Rattle.memory_children.proofs.Scanner.{is_scanner, scanner}
use Rattle.memory_children.specs.Answers.{child_end, is_cut, loop_answer, second_word, taken_exit}
use Rattle.memory_children.specs.OneAnswer.{IsLoopAnswer}

not_cut : (output : List ℕ) → length output ≤ ARTEFACT_LIMIT → is_cut output ≡ false
not_cut output small = grind (arith, nat_tests)

whole_exit : (output : List ℕ) → length output ≤ ARTEFACT_LIMIT → taken_exit Nothing (ends_with 0 output) ≡ ends_with 0 output
unfolding taken_exit
whole_exit output small =
    ap (λ (more : Bool). record { code = cut_code 0 more Nothing; output = take ARTEFACT_LIMIT output; results = Nothing }) (not_cut output small)
    ∙ ap (ends_with 0) (take_all ARTEFACT_LIMIT output small)

compiler_end : (scan : List ℕ → Finding) (word input : List ℕ) → word ≡ codes "child-analyse" → child_end scan word input ≡ analysis scan input
unfolding child_end
compiler_end scan word input is = ap (λ (name : List ℕ). child_end scan name input) is

-- what is answered to a request for a file
pub compiler_exit : (scan : List ℕ → Finding) (entry : Entry) (deps : List BuiltFile) (artefact : List ℕ) → second_word entry.command ≡ codes "child-analyse" → length artefact ≤ ARTEFACT_LIMIT → analysis scan (compile_input entry.name entry.text deps) ≡ ends_with 0 artefact → loop_answer scan (compile_request entry deps) ≡ ends_with 0 artefact
compiler_exit scan entry deps artefact compiler small is =
    ap (taken_exit Nothing) (compiler_end scan (second_word entry.command) (compile_input entry.name entry.text deps) compiler ∙ is)
    ∙ whole_exit artefact small

-- what is answered by every scanner is the answer
pub answer_of : (answer : Request → Exit) (request : Request) (end : Exit) → IsLoopAnswer answer → ((scan : List ℕ → Finding) → IsScanner scan → loop_answer scan request ≡ end) → answer request ≡ end
answer_of answer request end is by_scan = ap (λ (any : Request → Exit). any request) (is.0 scanner is_scanner) ∙ by_scan scanner is_scanner
