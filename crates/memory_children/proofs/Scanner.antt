-- The answer of the children, by a scanner that is made of a finding of each text.
use Rattle.std.proofs.Common.{◌≡◌, ℕ, List, ap, sym, subst, ◌∙◌}
use Rattle.std.specs.Prelude.{Option, Some, Result, Ok, Err, IfOk, IfSome}
use Rattle.std.proofs.Math.Path.{fun_ext}
use Rattle.base.specs.declared.child.Request.{Request}
use Rattle.base.specs.declared.child.Exit.{Exit}
use Rattle.base.specs.declared.memory.NoMemory.{NoMemory}
use Rattle.vhdl_spec.specs.Scans.{Finding, IsScanner}
use Rattle.vhdl_spec.proofs.OneFinding.{one_finding, some_finding}
use Rattle.memory_children.specs.Answers.{loop_answer}
use Rattle.memory_children.specs.OneAnswer.{HasLoopAnswer, answer_in, one_answer}

pub scanner : List ℕ → Finding
scanner text = (some_finding text).0

pub is_scanner : IsScanner scanner
unfolding scanner
is_scanner text = (some_finding text).1

-- all scanners are the same function
same_scanner : (scan : List ℕ → Finding) → IsScanner scan → scanner ≡ scan
same_scanner scan is = fun_ext (λ text. one_finding text (scanner text) (scan text) (is_scanner text) (is text))

pub answer : HasLoopAnswer
answer = (loop_answer scanner, ((λ scan is. ap (λ (s : List ℕ → Finding). loop_answer s) (same_scanner scan is)), ∣ (scanner, is_scanner) ∣₁))

-- two such answers are the same function
pub same_known : (known other : HasLoopAnswer) → answer_in known ≡ answer_in other
same_known known other = ap answer_in (one_answer known other)

-- what is the answer to a request by every scanner is the known one
pub answers_found : (known : HasLoopAnswer) (result : Result (Exit × Exit) NoMemory) (found : Option Request) (request : Request) → found ≡ Some request → ((scan : List ℕ → Finding) → IsScanner scan → IfOk result (λ exits. exits.0 ≡ loop_answer scan request)) → IfOk result (λ exits. IfSome found (λ r. exits.0 ≡ answer_in known r))
unfolding answer_in
answers_found known (Ok exits) found request is h =
    subst (λ (f : Option Request). IfSome f (λ r. exits.0 ≡ known.0 r)) (sym is) (h scanner is_scanner ∙ ap (λ (a : Request → Exit). a request) (sym (known.1.0 scanner is_scanner)))
answers_found known (Err fault) found request is h = tt
