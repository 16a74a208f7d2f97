-- The lines of the artefacts of the generated project: none makes a case fail.
use Rattle.std.proofs.Common.{◌≡◌, ℕ, ◌^◌, ◌<◌, Bool, true, false, not, ◌||◌, cond, eqb, List, [], ◌∷◌, ◌++◌, refl, ap, ◌∙◌, arith, inl, inr}
use Rattle.std.specs.Prelude.{All, codes}
use Rattle.std.specs.Char.{is_ascii_digit}
use Rattle.std.specs.Fmt.{decimal}
use Rattle.std.specs.List.{Any, list_all, list_any}
use Rattle.std.proofs.lemmas.Bool.{and_parts}
use Rattle.std.proofs.lemmas.Bool.Decides.{nat_tests}
use Rattle.std.proofs.lemmas.List.Elements.{All-nil, All-cons, All-append, All-from_recursion, All-weaker}
use Rattle.std.proofs.lemmas.List.Splits.{slice_split_at}
use Rattle.base.specs.declared.graph.BuiltFile.{BuiltFile}
use Rattle.base.specs.Graphs.{IsBuilt}
use Rattle.testbench_runs.specs.Runs.{name_of_case}
use Rattle.child_lines.specs.Lines.{lines}
use Rattle.child_tools.specs.Benches.{is_failure}
use Rattle.generated_sources.proofs.Digits.{decimal_digits}
use Rattle.generated_children.specs.TestedBench.{AreTestable, IsBuiltBench, IsGenerated, case_run, first_case, second_case, lets_pass}
use Rattle.generated_children.specs.CompiledTexts.{bench_artefact, package_artefact, package_line_words, script_words}

-- a line begins otherwise than one that makes a case fail
other_line : (name rest : List ℕ) → is_failure name (117 ∷ rest) ≡ false
unfolding is_failure
other_line name rest = refl

pub bench_lets_pass : (name : List ℕ) → lets_pass name bench_artefact ≡ true
unfolding is_failure bench_artefact
bench_lets_pass name = refl

-- a digit ends no line
no_feed : (byte : ℕ) → is_ascii_digit byte ≡ true → eqb byte 10 ≡ false
no_feed byte is = grind (arith, nat_tests)

no_feeds : (bytes : List ℕ) → list_all is_ascii_digit bytes ≡ true → All (λ byte. eqb byte 10 ≡ false) bytes
no_feeds [] all = All-nil (λ byte. eqb byte 10 ≡ false)
no_feeds (byte ∷ bytes) all =
    let both = and_parts (is_ascii_digit byte) (list_all is_ascii_digit bytes) all in
    All-cons (λ b. eqb b 10 ≡ false) byte bytes (no_feed byte both.0) (no_feeds bytes both.1)

-- so the first line of a package's artefact is that of the package
abbrev unit_line : ℕ → List ℕ
unit_line number = codes "unit package p" ++ decimal number

no_feeds_there : (number : ℕ) → number < 2 ^ 64 → All (λ byte. eqb byte 10 ≡ false) (unit_line number)
no_feeds_there number small =
    All-append (λ byte. eqb byte 10 ≡ false) (codes "unit package p") (decimal number) (All-from_recursion (λ byte. eqb byte 10 ≡ false) (codes "unit package p") (refl, (refl, (refl, (refl, (refl, (refl, (refl, (refl, (refl, (refl, (refl, (refl, (refl, (refl, tt)))))))))))))))
    (no_feeds (decimal number) (decimal_digits number small).all)

abbrev after_unit : (noted : Bool) → List ℕ
after_unit noted = cond noted (codes "script note 1" ++ 10 ∷ []) []

lines_are : (number : ℕ) (noted : Bool) → number < 2 ^ 64 → lines (package_artefact number noted) ≡ unit_line number ∷ lines (after_unit noted)
unfolding package_line_words script_words
lines_are number noted small = slice_split_at (λ byte. eqb byte 10) (unit_line number) 10 (after_unit noted) (no_feeds_there number small) refl

no_note_fails : (name : List ℕ) (noted : Bool) → list_any (is_failure name) (lines (after_unit noted)) ≡ false
unfolding is_failure
no_note_fails name true = refl
no_note_fails name false = refl

pub package_lets_pass : (name : List ℕ) (number : ℕ) (noted : Bool) → number < 2 ^ 64 → lets_pass name (package_artefact number noted) ≡ true
package_lets_pass name number noted small =
    let whole : List ℕ = name_of_case (case_run name) name in
    ap (λ (all : List (List ℕ)). not (list_any (is_failure whole) all)) (lines_are number noted small)
    ∙ ap (λ (first : Bool). not (first || list_any (is_failure whole) (lines (after_unit noted)))) (other_line whole (codes "nit package p" ++ decimal number))
    ∙ ap not (no_note_fails whole noted)

pub generated_lets_pass : (name artefact : List ℕ) → IsGenerated artefact → lets_pass name artefact ≡ true
generated_lets_pass name artefact (inl is) = ap (lets_pass name) is ∙ bench_lets_pass name
generated_lets_pass name artefact (inr is) = ap (lets_pass name) is.3 ∙ package_lets_pass name is.0 is.1 is.2

-- so simulators can be asked over the files of the generated project
pub testable : (built : List BuiltFile) → IsBuilt built → Any IsBuiltBench built → All (λ file. IsGenerated file.artefact) built → AreTestable built
testable built fits bench all = record {
  fits = fits;
  bench = bench;
  first = All-weaker (λ file. IsGenerated file.artefact) (λ file. lets_pass first_case file.artefact ≡ true) (λ file is. generated_lets_pass first_case file.artefact is) built all;
  second = All-weaker (λ file. IsGenerated file.artefact) (λ file. lets_pass second_case file.artefact ≡ true) (λ file is. generated_lets_pass second_case file.artefact is) built all;
}
