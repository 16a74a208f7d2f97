-- The path of the library, a dot, the bench and a dot.
use Rattle.std.proofs.Common.{◌≡◌, ◌∙◌, ◌++◌, ◌∷◌, [], ℕ, List, codes, append_assoc, append-nil, reverse, ap, refl, sym, subst}
use Rattle.testbench_scan.specs.Paths.{LeadsBack}
use Rattle.std.proofs.lemmas.List.{reverse-append}
use Rattle.base_outcomes.specs.declared.bench.Bench.{Bench}
use Rattle.testbench_select.specs.Selection.{name_start}
use Rattle.testbench_scan.proofs.Leading.{grown_twice}
use Rattle.testbench_scan.proofs.names.start_of.Goals as goal

back_is : (library name : List ℕ) → reverse (library ++ (codes "." ++ (name ++ codes "."))) ≡ 46 ∷ (reverse name ++ (46 ∷ (reverse library ++ [])))
back_is library name =
    reverse-append library (46 ∷ (name ++ 46 ∷ []))
    ∙ ap (λ (x : List ℕ). x ++ reverse library) (reverse-append (46 ∷ []) (name ++ 46 ∷ []))
    ∙ ap (λ (x : List ℕ). (x ++ 46 ∷ []) ++ reverse library) (reverse-append name (46 ∷ []))
    ∙ ap (λ (x : List ℕ). 46 ∷ x) (append_assoc (reverse name) (46 ∷ []) (reverse library))
    ∙ ap (λ (x : List ℕ). 46 ∷ (reverse name ++ (46 ∷ x))) (sym (append-nil (reverse library)))

pub returns-clause-leads : goal.returns-clause-leads
returns-clause-leads c =
    let bench : Bench = c.args.bench.now in
    let library : List ℕ = c.bytes.result.now in
    let name : List ℕ = c.bytes-2.result.now in
    let same : library ++ (codes "." ++ (name ++ codes ".")) ≡ name_start bench =
    ap (λ (l : List ℕ). l ++ (codes "." ++ (name ++ codes "."))) c.bytes.ensures ∙ ap (λ (n : List ℕ). bench.library ++ (codes "." ++ (n ++ codes "."))) c.bytes-2.ensures in
    subst (LeadsBack c.step-2.new.steps.keys c.in_ok-end.end) (sym (back_is library name) ∙ ap reverse same)
    (c.in_ok-end.ensures.leads (reverse name ++ (46 ∷ (reverse library ++ []))) (c.in_ok-name.ensures.leads (46 ∷ (reverse library ++ [])) (c.in_ok-dot.ensures.leads (reverse library ++ []) (c.in_ok-library.ensures.leads [] refl))))

pub returns-clause-grown : goal.returns-clause-grown
returns-clause-grown c =
    grown_twice c.args.steps.now.keys c.walk.new.steps.keys c.step-2.new.steps.keys c.in_ok-library.ensures.grown
    (grown_twice c.walk.new.steps.keys c.step.new.steps.keys c.step-2.new.steps.keys c.in_ok-dot.ensures.grown
    (grown_twice c.step.new.steps.keys c.walk-2.new.steps.keys c.step-2.new.steps.keys c.in_ok-name.ensures.grown c.in_ok-end.ensures.grown))
