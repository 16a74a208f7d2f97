-- Pairs that are put one after the other, with a comma before each but the first, are the configuration.
use Rattle.std.proofs.Common.{◌≡◌, ℕ, List, [], ◌∷◌, ◌++◌, refl, sym, ap, ◌∙◌, append_assoc}
use Rattle.std.specs.Prelude.{codes}
use Rattle.std.specs.List.{join_by}
use Rattle.std.proofs.lemmas.List.{append-nil}
use Rattle.testbench_runs.specs.declared.runs.TestRun.{TestRun}
use Rattle.testbench_runs.specs.Runs.{output_path}
use Rattle.testbench_runs.specs.Configuration.{configuration, enabled_cases, folder_of, pair, pairs_of}

joined : (a b c d e : List ℕ) → (((a ++ (44 ∷ b)) ++ (44 ∷ c)) ++ (44 ∷ d)) ++ (44 ∷ e) ≡ join_by (λ x. x) (codes ",") (a ∷ b ∷ c ∷ d ∷ e ∷ [])
joined a b c d e =
    append_assoc ((a ++ (44 ∷ b)) ++ (44 ∷ c)) (44 ∷ d) (44 ∷ e)
    ∙ append_assoc (a ++ (44 ∷ b)) (44 ∷ c) ((44 ∷ d) ++ (44 ∷ e))
    ∙ append_assoc a (44 ∷ b) ((44 ∷ c) ++ ((44 ∷ d) ++ (44 ∷ e)))
    ∙ ap (λ (x : List ℕ). a ++ ((44 ∷ b) ++ ((44 ∷ c) ++ ((44 ∷ d) ++ x)))) (sym (append-nil (44 ∷ e)))

-- one pair more
next : {new old value done : List ℕ} (key want : List ℕ) → new ≡ old ++ (44 ∷ pair key value) → old ≡ done → value ≡ want → new ≡ done ++ (44 ∷ pair key want)
next {new} {old} {value} {done} key want put so_far same =
    put ∙ ap (λ (o : List ℕ). o ++ (44 ∷ pair key value)) so_far ∙ ap (λ (v : List ℕ). done ++ (44 ∷ pair key v)) same

pub all_pairs : {none first second third fourth fifth text cases folder path : List ℕ} (run : TestRun) → none ≡ [] → first ≡ none ++ pair (codes "active python runner") (codes "true")
    → second ≡ first ++ (44 ∷ pair (codes "enabled_test_cases") cases) → third ≡ second ++ (44 ∷ pair (codes "output path") folder) → fourth ≡ third ++ (44 ∷ pair (codes "tb path") path)
    → fifth ≡ fourth ++ (44 ∷ pair (codes "use_color") (codes "false")) → text ≡ fifth → cases ≡ enabled_cases run.cases → folder ≡ output_path run → path ≡ folder_of run.path → text ≡ configuration run
unfolding configuration pairs_of
all_pairs run e0 e1 e2 e3 e4 e5 is cases folder path =
    let p1 : List ℕ = pair (codes "active python runner") (codes "true") in
    let one = e1 ∙ ap (λ (o : List ℕ). o ++ p1) e0 in
    let two = next (codes "enabled_test_cases") (enabled_cases run.cases) e2 one cases in
    let three = next (codes "output path") (output_path run) e3 two folder in
    let four = next (codes "tb path") (folder_of run.path) e4 three path in
    let five = next (codes "use_color") (codes "false") e5 four refl in
    is ∙ five
    ∙ joined p1 (pair (codes "enabled_test_cases") (enabled_cases run.cases)) (pair (codes "output path") (output_path run)) (pair (codes "tb path") (folder_of run.path)) (pair (codes "use_color") (codes "false"))
