use Rattle.std.proofs.Common.{◌≡◌, ◌∙◌, List, [], ◌∷◌, ◌++◌, ℕ, sym, ap, subst}
use Rattle.std.proofs.lemmas.Result.{err_from_is_err_and}
use Rattle.std.specs.Prelude.{codes}
use Rattle.base.specs.declared.limits.TheConstants.{TEXT_LIMIT}
use Rattle.outside.specs.declared.tree.ReadEnd.{ReadEnd}
use Rattle.outside.specs.declared.tree.ReadEnd.TheVariants.{Got, Absent}
use Rattle.outside.specs.Trees.{read_end}
use Rattle.project_reading.specs.Asked.{other_paths, AsksFirst, AsksInOrder}
use Rattle.project_reading.proofs.Asks.{first_of_more, then_in_order, asks_no_more}
use Rattle.project_reading.proofs.projects.find_project.Goals as goal

pub returns-in_err-read_file-clause-asked : goal.returns-in_err-read_file-clause-asked
returns-in_err-read_file-clause-asked g c =
    let asked = g.T.Tree.asked in
    let first : AsksFirst (codes "vunit.toml" ∷ []) (asked c.args.tree.now) (asked c.read_file.new.tree) =
    subst (λ (path : List ℕ). AsksFirst (path ∷ []) (asked c.args.tree.now) (asked c.read_file.new.tree)) c.in_ok-path.ensures c.in_err-read_file.ensures.asked in
    let p = err_from_is_err_and c.from_residual-in_err-read_file.result c.from_residual-in_err-read_file.ensures.1 in
    rw p.1 (λ tells. first_of_more (codes "vunit.toml" ∷ []) (other_paths (read_end (g.T.Tree.file c.args.tree.now (codes "vunit.toml")) TEXT_LIMIT)) _ _ first)

pub returns-in-Absent-clause-asked : goal.returns-in-Absent-clause-asked
returns-in-Absent-clause-asked g c = λ tells.
    let file = g.T.Tree.file c.args.tree.now in
    let asked = g.T.Tree.asked in
    let absent : read_end (file (codes "vunit.toml")) TEXT_LIMIT ≡ Absent = ap (λ (path : List ℕ). read_end (file path) TEXT_LIMIT) (sym c.in_ok-path.ensures) ∙ sym (c.in_ok-read_file.ensures.bytes tells) ∙ c.in-Absent.is in
    let before : asked c.read_file.new.tree ≡ asked c.args.tree.now ++ codes "vunit.toml" ∷ [] = c.in_ok-read_file.ensures.asked ∙ ap (λ (path : List ℕ). asked c.args.tree.now ++ path ∷ []) c.in_ok-path.ensures in
    subst (λ (end : ReadEnd). AsksInOrder c.read_csv.result (codes "vunit.toml" ∷ other_paths end) (asked c.args.tree.now) (asked c.read_csv.new.tree)) (sym absent)
    (then_in_order c.read_csv.result (codes "vunit.toml" ∷ []) (codes "vunit.csv" ∷ []) _ _ _ before c.read_csv.ensures.asked)

pub returns-clause-asked : goal.returns-clause-asked
returns-clause-asked g c = λ tells.
    let file = g.T.Tree.file c.args.tree.now in
    let asked = g.T.Tree.asked in
    let got : read_end (file (codes "vunit.toml")) TEXT_LIMIT ≡ Got c.in-Got.bytes = ap (λ (path : List ℕ). read_end (file path) TEXT_LIMIT) (sym c.in_ok-path.ensures) ∙ sym (c.in_ok-read_file.ensures.bytes tells) ∙ c.in-Got.is in
    let before : asked c.read_file.new.tree ≡ asked c.args.tree.now ++ codes "vunit.toml" ∷ [] = c.in_ok-read_file.ensures.asked ∙ ap (λ (path : List ℕ). asked c.args.tree.now ++ path ∷ []) c.in_ok-path.ensures in
    subst (λ (end : ReadEnd). AsksInOrder c.read_toml.result (codes "vunit.toml" ∷ other_paths end) (asked c.args.tree.now) (asked c.read_toml.new.tree)) (sym got)
    (then_in_order c.read_toml.result (codes "vunit.toml" ∷ []) [] _ _ _ before (asks_no_more c.read_toml.result _ _ c.read_toml.ensures.asked))
