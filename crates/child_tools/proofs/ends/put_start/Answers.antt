-- The parts of the line, one after the other.
use Rattle.std.proofs.Common.{◌≡◌, ◌++◌, ◌∷◌, ◌∙◌, [], ℕ, List, ap, append_assoc, codes}
use Rattle.child_tools.specs.Benches.{start_line}
use Rattle.child_tools.proofs.ends.put_start.Goals as goal

parts : (a b c d : List ℕ) → ((a ++ b) ++ c) ++ d ≡ a ++ (b ++ (c ++ d))
parts a b c d = simp append_assoc

pub returns : goal.returns
unfolding start_line
returns c =
    c.in_ok-put-3.ensures
    ∙ (ap (λ (some : List ℕ). some ++ 10 ∷ []) (c.in_ok-put-2.ensures ∙ ap (λ (some : List ℕ). some ++ c.args.name.now) c.in_ok-put.ensures)
    ∙ parts c.args.results.now.items (codes "test_start:") c.args.name.now (10 ∷ []))
