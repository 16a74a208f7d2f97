-- The names stand one after another.
use Rattle.std.proofs.Common.{◌∙◌, ◌++◌, List, ℕ, ap, refl}
use Rattle.vhdl_graph.proofs.JoinedLemmas.{joined_is}
use Rattle.vhdl_graph.proofs.key.reuse_key.Goals as goal

pub returns : goal.returns
returns c =
    joined_is _ c.args.library.now c.args.entity.now c.args.name.now c.extend_from_slice-3.new.self.items refl refl
    (c.in_ok-extend_from_slice-3.ensures.items ∙ ap (λ (some : List ℕ). some ++ c.args.name.now) (c.in_ok-extend_from_slice-2.ensures.items ∙ ap (λ (some : List ℕ). some ++ c.args.entity.now) (c.in_ok-extend_from_slice.ensures.items ∙ ap (λ (some : List ℕ). some ++ c.args.library.now) c.clear.ensures.items)))
