-- The indices of references, and a walk over one more index that keeps the indices unchanged.
use Rattle.std.proofs.Common.{◌≡◌, ℕ, ◌+◌, ◌≤◌, Bool, cond, List, [], ◌∷◌, ◌++◌, map, refl, sym, ◌∙◌, ap, append_assoc}
use Rattle.base.specs.declared.design.Role.{Role}
use Rattle.vhdl_spec.specs.References.{is_reference, indices}
use Rattle.vhdl_spec.proofs.Walks.{indices_more}
use Rattle.vhdl_outline.specs.declared.indices.RefIndex.{RefIndex}
use Rattle.vhdl_outline.specs.Indices.{ref_index, refs_between}

pub indices_all_more : (test : ℕ → Bool) (start at : ℕ) (done items more : List ℕ) → start ≤ at → items ≡ done ++ indices test start at → more ≡ items ++ cond (test at) (at ∷ []) [] → more ≡ done ++ indices test start (at + 1)
indices_all_more test start at done items more ordered so_far adds =
    adds ∙ ap (λ (xs : List ℕ). xs ++ cond (test at) (at ∷ []) []) so_far ∙ append_assoc done (indices test start at) (cond (test at) (at ∷ []) []) ∙ ap (λ (xs : List ℕ). done ++ xs) (sym (indices_more test start at ordered))

-- what is made of the index of each reference is made of its token number
pub made_at : {X : Type 0} (f : ℕ → X) (roles : List Role) (found : List ℕ) → map (λ (token_index : RefIndex). f token_index.at) (map (ref_index roles) found) ≡ map f found
made_at f roles [] = refl
made_at {X} f roles (at ∷ found) = ap (λ (rest : List X). f at ∷ rest) (made_at f roles found)

pub refs_at_indices : {X : Type 0} (f : ℕ → X) (roles : List Role) (start end : ℕ) → map (λ (token_index : RefIndex). f token_index.at) (refs_between roles start end) ≡ map f (indices (is_reference roles) start end)
refs_at_indices f roles start end = made_at f roles (indices (is_reference roles) start end)
