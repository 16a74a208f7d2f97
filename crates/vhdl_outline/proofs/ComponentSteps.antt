-- Tokens that aren't `component`: no component is named after them, and a walk may pass over them.
use Rattle.std.proofs.Common.{◌≡◌, ℕ, ◌+◌, ◌≤◌, ◌&&◌, Bool, true, false, not, List, map, refl, ap}
use Rattle.base.specs.declared.design.Role.{Role}
use Rattle.vhdl_spec.specs.References.{is_name, role_before}
use Rattle.vhdl_spec.specs.Units.{role_at}
use Rattle.vhdl_outline.specs.Components.{HasPassedWords, components_between, is_component, is_component_word, is_end_word, name_index}
use Rattle.vhdl_spec.proofs.Walks.{indices_skip}

no_component : (roles : List Role) (at : ℕ) → is_component_word (role_at roles at) ≡ false → is_component roles at ≡ false
no_component roles at none = no_words (is_component_word (role_at roles at)) (is_name (role_at roles (at + 1))) (not (is_end_word (role_before roles at))) none where
  no_words : (a b c : Bool) → a ≡ false → (a && b && c) ≡ false
  no_words true b c is = let never : ⊥ = cc in absurd never
  no_words false b c is = refl

pub skip_components : (roles : List Role) (start at end next : ℕ) → start ≤ at → HasPassedWords roles at end next → components_between roles start next ≡ components_between roles start at
skip_components roles start at end next ordered passed =
    ap (map name_index) (indices_skip (is_component roles) start at next ordered passed.reaches (λ k reach below. no_component roles k (passed.none k reach below)))
