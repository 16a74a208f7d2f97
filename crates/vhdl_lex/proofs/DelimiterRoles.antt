-- The table of the roles of delimiters is right, by trying all of its bytes.
use Rattle.std.proofs.Common.{◌≡◌, ℕ, ◌<◌, List, map, slice_index_or, refl, sym, ◌∙◌, ap, subst}
use Rattle.std.proofs.lemmas.List.{get_or-map}
use Rattle.base.specs.declared.design.Role.{Role}
use Rattle.base.specs.declared.design.Role.TheVariants.{Library}
use Rattle.base.specs.PresentGraph.{below}
use Rattle.base.proofs.Below.{get_or-below, length-below}
use Rattle.vhdl_spec.specs.Units.{symbol_role}
use Rattle.vhdl_lex.specs.declared.roles.TheConstants.{DELIMITERS}

delimiters_are : map symbol_role (below 64) ≡ DELIMITERS
unfolding below
delimiters_are = refl

pub delimiter_role : (byte : ℕ) → byte < 64 → slice_index_or DELIMITERS byte Library ≡ symbol_role byte
delimiter_role byte small =
    ap (λ (roles : List Role). slice_index_or roles byte Library) (sym delimiters_are)
    ∙ get_or-map symbol_role (below 64) byte 0 Library (subst (λ (n : ℕ). byte < n) (sym (length-below 64)) small)
    ∙ ap symbol_role (get_or-below 64 byte 0 small)
