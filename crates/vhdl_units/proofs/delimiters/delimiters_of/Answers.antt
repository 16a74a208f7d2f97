-- At the end of the file no level has a delimiter.
use Rattle.std.proofs.Common.{length, sym, ◌∙◌, subst}
use Rattle.vhdl_units.specs.Delimiters.{AreNearest}
use Rattle.vhdl_units.proofs.DelimiterTable.{nearest_end}
use Rattle.vhdl_units.proofs.delimiters.delimiters_of.Goals as goal

pub fill-requires-clause-nearest : goal.fill-requires-clause-nearest
fill-requires-clause-nearest c =
    let roles = c.args.roles.now in
    let filled = c.deref_mut.ensures.value ∙ c.in_ok-nearest.ensures.items_if_clones_equal (λ y same. same) in
    subst (AreNearest roles (length roles)) (sym filled) (nearest_end roles)
