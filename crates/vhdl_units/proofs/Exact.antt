-- What outlining gives is exact, since a file has one outline or one fault.
use Rattle.std.proofs.Common.{ℕ, List, Ok, Err, Result, refl, ◌∙◌, ap}
use Rattle.base.specs.declared.lexical.Token.{Token}
use Rattle.base.specs.declared.design.Unit.{Unit as DesignUnit}
use Rattle.base.specs.declared.design.UnitFault.{UnitFault}
use Rattle.base.specs.declared.memory.OrMemory.{OrMemory}
use Rattle.base.specs.declared.memory.OrMemory.TheVariants.{NoMemory, Fault}
use Rattle.vhdl_spec.specs.Units.{Element, IsOutline, HasUnitFault, Outlines, roles_of, units_of}
use Rattle.vhdl_spec.proofs.Files.{one_outline, one_unit_fault, no_outline_and_fault}
use Rattle.vhdl_units.specs.Standing.{GivesUnits, GivesUnitFault}

pub gives_units : (text : List ℕ) (tokens : List Token) (result : Result (List DesignUnit) (OrMemory UnitFault)) → Outlines text tokens result → (elements : List Element) → IsOutline (roles_of text tokens) elements → GivesUnits (units_of text tokens elements) result
gives_units text tokens (Ok units) outlines elements outline = outlines.2 ∙ ap (units_of text tokens) (one_outline (roles_of text tokens) outlines.0 elements outlines.1 outline)
gives_units text tokens (Err NoMemory) outlines elements outline = refl
gives_units text tokens (Err (Fault fault)) outlines elements outline = absurd (no_outline_and_fault text tokens elements fault outline outlines)

pub gives_unit_fault : (text : List ℕ) (tokens : List Token) (result : Result (List DesignUnit) (OrMemory UnitFault)) → Outlines text tokens result → (fault : UnitFault) → HasUnitFault text tokens fault → GivesUnitFault fault result
gives_unit_fault text tokens (Ok units) outlines fault has = no_outline_and_fault text tokens outlines.0 fault outlines.1 has
gives_unit_fault text tokens (Err NoMemory) outlines fault has = tt
gives_unit_fault text tokens (Err (Fault given)) outlines fault has = one_unit_fault text tokens given fault outlines has
