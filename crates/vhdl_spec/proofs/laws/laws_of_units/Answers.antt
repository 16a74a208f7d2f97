-- Units of an outline are where they say, and few.
use Rattle.std.proofs.Common.{length, arith}
use Rattle.std.proofs.lemmas.List.{length-map}
use Rattle.vhdl_spec.specs.Units.{role_of, roles_of}
use Rattle.vhdl_spec.proofs.Placed.{all_placed, follow_on, units_few}
use Rattle.vhdl_spec.proofs.laws.laws_of_units.Goals as goal

pub returns-clause-placed : goal.returns-clause-placed
returns-clause-placed c = all_placed

pub returns-clause-ordered : goal.returns-clause-ordered
returns-clause-ordered c text tokens elements outline = follow_on text tokens 0 0 elements

pub returns-clause-few : goal.returns-clause-few
returns-clause-few c text tokens elements outline =
    let few = units_few text tokens 0 0 elements (length (roles_of text tokens)) outline in
    omega (arith, length-map tokens (role_of text))
