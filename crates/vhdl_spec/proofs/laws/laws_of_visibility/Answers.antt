-- The sets after enough steps are closed, and the least.
use Rattle.vhdl_spec.specs.Visibility.{enough_steps}
use Rattle.vhdl_spec.proofs.Seeing.{closed, least, enough}
use Rattle.vhdl_spec.proofs.laws.laws_of_visibility.Goals as goal

pub returns-clause-closed : goal.returns-clause-closed
returns-clause-closed c = closed

pub returns-clause-least : goal.returns-clause-least
returns-clause-least c units sets are = least units sets are (enough_steps units)

pub returns-clause-enough : goal.returns-clause-enough
returns-clause-enough c units steps = enough units steps
