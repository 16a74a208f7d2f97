-- The files that an edit touches.
use Rattle.generated_laws.proofs.Touched.{touched_by_number, touches_number}
use Rattle.generated_laws.proofs.build_laws.laws_of_touched_numbers.Goals as goal

pub returns-clause-which : goal.returns-clause-which
returns-clause-which c count edited command numbers order position other are = touches_number count command numbers order are edited position other

pub returns-clause-count : goal.returns-clause-count
returns-clause-count c count edited command numbers order position are = touched_by_number count command numbers order are edited position
