-- What remains to be proved of `laws_of_values`.
use Rattle.report.proofs.Values.{value_of_characters}
use Rattle.report.proofs.laws.laws_of_values.Goals as goal

pub returns : goal.returns
returns c = value_of_characters
