-- What remains to be proved of `index_of_file`.
use Rattle.project_file.proofs.PairSteps.{no_index}
use Rattle.project_file.proofs.pairs.index_of_file.Goals as goal

pub returns-in-None : goal.returns-in-None
returns-in-None c = λ files is. no_index files c.args.index.now.keys c.args.name is c.in-None.ensures
