-- What opens items or a region does so in any region.
use Rattle.vhdl_units.proofs.class.class_of_word.Goals as goal

pub returns-in-Package-clause-class : goal.returns-in-Package-clause-class
returns-in-Package-clause-class c = c.class_of_package.ensures.class c.args.inside

pub returns-in-Function-clause-class : goal.returns-in-Function-clause-class
returns-in-Function-clause-class c = c.class_of_subprogram.ensures.class c.args.inside

pub returns-in-Generate-clause-class : goal.returns-in-Generate-clause-class
returns-in-Generate-clause-class c = c.class_of_generate.ensures.class c.args.inside
