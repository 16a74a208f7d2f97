-- Two packages, by computation.
use Rattle.generated_sources.proofs.PackageExamples.{first_package, twelfth_package}
use Rattle.generated_sources.proofs.text_laws.examples_of_packages.Goals as goal

pub returns-clause-first : goal.returns-clause-first
returns-clause-first c = first_package

pub returns-clause-twelfth : goal.returns-clause-twelfth
returns-clause-twelfth c = twelfth_package
