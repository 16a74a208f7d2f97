-- What packages refer to.
use Rattle.generated_sources.proofs.PackageReferences.{package_linked, package_refers}
use Rattle.generated_sources.proofs.text_laws.laws_of_references.Goals as goal

pub returns-clause-refs : goal.returns-clause-refs
returns-clause-refs c = package_refers

pub returns-clause-linked : goal.returns-clause-linked
returns-clause-linked c = package_linked
