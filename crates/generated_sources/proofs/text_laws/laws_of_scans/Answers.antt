-- Scans of the files of packages.
use Rattle.generated_sources.proofs.PackageFindings.{package_found, package_is_scan, package_roles}
use Rattle.generated_sources.proofs.text_laws.laws_of_scans.Goals as goal

pub returns-clause-is_scan : goal.returns-clause-is_scan
returns-clause-is_scan c = package_is_scan

pub returns-clause-found : goal.returns-clause-found
returns-clause-found c = package_found

pub returns-clause-roles : goal.returns-clause-roles
returns-clause-roles c = package_roles
