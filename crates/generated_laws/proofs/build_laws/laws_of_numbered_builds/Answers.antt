-- The clean builds of the generated project.
use Rattle.generated_laws.proofs.Builds.{changes, file_made, has_file, libraries_are, makes_all}
use Rattle.generated_laws.proofs.build_laws.laws_of_numbered_builds.Goals as goal

pub returns-clause-makes : goal.returns-clause-makes
returns-clause-makes c count edited command numbers order artefact answer are makes = makes_all count command numbers order are artefact answer makes edited

pub returns-clause-file : goal.returns-clause-file
returns-clause-file c count edited command numbers order artefact answer position are makes = file_made count command numbers order are artefact answer makes edited position

pub returns-clause-changes : goal.returns-clause-changes
returns-clause-changes c count edited command numbers order artefact answer position are makes = changes count command numbers order are artefact answer makes edited position

pub returns-clause-libraries : goal.returns-clause-libraries
returns-clause-libraries c count edited command numbers order artefact answer are makes = libraries_are count command numbers order are artefact answer makes edited

pub returns-clause-every : goal.returns-clause-every
returns-clause-every c count edited command numbers order artefact answer number are makes = has_file count command numbers order are artefact answer makes edited number
