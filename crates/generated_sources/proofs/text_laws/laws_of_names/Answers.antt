-- Names of packages.
use Rattle.generated_sources.proofs.Digits.{decimal_digits, same_number}
use Rattle.generated_sources.proofs.text_laws.laws_of_names.Goals as goal

pub returns-clause-digits : goal.returns-clause-digits
returns-clause-digits c = decimal_digits

pub returns-clause-distinct : goal.returns-clause-distinct
returns-clause-distinct c = same_number
