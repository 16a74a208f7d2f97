-- By the lemmas on the least set and on the parts.
use Rattle.std.proofs.Common.{length}
use Rattle.project_minimal.proofs.Least.{is_needy, least}
use Rattle.project_minimal.proofs.NeededParts.{linked_part, listed_part}
use Rattle.project_minimal.proofs.laws.laws_of_minimal_sets.Goals as goal

pub returns-clause-closed : goal.returns-clause-closed
returns-clause-closed c = λ sources tests. is_needy sources tests

pub returns-clause-least : goal.returns-clause-least
returns-clause-least c = λ sources tests set closed file low needed. least sources tests set closed (length sources.files) file low needed

pub returns-clause-linked : goal.returns-clause-linked
returns-clause-linked c = λ project texts scans tests edges order proper fit are as_many is. linked_part project texts scans tests edges order proper fit are as_many is

pub returns-clause-listed : goal.returns-clause-listed
returns-clause-listed c = λ project texts scans tests each. listed_part project texts scans tests each
