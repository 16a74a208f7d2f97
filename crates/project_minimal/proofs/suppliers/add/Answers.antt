-- The file is in the list of the name's number.
use Rattle.project_minimal.proofs.SupplierLemmas.{fit_put, supplied}
use Rattle.project_minimal.proofs.suppliers.add.Goals as goal

pub returns-clause-fit : goal.returns-clause-fit
returns-clause-fit c = λ count within fit. fit_put count c.args.file c.in_ok-number.number c.args.suppliers.now _ c.args.name c.requires c.in_ok-number.ensures.number c.in_ok-number.ensures.ok c.in_ok-put_file.ensures.put (c.in_ok-put_file.ensures.within count within fit.within)

pub returns-clause-added : goal.returns-clause-added
returns-clause-added c = λ other at. supplied c.args.suppliers.now _ c.args.name c.args.file c.in_ok-number.number c.requires c.in_ok-number.ensures.number c.in_ok-number.ensures.ok c.in_ok-put_file.ensures.put other at
