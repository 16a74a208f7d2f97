use Rattle.std.proofs.Common.{subst}
use Rattle.base_collections.specs.Numbers.{IsIndexOf}
use Rattle.store_table.proofs.RowProducts.{puts_new, puts_old}
use Rattle.store_table.proofs.putting.put_row.Goals as goal

pub returns-in-Some : goal.returns-in-Some
returns-in-Some c = puts_old c.args.row c.in-Some.number c.args.products.now.keys (subst (IsIndexOf c.args.products.now.keys c.args.row) c.in-Some.is c.number.ensures)

pub returns-in-None : goal.returns-in-None
returns-in-None c = puts_new c.args.row c.len-number.result c.args.products.now.keys c.put.new.self.keys (subst (IsIndexOf c.args.products.now.keys c.args.row) c.in-None.is c.number.ensures) c.len-number.ensures.len c.put.ensures
