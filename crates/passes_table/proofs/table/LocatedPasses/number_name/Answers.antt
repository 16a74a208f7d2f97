use Rattle.std.proofs.Common.{List, ℕ}
use Rattle.store_table.specs.Located.{located_texts}
use Rattle.store_table.proofs.Keeping.{keeps_self}
use Rattle.store_table.proofs.Takes.{keeps_numbered}
use Rattle.passes_table.proofs.PassRows.{lists_still, names_same}
use Rattle.passes_table.proofs.table.LocatedPasses.number_name.Goals as goal

pub returns-clause-is : goal.returns-clause-is
returns-clause-is c = λ payloads are.
    let table = c.args.self.now in
    let texts : List (List ℕ) = located_texts payloads table.texts in
    names_same payloads table.names.keys c.add.new.self.keys texts table.lists.keys table.rows.items (lists_still table.names.keys c.add.new.self.keys texts texts (keeps_numbered c.args.name c.in_ok-number.number table.names.keys c.add.new.self.keys c.in_ok-number.ensures.ok) (keeps_self texts) table.lists.keys are.lists)
