use Rattle.store_table.specs.Located.{located_texts}
use Rattle.store_table.proofs.Puts.{no_record}
use Rattle.store_table.proofs.Takes.{keeps_numbered, names_same}
use Rattle.store_table.proofs.taking.number_name.Goals as goal

pub returns-clause-is : goal.returns-clause-is
returns-clause-is c = λ payloads are.
    let table = c.args.table.now in
    names_same payloads table.names.keys c.add.new.self.keys (located_texts payloads table.texts) table.products.keys table.rows.items (keeps_numbered c.args.name c.in_ok-number.number table.names.keys c.add.new.self.keys c.in_ok-number.ensures.ok) are.rows no_record
