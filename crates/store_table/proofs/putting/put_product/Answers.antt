use Rattle.store_codec.specs.Ranges.{product_in_ranges}
use Rattle.store_table.specs.Located.{nth_payload, located_texts}
use Rattle.store_table.specs.Checked.{PutsProduct}
use Rattle.store_table.proofs.Puts.{no_record, product_located, product_put}
use Rattle.store_table.proofs.putting.put_product.Goals as goal

pub returns-clause-are : goal.returns-clause-are
returns-clause-are c =
    let payloads = c.args.held.now.segments in
    let table = c.args.table.now in
    let puts : PutsProduct (record { name = c.args.name; text = c.args.text }) c.put_row-number.result table.products.keys c.put_row-number.new.products.keys = record { more = c.put_row-number.ensures.more; grown = c.put_row-number.ensures.grown; numbered = c.put_row-number.ensures.numbered; new_is = c.put_row-number.ensures.new_is } in
    record {
      texts = c.put_ref.ensures.are;
      rows = product_located payloads table.names.keys (located_texts payloads table.texts) (located_texts payloads c.put_ref.new.texts) table.texts.index.splits table.products.keys c.put_row-number.new.products.keys table.rows.items c.requires.table.names_once (product_in_ranges (nth_payload payloads c.args.at) c.args.draft) c.requires.table.rows (record { name = c.requires.product.name; artefact = c.requires.product.artefact; small = c.requires.product.small; new = c.requires.product.new }) c.requires.table.texts.split c.put_ref.ensures.is c.args.name c.args.text c.put_row-number.result c.requires.name c.requires.text puts no_record;
      names_once = c.requires.table.names_once;
      latest = c.requires.table.latest;
    }

pub returns-clause-is : goal.returns-clause-is
returns-clause-is c =
    let payloads = c.args.held.now.segments in
    let table = c.args.table.now in
    let puts : PutsProduct (record { name = c.args.name; text = c.args.text }) c.put_row-number.result table.products.keys c.put_row-number.new.products.keys = record { more = c.put_row-number.ensures.more; grown = c.put_row-number.ensures.grown; numbered = c.put_row-number.ensures.numbered; new_is = c.put_row-number.ensures.new_is } in
    product_put payloads table.names.keys (located_texts payloads table.texts) (located_texts payloads c.put_ref.new.texts) table.texts.index.splits table.products.keys c.put_row-number.new.products.keys table.rows.items c.requires.table.names_once (product_in_ranges (nth_payload payloads c.args.at) c.args.draft) c.requires.table.rows (record { name = c.requires.product.name; artefact = c.requires.product.artefact; small = c.requires.product.small; new = c.requires.product.new }) c.requires.table.texts.split c.put_ref.ensures.is c.args.name c.args.text c.put_row-number.result c.requires.name c.requires.text puts no_record
