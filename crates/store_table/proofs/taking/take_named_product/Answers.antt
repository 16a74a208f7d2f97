use Rattle.std.proofs.Common.{ap, subst, ◌∙◌}
use Rattle.store_codec.specs.Forms.{ProductDraft}
use Rattle.store_codec.specs.Ranges.{product_in_ranges}
use Rattle.store_codec.specs.RecordTables.{RecordTable, with_product}
use Rattle.store_table.specs.Checked.{IsCheckedProduct}
use Rattle.store_table.specs.Located.{nth_payload, located_table}
use Rattle.store_table.proofs.Takes.{took_no_product, took_product}
use Rattle.store_table.proofs.taking.take_named_product.Goals as goal

pub returns-in_default : goal.returns-in_default
returns-in_default c =
    let table : RecordTable = located_table c.args.held.now.segments c.args.table.now in
    let draft : ProductDraft = product_in_ranges (nth_payload c.args.held.now.segments c.args.at) c.args.draft in
    record {
      are = record { texts = c.requires.table.texts; rows = c.requires.table.rows; names_once = c.requires.table.names_once; latest = c.requires.table.latest };
      is = took_no_product table draft (subst (IsCheckedProduct table draft) c.in_default.is c.checked_product.ensures);
    }

pub returns : goal.returns
returns c =
    let payloads = c.args.held.now.segments in
    let table : RecordTable = located_table payloads c.args.table.now in
    let draft : ProductDraft = product_in_ranges (nth_payload payloads c.args.at) c.args.draft in
    let checked = subst (IsCheckedProduct table draft) c.in-Some.is c.checked_product.ensures in
    record {
      are = c.put_product.ensures.are;
      is = c.put_product.ensures.is ∙ ap (λ (s : RecordTable). with_product s draft) (c.in_ok-reserve.ensures.is payloads) ∙ took_product table draft checked.0;
    }
