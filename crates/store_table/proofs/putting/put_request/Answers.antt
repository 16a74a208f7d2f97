use Rattle.std.proofs.Common.{◌≡◌, ℕ, List, [], ◌∷◌, ◌++◌, map, refl, sym, ap, subst, ◌∙◌}
use Rattle.std.proofs.lemmas.List.{map-append}
use Rattle.store_codec.specs.Ranges.{request_in_ranges}
use Rattle.store_codec.specs.RecordTables.{IsRequest}
use Rattle.base_bytes.specs.TextRefs.{with_text}
use Rattle.base_collections.specs.Splits.{AreSplit}
use Rattle.store_table.specs.declared.table.RecordRow.{RecordRow}
use Rattle.store_table.specs.Located.{AreRowsLocated, nth_payload, located_table, located_texts, table_by}
use Rattle.store_table.specs.Checked.{AreTextNumbers, PutsProduct}
use Rattle.store_table.proofs.Puts.{request_located, request_put}
use Rattle.store_table.proofs.putting.put_request.Goals as goal
use Rattle.store_table.proofs.putting.put_request.Goals.{After-put_row-product}

is_request : (c : After-put_row-product) → IsRequest (located_table c.args.held.now.segments c.args.table.now) (request_in_ranges (nth_payload c.args.held.now.segments c.args.at) c.args.draft)
is_request c = record { name = c.requires.request.name; command = c.requires.request.command; source = c.requires.request.source; text_small = c.requires.request.text_small; artefact = c.requires.request.artefact; small = c.requires.request.small; few = c.requires.request.few; there = c.requires.request.there; apart = c.requires.request.apart; others = c.requires.request.others }

are_numbers : (c : After-put_row-product) → AreTextNumbers (located_texts c.args.held.now.segments c.args.table.now.texts) (request_in_ranges (nth_payload c.args.held.now.segments c.args.at) c.args.draft) c.args.numbers
are_numbers c = record { text = c.requires.numbers.text; artefact = c.requires.numbers.artefact }

abbrev new_row : (c : After-put_row-product) → RecordRow
new_row c = record { payload = c.args.at; words = c.args.draft.words; deps = c.args.draft.deps; name = c.args.name; text = c.args.numbers.text; product = c.put_row-product.result }

puts_product : (c : After-put_row-product) → PutsProduct (record { name = c.args.name; text = c.args.numbers.artefact }) c.put_row-product.result c.args.table.now.products.keys c.put_row-product.new.products.keys
puts_product c = record { more = c.put_row-product.ensures.more; grown = c.put_row-product.ensures.grown; numbered = c.put_row-product.ensures.numbered; new_is = c.put_row-product.ensures.new_is }

texts_after : (c : After-put_row-product) → located_texts c.args.held.now.segments c.put_ref-2.new.texts ≡ with_text (with_text (located_texts c.args.held.now.segments c.args.table.now.texts) (request_in_ranges (nth_payload c.args.held.now.segments c.args.at) c.args.draft).source) (request_in_ranges (nth_payload c.args.held.now.segments c.args.at) c.args.draft).artefact
texts_after c =
    c.put_ref-2.ensures.is ∙ ap (λ (ts : List (List ℕ)). with_text ts (request_in_ranges (nth_payload c.args.held.now.segments c.args.at) c.args.draft).artefact) c.put_ref.ensures.is

split_after : (c : After-put_row-product) → AreSplit (with_text (located_texts c.args.held.now.segments c.args.table.now.texts) (request_in_ranges (nth_payload c.args.held.now.segments c.args.at) c.args.draft).source) c.put_ref.new.texts.index.splits
split_after c = subst (λ (ts : List (List ℕ)). AreSplit ts c.put_ref.new.texts.index.splits) c.put_ref.ensures.is c.put_ref.ensures.are.split

pub returns-clause-are : goal.returns-clause-are
returns-clause-are c =
    let step = (goal.at.returns-clause-are c).After-put_row-product in
    let payloads = c.args.held.now.segments in
    let table = c.args.table.now in
    let located = request_located payloads table.names.keys (located_texts payloads table.texts) (located_texts payloads c.put_ref-2.new.texts) table.texts.index.splits c.put_ref.new.texts.index.splits table.products.keys c.put_row-product.new.products.keys table.rows.items c.requires.table.names_once (request_in_ranges (nth_payload payloads c.args.at) c.args.draft) c.requires.table.rows (is_request step) (split_after step) (texts_after step) (new_row step) c.args.numbers (are_numbers step) c.requires.name refl (puts_product step) c.requires.at refl refl in
    record {
      texts = c.put_ref-2.ensures.are;
      rows = subst (AreRowsLocated payloads table.names.keys (located_texts payloads c.put_ref-2.new.texts) c.put_row-product.new.products.keys) (sym c.push_reserved.ensures.items) located;
      names_once = c.requires.table.names_once;
      latest = c.put.ensures ∙ ap (λ (ns : List ℕ). ns ++ c.args.name ∷ []) c.requires.table.latest ∙ sym (ap (map (λ (r : RecordRow). r.name)) c.push_reserved.ensures.items ∙ map-append (λ (r : RecordRow). r.name) table.rows.items ((new_row step) ∷ []));
    }

pub returns-clause-is : goal.returns-clause-is
returns-clause-is c =
    let step = (goal.at.returns-clause-is c).After-put_row-product in
    let payloads = c.args.held.now.segments in
    let table = c.args.table.now in
    ap (table_by payloads table.names.keys (located_texts payloads c.put_ref-2.new.texts) c.put_row-product.new.products.keys) c.push_reserved.ensures.items
    ∙ request_put payloads table.names.keys (located_texts payloads table.texts) (located_texts payloads c.put_ref-2.new.texts) table.texts.index.splits c.put_ref.new.texts.index.splits table.products.keys c.put_row-product.new.products.keys table.rows.items c.requires.table.names_once (request_in_ranges (nth_payload payloads c.args.at) c.args.draft) c.requires.table.rows (is_request step) (split_after step) (texts_after step) (new_row step) c.args.numbers (are_numbers step) c.requires.name refl (puts_product step) c.requires.at refl refl
