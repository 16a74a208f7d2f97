use Rattle.std.proofs.Common.{◌≡◌, ℕ, ◌≤◌, List, [], true≢false, Some, length, refl, sym, ap, subst, ◌∙◌, arith}
use Rattle.std.proofs.lemmas.Option.{get_or_from_slice_get, slice_get_within}
use Rattle.base.specs.declared.limits.TheConstants.{ARTEFACT_LIMIT}
use Rattle.base_collections.specs.Numbers.{IsIndexOf}
use Rattle.base_bytes.specs.TextRefs.{ref_in_range, told_text}
use Rattle.store_table.specs.declared.products.ProductRow.{ProductRow}
use Rattle.store_table.specs.Checked.{IsRefNumber}
use Rattle.store_table.specs.Located.{nth_payload, located_texts}
use Rattle.store_table.proofs.RowProducts.{draft_there, no_draft_there}
use Rattle.store_table.proofs.checking.checked_product.Goals as goal
use Rattle.store_table.proofs.checking.checked_product.Goals.{After-number}

abbrev asked_row : (c : After-number) → ProductRow
asked_row c = record { name = c.args.name; text = c.in-Some.text }

is_ref : (c : After-number) → IsRefNumber (located_texts c.args.held.now.segments c.args.table.now.texts) (ref_in_range (nth_payload c.args.held.now.segments c.args.at) c.args.draft.artefact) (Some c.in-Some.text)
is_ref c =
    let payloads = c.args.held.now.segments in
    let texts : List (List ℕ) = located_texts payloads c.args.table.now.texts in
    subst (λ (bs : List ℕ). IsRefNumber texts (ref_in_range bs c.args.draft.artefact) (Some c.in-Some.text)) (sym (get_or_from_slice_get payloads c.args.at c.get-bytes.result.now [] c.get-bytes.ensures)) (subst (IsRefNumber texts (ref_in_range c.get-bytes.result.now c.args.draft.artefact)) c.in-Some.is c.number_of_ref.ensures)

pub returns-in-Some-number : goal.returns-in-Some-number
returns-in-Some-number c =
    let step = (goal.at.returns-in-Some-number c).After-number in
    let payloads = c.args.held.now.segments in
    let table = c.args.table.now in
    let found = subst (IsIndexOf table.products.keys (asked_row step)) c.in-Some-number.is c.number.ensures in
    λ is. true≢false (sym (draft_there table.names.keys (located_texts payloads table.texts) table.texts.index.splits table.products.keys c.requires.table.names_once c.requires.table.texts.split c.requires.table.rows.products_are _ c.args.name (ref_in_range (nth_payload payloads c.args.at) c.args.draft.artefact) (asked_row step) c.requires.name refl (is_ref step).1 (c.in-Some-number._number, slice_get_within table.products.keys c.in-Some-number._number (asked_row step) found, get_or_from_slice_get table.products.keys c.in-Some-number._number (asked_row step) (asked_row step) found)) ∙ is.new)

pub returns-in-None : goal.returns-in-None
returns-in-None c =
    let step = (goal.at.returns-in-None c).After-number in
    let payloads = c.args.held.now.segments in
    let table = c.args.table.now in
    let texts : List (List ℕ) = located_texts payloads table.texts in
    let told : c.text_of_source.result.now ≡ told_text texts (ref_in_range (nth_payload payloads c.args.at) c.args.draft.artefact) = c.text_of_source.ensures ∙ ap (λ (bs : List ℕ). told_text texts (ref_in_range bs c.args.draft.artefact)) (sym (get_or_from_slice_get payloads c.args.at c.get-bytes.result.now [] c.get-bytes.ensures)) in (record { name = record { library = c.requires.fits.library; path = c.requires.fits.path }; artefact = (is_ref step).0; small = subst (λ (t : List ℕ). length t ≤ ARTEFACT_LIMIT) told (omega (arith, c.if-text_of_source-gt-ARTEFACT_LIMIT.false)); new = no_draft_there table.names.keys texts table.texts.index.splits table.products.keys c.requires.table.names_once c.requires.table.texts.split c.requires.table.rows.products_are _ c.args.name (ref_in_range (nth_payload payloads c.args.at) c.args.draft.artefact) (asked_row step) c.requires.name refl (is_ref step).1 (is_ref step).0 (subst (IsIndexOf table.products.keys (asked_row step)) c.in-None.is c.number.ensures) }, (is_ref step).1)
