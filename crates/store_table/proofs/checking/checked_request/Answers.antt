use Rattle.std.proofs.Common.{◌≡◌, ◌<◌, ℕ, List, true≢false, length, sym, subst, ◌∙◌, arith}
use Rattle.std.specs.Prelude.{All}
use Rattle.std.proofs.lemmas.List.{length-map}
use Rattle.store_codec.specs.Ranges.{request_in_ranges}
use Rattle.base_bytes.specs.Ranges.{counted_numbers}
use Rattle.store_table.specs.Checked.{AreRequestTexts, HasRowDeps}
use Rattle.store_table.specs.Located.{located_texts, row_product}
use Rattle.store_table.proofs.Deps.{names_apart, names_other, numbers_apart}
use Rattle.store_table.proofs.checking.checked_request.Goals as goal

pub returns-then-not-branch : goal.returns-then-not-branch
returns-then-not-branch c =
    let segments = c.args.held.now.segments in
    let table = c.args.table.now in
    let texts : List (List ℕ) = located_texts segments table.texts in
    let deps : List ℕ = counted_numbers c.args.bytes.now c.args.draft.deps in
    let deps_are : c.numbers_of.result ≡ deps = c.numbers_of.ensures in
    λ is.
    let there : All (λ (dep : ℕ). dep < length table.products.keys) deps = λ k d l. (let low = is.there k d l in omega (arith, low, length-map table.products.keys (row_product table.names.keys texts))) in
    let fits : HasRowDeps table.products.keys c.args.name deps = record {
      few = is.few;
      there = there;
      apart = numbers_apart table.names.keys texts table.products.keys c.requires.table.names_once c.requires.table.rows.products_are (request_in_ranges c.args.bytes.now c.args.draft).name c.args.name c.requires.name deps there is.apart is.others;
    } in
    true≢false (sym (c.in_ok-deps_fit.ensures.1 (subst (HasRowDeps table.products.keys c.args.name) (sym deps_are) fits)) ∙ c.if-not-branch.true)

pub returns : goal.returns
returns c =
    let segments = c.args.held.now.segments in
    let table = c.args.table.now in
    let texts : List (List ℕ) = located_texts segments table.texts in
    let deps : List ℕ = counted_numbers c.args.bytes.now c.args.draft.deps in
    let deps_are : c.numbers_of.result ≡ deps = c.numbers_of.ensures in
    let fits = subst (HasRowDeps table.products.keys c.args.name) deps_are (c.in_ok-deps_fit.ensures.0 c.if-not-branch.false) in
    let all = subst (AreRequestTexts texts (request_in_ranges c.args.bytes.now c.args.draft)) c.in-Some.is c.request_texts.ensures in (
      record {
        name = record { library = c.requires.fits.library; path = c.requires.fits.path };
        command = c.has_word_sizes.ensures.0 c.if-not-has_word_sizes.false;
        source = all.0.source;
        text_small = all.0.text_small;
        artefact = all.0.artefact;
        small = all.0.small;
        few = fits.few;
        there = λ k d l. (let low = fits.there k d l in omega (arith, low, length-map table.products.keys (row_product table.names.keys texts)));
        apart = names_apart table.names.keys texts table.products.keys c.requires.table.names_once c.requires.table.rows.products_are (request_in_ranges c.args.bytes.now c.args.draft).name c.args.name c.requires.name deps fits.there fits.apart;
        others = names_other table.names.keys texts table.products.keys c.requires.table.names_once c.requires.table.rows.products_are (request_in_ranges c.args.bytes.now c.args.draft).name c.args.name c.requires.name deps fits.there fits.apart;
      },
      all.1,
    )
