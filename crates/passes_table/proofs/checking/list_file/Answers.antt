use Rattle.std.proofs.Common.{◌≡◌, ℕ, List, [], ◌∷◌, ◌++◌, true≢false, ap, sym, subst, ◌∙◌}
use Rattle.std.proofs.lemmas.Option.{get_or_from_slice_get}
use Rattle.base.specs.declared.file.FileName.{FileName}
use Rattle.base.specs.Names.{FitsName}
use Rattle.base_bytes.specs.Ranges.{ranged}
use Rattle.store_table.specs.Checked.{IsNameNumber}
use Rattle.store_table.specs.Located.{located_texts, nth_payload}
use Rattle.store_table.specs.declared.products.ProductRow.{ProductRow}
use Rattle.store_table.specs.declared.texts.LocatedTexts.{LocatedTexts}
use Rattle.passes_codec.specs.Forms.{FileDraft}
use Rattle.passes_codec.specs.PassTables.{with_list_texts}
use Rattle.passes_codec.specs.Ranges.{file_in_ranges}
use Rattle.passes_table.specs.Additions.{AreListed, IsCheckedArtefact}
use Rattle.passes_table.proofs.Checks.{listed_next, not_named}
use Rattle.passes_table.proofs.checking.list_file.Goals as goal

pub returns-then-not-is_within_limits-clause-listed : goal.returns-then-not-is_within_limits-clause-listed
returns-then-not-is_within_limits-clause-listed c =
    let segments : List (List ℕ) = c.args.held.now.segments in
    let texts : List (List ℕ) = located_texts segments c.args.table.now.texts in
    let file : FileDraft = file_in_ranges (nth_payload segments c.args.at) c.args.file in
    let bytes : c.get.result.now ≡ nth_payload segments c.args.at = sym (get_or_from_slice_get segments c.args.at c.get.result.now [] c.get.ensures) in
    let named : c.in_ok-name.name ≡ file.name = c.in_ok-name.ensures ∙ ap (λ (bs : List ℕ). record { library = ranged bs c.args.file.library; path = ranged bs c.args.file.path }) bytes in
    λ files are. not_named (with_list_texts texts files) file (λ fits. true≢false (sym (c.is_within_limits.ensures.1 (subst FitsName (sym named) fits)) ∙ c.if-not-is_within_limits.true))

pub returns-clause-listed : goal.returns-clause-listed
returns-clause-listed c =
    let segments : List (List ℕ) = c.args.held.now.segments in
    let texts : List (List ℕ) = located_texts segments c.args.table.now.texts in
    let file : FileDraft = file_in_ranges (nth_payload segments c.args.at) c.args.file in
    let bytes : c.get.result.now ≡ nth_payload segments c.args.at = sym (get_or_from_slice_get segments c.args.at c.get.result.now [] c.get.ensures) in
    let named : c.in_ok-name.name ≡ file.name = c.in_ok-name.ensures ∙ ap (λ (bs : List ℕ). record { library = ranged bs c.args.file.library; path = ranged bs c.args.file.path }) bytes in
    let row : ProductRow = record { name = c.in_ok-name-2.name; text = c.in-Some.text } in
    let names' : List FileName = c.number_name.new.self.names.keys in
    let artefact = subst (IsCheckedArtefact segments texts c.args.list.now.fresh c.artefact_number.new.fresh file.artefact) c.in-Some.is c.in_ok-text.ensures in
    let numbered : IsNameNumber names' file.name row.name = subst (λ (n : FileName). IsNameNumber names' n c.in_ok-name-2.name) named c.in_ok-name-2.ensures.named in
    let fits : FitsName file.name = subst FitsName named (c.is_within_limits.ensures.0 c.if-not-is_within_limits.false) in
    λ files are.
    subst (λ (t : LocatedTexts). AreListed segments names' (located_texts segments t) (files ++ file ∷ []) (record { rows = c.push.new.self; fresh = c.artefact_number.new.fresh })) (sym c.number_name.ensures.texts)
    (listed_next segments c.args.table.now.names.keys names' texts files c.args.list.now file row c.artefact_number.new.fresh c.push.new.self are c.number_name.ensures.kept numbered fits artefact c.in_ok-push.ensures.ok)
