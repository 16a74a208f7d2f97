use Rattle.std.proofs.Common.{◌≡◌, ◌≢◌, ℕ, List, ◌++◌, get_or, sym, ap, ◌∙◌}
use Rattle.std.specs.Prelude.{AllPairs}
use Rattle.std.proofs.lemmas.Option.{get_or_from_slice_get}
use Rattle.base.specs.declared.file.FileName.{FileName}
use Rattle.base_bytes.specs.TextRefs.{TextRef}
use Rattle.store_codec.specs.Writing.{ref_or}
use Rattle.store_table.specs.Located.{located_texts, no_name}
use Rattle.passes_codec.specs.Forms.{file_bytes}
use Rattle.passes_table.proofs.Kept.{kept_ref, kept_text, once_texts}
use Rattle.passes_table.proofs.compacting.put_kept_file.Goals as goal

pub returns-clause-written : goal.returns-clause-written
returns-clause-written c =
    let texts : List (List ℕ) = located_texts c.args.held.now.segments c.args.table.now.texts in
    let names : List FileName = c.args.table.now.names.keys in
    let out : List ℕ = c.args.out.now in
    let once : AllPairs (λ (a b : List ℕ). a ≢ b) texts = once_texts texts c.args.table.now.texts.index.splits c.requires.table.texts.split in
    let name : get_or names c.args.row.name no_name ≡ c.key.result.now = get_or_from_slice_get names c.args.row.name c.key.result.now no_name c.key.ensures in
    c.in_ok-put_file.ensures
    ∙ ap (λ (n : FileName). out ++ file_bytes (record { name = n; artefact = ref_or c.index_of.result c.text_at.result.now })) (sym name)
    ∙ ap (λ (t : List ℕ). out ++ file_bytes (record { name = get_or names c.args.row.name no_name; artefact = ref_or c.index_of.result t })) c.text_at.ensures
    ∙ ap (λ (r : TextRef). out ++ file_bytes (record { name = get_or names c.args.row.name no_name; artefact = r })) (sym (kept_ref texts once c.args.texts.now c.args.row.text c.index_of.result (record { room = c.requires.texts.room; below = c.requires.texts.below; once = c.requires.texts.once }) c.requires.row.text c.index_of.ensures))

pub returns-clause-kept : goal.returns-clause-kept
returns-clause-kept c =
    let texts : List (List ℕ) = located_texts c.args.held.now.segments c.args.table.now.texts in
    let once : AllPairs (λ (a b : List ℕ). a ≢ b) texts = once_texts texts c.args.table.now.texts.index.splits c.requires.table.texts.split in
    kept_text texts once c.in_ok-add.field-0 c.args.texts.now c.add.new.self c.args.row.text c.index_of.result (record { room = c.requires.texts.room; below = c.requires.texts.below; once = c.requires.texts.once }) c.requires.row.text c.index_of.ensures c.in_ok-add.ensures.ok
