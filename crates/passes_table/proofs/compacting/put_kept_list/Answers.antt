use Rattle.std.proofs.Common.{◌≡◌, ℕ, List, [], ◌∷◌, ◌++◌, length, get_or, refl, sym, ap, ◌∙◌, arith}
use Rattle.base.specs.Bytes.{number_bytes}
use Rattle.base.specs.declared.graph.BuiltFile.{BuiltFile}
use Rattle.store_table.specs.Located.{located_texts, no_row, row_products}
use Rattle.store_table.specs.declared.products.ProductRow.{ProductRow}
use Rattle.passes_codec.specs.Compaction.{spelled_files}
use Rattle.passes_codec.specs.PassTables.{with_list_texts}
use Rattle.passes_codec.proofs.TablePasses.{FitsList}
use Rattle.passes_table.specs.Kept.{numbered_texts}
use Rattle.passes_table.specs.Located.{located_passes}
use Rattle.passes_table.proofs.KeptLists.{few_rows, fits_at, kept_all, list_written, listed_rows, written_all, written_next}
use Rattle.passes_table.proofs.compacting.put_kept_list.Goals as goal
use Rattle.passes_table.proofs.compacting.put_kept_list.Goals.{After-as_slice-files}

listed : (c : After-as_slice-files) → (get_or (located_passes c.args.held.now.segments c.args.table.now).lists c.args.list [] ≡ row_products c.args.table.now.names.keys (located_texts c.args.held.now.segments c.args.table.now.texts) c.as_slice-files.result.now) × FitsList (row_products c.args.table.now.names.keys (located_texts c.args.held.now.segments c.args.table.now.texts) c.as_slice-files.result.now)
listed c = listed_rows c.args.held.now.segments c.args.table.now c.args.list c.key.result.now c.as_slice-files.result.now (record { are = c.requires.table.are; is = c.requires.table.is }) c.key.ensures c.as_slice-files.ensures

pub overflow_cast-files : goal.overflow_cast-files
overflow_cast-files c = omega (arith, few_rows c.args.table.now.names.keys (located_texts c.args.held.now.segments c.args.table.now.texts) c.as_slice-files.result.now (listed (goal.at.overflow_cast-files c).After-as_slice-files).1)

pub put_kept_file-requires-clause-fits : goal.put_kept_file-requires-clause-fits
put_kept_file-requires-clause-fits c = fits_at c.args.table.now.names.keys (located_texts c.args.held.now.segments c.args.table.now.texts) c.as_slice-files.result.now c.loop-row.row-index (listed (goal.at.put_kept_file-requires-clause-fits c).After-as_slice-files).1 c.loop-row-test.true

pub loop-row-preserved : goal.loop-row-preserved
loop-row-preserved c =
    let texts : List (List ℕ) = located_texts c.args.held.now.segments c.args.table.now.texts in
    let rows : List ProductRow = c.as_slice-files.result.now in
    let index : ℕ = c.loop-row.row-index in
    written_next c.args.table.now.names.keys texts rows (c.args.out.now ++ 1 ∷ number_bytes (length rows)) c.args.texts.now index c.loop-row.out c.put_kept_file.new.out c.loop-row.texts c.put_kept_file.new.texts (get_or rows index no_row) c.loop-row-test.true refl c.loop-row.invariant c.in_ok-put_kept_file.ensures.texts c.in_ok-put_kept_file.ensures.written c.in_ok-put_kept_file.ensures.kept

pub returns-clause-written : goal.returns-clause-written
returns-clause-written c =
    let texts : List (List ℕ) = located_texts c.args.held.now.segments c.args.table.now.texts in
    let rows : List ProductRow = c.as_slice-files.result.now in
    let built : List BuiltFile = get_or (located_passes c.args.held.now.segments c.args.table.now).lists c.args.list [] in
    written_all c.args.table.now.names.keys texts rows (c.args.out.now ++ 1 ∷ number_bytes (length rows)) c.args.texts.now c.loop-row.row-index c.loop-row.out c.loop-row.texts c.loop-row-test.false c.loop-row.invariant
    ∙ list_written c.args.table.now.names.keys texts rows c.args.out.now (numbered_texts texts c.args.texts.now.numbers) built (listed (goal.at.returns-clause-written c).After-as_slice-files).0

pub returns-clause-kept : goal.returns-clause-kept
returns-clause-kept c =
    let texts : List (List ℕ) = located_texts c.args.held.now.segments c.args.table.now.texts in
    let rows : List ProductRow = c.as_slice-files.result.now in
    let before : List (List ℕ) = numbered_texts texts c.args.texts.now.numbers in
    kept_all c.args.table.now.names.keys texts rows (c.args.out.now ++ 1 ∷ number_bytes (length rows)) c.args.texts.now c.loop-row.row-index c.loop-row.out c.loop-row.texts c.loop-row-test.false c.loop-row.invariant
    ∙ ap (λ (b : List BuiltFile). with_list_texts before (spelled_files before b)) (sym (listed (goal.at.returns-clause-kept c).After-as_slice-files).0)
