use Rattle.std.proofs.Common.{◌≡◌, ℕ, List, [], ◌++◌, length, get_or, refl, sym, ap, ◌∙◌, arith, length-append}
use Rattle.std.specs.List.{flat_map}
use Rattle.base.specs.declared.file.FileName.{FileName}
use Rattle.base.specs.declared.graph.BuiltFile.{BuiltFile}
use Rattle.store_table.specs.Located.{located_texts, no_row, row_products}
use Rattle.store_table.specs.declared.products.ProductRow.{ProductRow}
use Rattle.passes_codec.specs.Compaction.{spelled_files}
use Rattle.passes_codec.specs.Forms.{file_bytes}
use Rattle.passes_codec.specs.PassTables.{with_list_texts}
use Rattle.passes_codec.proofs.TablePasses.{FitsList}
use Rattle.passes_table.specs.Kept.{numbered_texts}
use Rattle.passes_table.specs.Located.{located_passes}
use Rattle.passes_table.proofs.KeptLists.{few_rows, fits_at, kept_all, listed_rows, spelled_row, written_all, written_next}
use Rattle.passes_table.proofs.PassBytes.{new_list_size}
use Rattle.passes_table.proofs.counting.kept_list_size.Goals as goal
use Rattle.passes_table.proofs.counting.kept_list_size.Goals.{After-as_slice-files}

listed : (c : After-as_slice-files) → (get_or (located_passes c.args.held.now.segments c.args.table.now).lists c.args.list [] ≡ row_products c.args.table.now.names.keys (located_texts c.args.held.now.segments c.args.table.now.texts) c.as_slice-files.result.now) × FitsList (row_products c.args.table.now.names.keys (located_texts c.args.held.now.segments c.args.table.now.texts) c.as_slice-files.result.now)
listed c = listed_rows c.args.held.now.segments c.args.table.now c.args.list c.key.result.now c.as_slice-files.result.now (record { are = c.requires.table.are; is = c.requires.table.is }) c.key.ensures c.as_slice-files.ensures

pub kept_file_size-requires-clause-fits : goal.kept_file_size-requires-clause-fits
kept_file_size-requires-clause-fits c = fits_at c.args.table.now.names.keys (located_texts c.args.held.now.segments c.args.table.now.texts) c.as_slice-files.result.now c.loop-row.row-index (listed (goal.at.kept_file_size-requires-clause-fits c).After-as_slice-files).1 c.loop-row-test.true

pub overflow_add-size : goal.overflow_add-size
overflow_add-size c = omega (arith, few_rows c.args.table.now.names.keys (located_texts c.args.held.now.segments c.args.table.now.texts) c.as_slice-files.result.now (listed (goal.at.overflow_add-size c).After-as_slice-files).1, c.loop-row-test.true, c.loop-row.invariant.small, c.in_ok-size.ensures.small)

pub loop-row-preserved : goal.loop-row-preserved
loop-row-preserved c =
    let names : List FileName = c.args.table.now.names.keys in
    let texts : List (List ℕ) = located_texts c.args.held.now.segments c.args.table.now.texts in
    let rows : List ProductRow = c.as_slice-files.result.now in
    let index : ℕ = c.loop-row.row-index in
    let written = c.loop-row.invariant.written in
    let row : ProductRow = get_or rows index no_row in
    let file : List ℕ = file_bytes (spelled_row names texts rows c.loop-row.texts row) in
    let out : List ℕ = written.0 ++ file in
    record {
      written = (out, omega (arith, length-append written.0 file, written.1, c.in_ok-size.ensures.size), written_next names texts rows [] c.args.texts.now index written.0 out c.loop-row.texts c.kept_file_size.new.texts row c.loop-row-test.true refl written.2 c.in_ok-size.ensures.texts refl c.in_ok-size.ensures.kept);
      small = omega (arith, c.loop-row.invariant.small, c.in_ok-size.ensures.small);
    }

pub overflow_add-result : goal.overflow_add-result
overflow_add-result c = omega (arith, few_rows c.args.table.now.names.keys (located_texts c.args.held.now.segments c.args.table.now.texts) c.as_slice-files.result.now (listed (goal.at.overflow_add-result c).After-as_slice-files).1, c.loop-row.auto.row-index-end, c.loop-row.invariant.small)

pub returns-clause-size : goal.returns-clause-size
returns-clause-size c =
    let texts : List (List ℕ) = located_texts c.args.held.now.segments c.args.table.now.texts in
    let written = c.loop-row.invariant.written in
    let before : List (List ℕ) = numbered_texts texts c.args.texts.now.numbers in
    let built : List BuiltFile = get_or (located_passes c.args.held.now.segments c.args.table.now).lists c.args.list [] in
    let all = written_all c.args.table.now.names.keys texts c.as_slice-files.result.now [] c.args.texts.now c.loop-row.row-index written.0 c.loop-row.texts c.loop-row-test.false written.2 in
    let same = ap (λ (b : List BuiltFile). length (flat_map file_bytes (spelled_files before b))) (sym (listed (goal.at.returns-clause-size c).After-as_slice-files).0) in
    omega (arith, ap length all, written.1, same, new_list_size (spelled_files before built))

pub returns-clause-small : goal.returns-clause-small
returns-clause-small c = omega (arith, few_rows c.args.table.now.names.keys (located_texts c.args.held.now.segments c.args.table.now.texts) c.as_slice-files.result.now (listed (goal.at.returns-clause-small c).After-as_slice-files).1, c.loop-row.auto.row-index-end, c.loop-row.invariant.small)

pub returns-clause-kept : goal.returns-clause-kept
returns-clause-kept c =
    let texts : List (List ℕ) = located_texts c.args.held.now.segments c.args.table.now.texts in
    let written = c.loop-row.invariant.written in
    let before : List (List ℕ) = numbered_texts texts c.args.texts.now.numbers in
    kept_all c.args.table.now.names.keys texts c.as_slice-files.result.now [] c.args.texts.now c.loop-row.row-index written.0 c.loop-row.texts c.loop-row-test.false written.2 ∙ ap (λ (b : List BuiltFile). with_list_texts before (spelled_files before b)) (sym (listed (goal.at.returns-clause-kept c).After-as_slice-files).0)
