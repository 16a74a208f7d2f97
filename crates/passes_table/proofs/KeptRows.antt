-- The pass of a row, of parts that were copied from its payload.
use Rattle.std.proofs.Common.{◌≡◌, ℕ, suc, ◌+◌, ◌<◌, Bool, List, [], length, drop, get_or, sym, ap, subst, ◌∙◌, arith}
use Rattle.std.specs.Prelude.{All}
use Rattle.std.specs.List.{list_any}
use Rattle.std.proofs.lemmas.List.{get_or-map, length-map}
use Rattle.base.specs.declared.graph.BuiltFile.{BuiltFile}
use Rattle.base_bytes.specs.Ranges.{counted_words, ranged}
use Rattle.store_table.specs.Located.{nth_payload}
use Rattle.testbench_runs.specs.declared.runs.TestRun.{TestRun}
use Rattle.passes_spec.specs.Passes.{Pass, is_of_tests, is_superseded}
use Rattle.passes_codec.specs.Compaction.{FitsPass}
use Rattle.passes_codec.specs.PassTables.{PassTable}
use Rattle.passes_codec.specs.Ranges.{run_in_ranges}
use Rattle.passes_codec.proofs.TablePasses.{passes_fit}
use Rattle.passes_table.specs.declared.table.LocatedPasses.{LocatedPasses}
use Rattle.passes_table.specs.declared.table.PassRow.{PassRow}
use Rattle.passes_table.specs.Located.{ArePassesHeld, located_passes, row_pass}
use Rattle.passes_table.proofs.LastRows.{no_pass}

-- A row of a table, with parts that were copied from its payload.
pub record IsCopied (segments : List (List ℕ)) (table : LocatedPasses) (number : ℕ) (row : PassRow) (bytes : List ℕ) (run : TestRun) (simulator : List (List ℕ)) : Type 0 where
  pub low : number < length table.rows.items
  pub is : get_or table.rows.items number row ≡ row
  pub bytes_are : bytes ≡ nth_payload segments row.payload
  pub run_is : run ≡ run_in_ranges bytes row.run
  pub simulator_is : simulator ≡ counted_words bytes row.simulator

module _ (segments : List (List ℕ)) (table : LocatedPasses) (number : ℕ) (row : PassRow) (bytes : List ℕ) (run : TestRun) (simulator : List (List ℕ)) (copied : IsCopied segments table number row bytes run simulator) where
  abbrev lists : List (List BuiltFile)
  lists = (located_passes segments table).lists

  abbrev passes : List Pass
  passes = (located_passes segments table).passes

  pub row_low : number < length passes
  row_low = omega (arith, copied.low, length-map table.rows.items (row_pass segments lists))

  row_at : get_or passes number no_pass ≡ row_pass segments lists row
  row_at = get_or-map (row_pass segments lists) table.rows.items number row no_pass copied.low ∙ ap (row_pass segments lists) copied.is

  abbrev made : List ℕ → Pass
  made output = record { run = run; simulator = simulator; built = get_or lists row.list []; output = output }

  parts_of_row : (output : List ℕ) → output ≡ ranged bytes row.output → made output ≡ row_pass segments lists row
  parts_of_row output output_is =
      ap (λ (r : TestRun). record { run = r; simulator = simulator; built = get_or lists row.list []; output = output }) copied.run_is
      ∙ ap (λ (s : List (List ℕ)). record { run = run_in_ranges bytes row.run; simulator = s; built = get_or lists row.list []; output = output }) copied.simulator_is
      ∙ ap (λ (o : List ℕ). record { run = run_in_ranges bytes row.run; simulator = counted_words bytes row.simulator; built = get_or lists row.list []; output = o }) output_is
      ∙ ap (λ (b : List ℕ). record { run = run_in_ranges b row.run; simulator = counted_words b row.simulator; built = get_or lists row.list []; output = ranged b row.output }) copied.bytes_are

  pub parts_at : (output : List ℕ) → output ≡ ranged bytes row.output → made output ≡ get_or passes number no_pass
  parts_at output output_is = parts_of_row output output_is ∙ sym row_at

  -- the copied parts are within their limits
  pub parts_fit : ArePassesHeld segments table → (output : List ℕ) → output ≡ ranged bytes row.output → FitsPass (made output)
  parts_fit held output output_is =
      let all : All FitsPass passes = subst (λ (t : PassTable). All FitsPass t.passes) (sym held.is) (passes_fit segments) in
      subst FitsPass (sym (parts_at output output_is)) (all number no_pass row_low)

  -- the test of the copied parts is that of the pass
  pub superseded_at : (superseded : Bool) → superseded ≡ list_any (is_of_tests run simulator) (drop (number + 1) passes) → is_superseded (drop (suc number) passes) (get_or passes number no_pass) ≡ superseded
  superseded_at superseded tested =
      let next : suc number ≡ number + 1 = omega arith in
      ap (λ (p : Pass). is_superseded (drop (suc number) passes) p) (sym (parts_at (ranged bytes row.output) (λ i. ranged bytes row.output)))
      ∙ ap (λ (n : ℕ). list_any (is_of_tests run simulator) (drop n passes)) next
      ∙ sym tested
