use Rattle.std.proofs.Common.{◌-◌, ◌≤◌, ◌^◌, ℕ, List, min, length, refl, ap, ◌∙◌, arith}
use Rattle.std.specs.List.{flat_map}
use Rattle.std.proofs.lemmas.List.{length-map}
use Rattle.store_journal.specs.Payloads.{block}
use Rattle.passes_codec.specs.Compaction.{compacted_passes}
use Rattle.passes_codec.specs.PassTables.{PassTable}
use Rattle.passes_table.specs.Located.{located_passes, row_pass}
use Rattle.passes_table.proofs.KeptAll.{counted_first, counted_last}
use Rattle.passes_table.proofs.counting.kept_length.Goals as goal

pub loop-number-init : goal.loop-number-init
loop-number-init c =
    let made = c.in_ok-no_numbers.ensures.are c.args.held.now.segments in
    record {
      are = record { lists = made.lists; texts = made.texts };
      same = counted_first (located_passes c.args.held.now.segments c.args.table.now) (record { bytes = 0; numbers = c.in_ok-no_numbers.field-0 }) (located_passes c.args.held.now.segments c.args.table.now).passes refl (c.in_ok-no_numbers.ensures.none c.args.held.now.segments) ∙ ap (λ (t : PassTable). min (2 ^ 64 - 1) (length (flat_map block (compacted_passes t.passes)))) c.requires.is;
    }

pub returns : goal.returns
returns c =
    let segments : List (List ℕ) = c.args.held.now.segments in
    let table = c.args.table.now in
    let there : PassTable = located_passes segments table in
    let all : length there.passes ≤ c.loop-number.number = omega (arith, c.loop-number-test.false, c.len-number-end.ensures, length-map table.rows.items (row_pass segments there.lists)) in
    omega (arith, counted_last there c.loop-number.counted there.passes c.loop-number.number all, c.loop-number.invariant.same, c.saturating_add.ensures)
