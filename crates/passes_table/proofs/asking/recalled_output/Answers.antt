use Rattle.std.proofs.Common.{◌≡◌, ◌<◌, ℕ, List, [], length, map, Some, true≢false, sym, ap, subst, ◌∙◌, arith}
use Rattle.std.specs.Prelude.{slice_get}
use Rattle.std.proofs.lemmas.List.{get_or-map, length-map}
use Rattle.std.proofs.lemmas.Option.{get_or_from_slice_get, slice_get-get_or}
use Rattle.base.specs.declared.graph.BuiltFile.{BuiltFile}
use Rattle.base_bytes.specs.Ranges.{ranged}
use Rattle.store_table.specs.Located.{located_texts, nth_payload}
use Rattle.passes_spec.specs.Passes.{Pass}
use Rattle.passes_table.specs.declared.table.PassRow.{PassRow}
use Rattle.passes_table.specs.Located.{ArePassesLocated, IsPassRow, listed_files, row_pass}
use Rattle.passes_table.specs.Pending.{IsPending, pending_files}
use Rattle.passes_table.specs.States.{IsLastRow}
use Rattle.passes_table.proofs.LastRows.{no_pass}
use Rattle.passes_table.proofs.Recalled.{recalled_list, recalled_rest, recalled_some}
use Rattle.passes_table.proofs.asking.recalled_output.Goals as goal
use Rattle.passes_table.proofs.asking.recalled_output.Goals.{Start}
use Rattle.passes_table.proofs.asking.recalled_output.Goals.{After-index-row}

abbrev lists : (c : After-index-row) → List (List BuiltFile)
lists c = map (listed_files c.args.table.now.names.keys (located_texts c.args.held.now.segments c.args.table.now.texts)) c.args.table.now.lists.keys

abbrev passes : (c : After-index-row) → List Pass
passes c = map (row_pass c.args.held.now.segments (lists c)) c.args.table.now.rows.items

is_last : (c : After-index-row) → IsLastRow (passes c) c.args.run.now c.args.simulator.now (Some c.in-Some.number)
is_last c = subst (IsLastRow (passes c) c.args.run.now c.args.simulator.now) c.in-Some.is c.last_row.ensures

is_low : (c : After-index-row) → c.in-Some.number < length c.args.table.now.rows.items
is_low c = omega (arith, (is_last c).0, length-map c.args.table.now.rows.items (row_pass c.args.held.now.segments (lists c)))

found_at : (c : After-index-row) → slice_get (passes c) c.in-Some.number ≡ Some (row_pass c.args.held.now.segments (lists c) c.index-row.result.now)
found_at c =
    let segments : List (List ℕ) = c.args.held.now.segments in
    let number : ℕ = c.in-Some.number in
    slice_get-get_or (passes c) number no_pass (is_last c).0 ∙ ap Some (get_or-map (row_pass segments (lists c)) c.args.table.now.rows.items number c.index-row.result.now no_pass (is_low c) ∙ ap (row_pass segments (lists c)) (sym c.index-row.ensures))

are_located : (c : Start) → ArePassesLocated c.args.held.now.segments c.args.table.now
are_located c = record { texts = c.requires.table.texts; lists = c.requires.table.lists; rows = c.requires.table.rows; names_once = c.requires.table.names_once; latest = c.requires.table.latest }

is_pending : (c : Start) → IsPending c.args.table.now.names.keys (located_texts c.args.held.now.segments c.args.table.now.texts) c.args.list.now
is_pending c = record { located = c.requires.list.located; apart = c.requires.list.apart; rows = c.requires.list.rows; in_order = c.requires.list.in_order; all = c.requires.list.all; few = c.requires.list.few; fits = c.requires.list.fits }

pub returns-then-not-is_of_run-clause-output : goal.returns-then-not-is_of_run-clause-output
returns-then-not-is_of_run-clause-output c =
    let step = (goal.at.returns-then-not-is_of_run-clause-output c).After-index-row in
    let segments : List (List ℕ) = c.args.held.now.segments in
    let table = c.args.table.now in
    let texts : List (List ℕ) = located_texts segments table.texts in
    sym (recalled_rest (passes step) c.args.run.now c.args.simulator.now (pending_files table.names.keys texts c.args.list.now) c.in-Some.number (row_pass segments (lists step) c.index-row.result.now) (is_last step) (found_at step) (λ is. true≢false (sym ((c.is_of_run.ensures (lists step)).1 is) ∙ c.if-not-is_of_run.true)))

pub returns-then-not-is_list-clause-output : goal.returns-then-not-is_list-clause-output
returns-then-not-is_list-clause-output c =
    let start = (goal.at.returns-then-not-is_list-clause-output c).Start in
    let step = (goal.at.returns-then-not-is_list-clause-output c).After-index-row in
    let segments : List (List ℕ) = c.args.held.now.segments in
    let table = c.args.table.now in
    let texts : List (List ℕ) = located_texts segments table.texts in
    sym (recalled_list (passes step) c.args.run.now c.args.simulator.now (pending_files table.names.keys texts c.args.list.now) c.in-Some.number (row_pass segments (lists step) c.index-row.result.now) (is_last step) (found_at step) (λ is. true≢false (sym ((c.is_list.ensures segments (are_located start) (is_pending start)).1 is) ∙ c.if-not-is_list.true)))

pub returns-clause-output : goal.returns-clause-output
returns-clause-output c =
    let start = (goal.at.returns-clause-output c).Start in
    let step = (goal.at.returns-clause-output c).After-index-row in
    let segments : List (List ℕ) = c.args.held.now.segments in
    let table = c.args.table.now in
    let texts : List (List ℕ) = located_texts segments table.texts in
    let row : PassRow = c.index-row.result.now in
    let bytes : c.get.result.now ≡ nth_payload segments row.payload = sym (get_or_from_slice_get segments row.payload c.get.result.now [] c.get.ensures) in
    let output : c.bytes_in.result.now ≡ (row_pass segments (lists step) row).output = c.bytes_in.ensures ∙ ap (λ (bs : List ℕ). ranged bs row.output) bytes in
    ap Some output
    ∙ sym (recalled_some (passes step) c.args.run.now c.args.simulator.now (pending_files table.names.keys texts c.args.list.now) c.in-Some.number (row_pass segments (lists step) row) (is_last step) (found_at step) ((c.is_of_run.ensures (lists step)).0 c.if-not-is_of_run.false) ((c.is_list.ensures segments (are_located start) (is_pending start)).0 c.if-not-is_list.false))

pub returns-clause-small : goal.returns-clause-small
returns-clause-small c =
    let segments : List (List ℕ) = c.args.held.now.segments in
    let table = c.args.table.now in
    let row : PassRow = c.index-row.result.now in
    let is : IsPassRow segments table.lists.keys row = subst (IsPassRow segments table.lists.keys) (sym c.index-row.ensures) (c.requires.table.rows c.in-Some.number row (is_low ((goal.at.returns-clause-small c).After-index-row))) in
    let bytes : c.get.result.now ≡ nth_payload segments row.payload = sym (get_or_from_slice_get segments row.payload c.get.result.now [] c.get.ensures) in
    let output : c.bytes_in.result.now ≡ ranged (nth_payload segments row.payload) row.output = c.bytes_in.ensures ∙ ap (λ (bs : List ℕ). ranged bs row.output) bytes in
    omega (arith, is.small, ap length output)
