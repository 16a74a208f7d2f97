use Rattle.std.proofs.Common.{◌≡◌, ◌<◌, ◌^◌, ℕ, List, length, Some, sym, ap, subst, ◌∙◌, refl, arith, length-append}
use Rattle.std.proofs.lemmas.List.{length-map}
use Rattle.std.proofs.lemmas.Option.{slice_get_within}
use Rattle.base.specs.Names.{FitsCommand}
use Rattle.base.specs.declared.file.FileName.{FileName}
use Rattle.base_collections.specs.Numbers.{IsIndexOf}
use Rattle.testbench_runs.specs.Runs.{FitsRun}
use Rattle.store_table.specs.Located.{located_text, located_texts}
use Rattle.passes_codec.specs.Forms.{ListRef, pass_in}
use Rattle.passes_codec.specs.Forms.ListRef.{KnownList, NewList}
use Rattle.passes_codec.specs.Ranges.{HasFilesAt, pass_in_ranges}
use Rattle.passes_codec.proofs.Spelling.{pass_again}
use Rattle.passes_table.specs.Located.{ArePassesLocated, listed_files}
use Rattle.passes_table.specs.Next.{HasPartsOfPass, draft_of_parts}
use Rattle.passes_table.specs.Pending.{IsPending, all_texts, fresh_in}
use Rattle.passes_table.specs.Additions.{AreRowsOf, IsFoundList, IsListPart}
use Rattle.passes_table.proofs.NextPasses.{known_told, new_built, new_files, new_ref, new_rows, new_spelled, new_texts, next_is}
use Rattle.passes_table.proofs.PassBytes.{pass_spelled}
use Rattle.passes_table.proofs.writing.next_pass.Goals as goal
use Rattle.passes_table.proofs.writing.next_pass.Goals.{Start}

abbrev known_texts : (c : Start) → List (List ℕ)
known_texts c = located_texts c.args.held.now.segments c.args.table.now.texts

run_fits : (c : Start) → FitsRun c.args.parts.run.now
run_fits c = record { library = c.requires.parts.run.library; bench = c.requires.parts.run.bench; architecture = c.requires.parts.run.architecture; few = c.requires.parts.run.few; cases = c.requires.parts.run.cases; path = c.requires.parts.run.path }

simulator_fits : (c : Start) → FitsCommand c.args.parts.simulator.now
simulator_fits c = record { count = c.requires.parts.simulator.count; words = c.requires.parts.simulator.words }

are_located : (c : Start) → ArePassesLocated c.args.held.now.segments c.args.table.now
are_located c = record { texts = c.requires.table.texts; lists = c.requires.table.lists; rows = c.requires.table.rows; names_once = c.requires.table.names_once; latest = c.requires.table.latest }

is_pending : (c : Start) → IsPending c.args.table.now.names.keys (known_texts c) c.args.list.now
is_pending c = record { located = c.requires.list.located; apart = c.requires.list.apart; rows = c.requires.list.rows; in_order = c.requires.list.in_order; all = c.requires.list.all; few = c.requires.list.few; fits = c.requires.list.fits }

pub next_of-requires : goal.next_of-requires
next_of-requires c =
    let start = (goal.at.next_of-requires c).Start in
    let ref : ListRef = KnownList c.in-Some.number in
    let read : pass_in c.in_ok-segment-in-Some.segment ≡ Some (draft_of_parts c.args.parts ref) = ap pass_in c.in_ok-segment-in-Some.ensures ∙ pass_again (draft_of_parts c.args.parts ref) (pass_spelled c.args.parts.run.now c.args.parts.simulator.now ref c.args.parts.output.now (run_fits start) (simulator_fits start) (omega (arith, c.number.type_inv)) c.requires.parts.output) in
    (draft_of_parts c.args.parts ref, read)

pub next_of-requires-in-None : goal.next_of-requires-in-None
next_of-requires-in-None c =
    let start = (goal.at.next_of-requires-in-None c).Start in
    let list = c.args.list.now in
    let names : List FileName = c.args.table.now.names.keys in
    let ref : ListRef = NewList (new_files names (known_texts start) list) in
    let few : length (all_texts (known_texts start) list) < 2 ^ 64 = omega (arith, c.total_of-total.ensures c.args.held.now.segments, c.total_of-total.type_inv) in
    let read : pass_in c.in_ok-segment-in-None.segment ≡ Some (draft_of_parts c.args.parts ref) = ap pass_in c.in_ok-segment-in-None.ensures ∙ pass_again (draft_of_parts c.args.parts ref) (pass_spelled c.args.parts.run.now c.args.parts.simulator.now ref c.args.parts.output.now (run_fits start) (simulator_fits start) (new_spelled names (known_texts start) list (is_pending start) few) c.requires.parts.output) in
    (draft_of_parts c.args.parts ref, read)

pub returns-in_ok-segment-in-Some : goal.returns-in_ok-segment-in-Some
returns-in_ok-segment-in-Some c =
    let start = (goal.at.returns-in_ok-segment-in-Some c).Start in
    let table = c.args.table.now in
    let list = c.args.list.now in
    let ref : ListRef = KnownList c.in-Some.number in
    let read : pass_in c.in_ok-segment-in-Some.segment ≡ Some (draft_of_parts c.args.parts ref) = ap pass_in c.in_ok-segment-in-Some.ensures ∙ pass_again (draft_of_parts c.args.parts ref) (pass_spelled c.args.parts.run.now c.args.parts.simulator.now ref c.args.parts.output.now (run_fits start) (simulator_fits start) (omega (arith, c.number.type_inv)) c.requires.parts.output) in
    let next = c.next_of.result in
    let same : next.segment ≡ c.in_ok-segment-in-Some.segment = c.next_of.ensures.segment in
    let spelled : pass_in next.segment ≡ Some (pass_in_ranges next.segment next.addition.draft) = subst (λ (bs : List ℕ). pass_in bs ≡ Some (pass_in_ranges bs next.addition.draft)) (sym same) c.next_of.ensures.read in
    let files : HasFilesAt next.segment next.addition.draft.list = subst (λ (bs : List ℕ). HasFilesAt bs next.addition.draft.list) (sym same) c.next_of.ensures.files in
    let parts : HasPartsOfPass c.args.parts = record { run = (run_fits start); simulator = (simulator_fits start); output = c.requires.parts.output } in
    let at = subst (IsIndexOf table.lists.keys list.row) c.in-Some.is c.number.ensures in
    let low = slice_get_within table.lists.keys c.in-Some.number list.row at in
    let found : IsFoundList table.names.keys (known_texts start) ref next.addition.list = record { part = subst (IsListPart table.names.keys (known_texts start) ref) (sym c.next_of.ensures.part) refl; count = omega (arith, c.next_of.ensures.count) } in
    next_is c.args.held.now.segments table list c.args.parts ref next parts (omega (arith, low, length-map table.lists.keys (listed_files table.names.keys (known_texts start)))) (known_told c.args.held.now.segments table list c.in-Some.number (are_located start) at) found tt (omega (arith, c.next_of.ensures.count)) (ap pass_in same ∙ read) spelled files

pub returns-in_ok-segment-in-None : goal.returns-in_ok-segment-in-None
returns-in_ok-segment-in-None c =
    let start = (goal.at.returns-in_ok-segment-in-None c).Start in
    let table = c.args.table.now in
    let list = c.args.list.now in
    let ref : ListRef = NewList (new_files table.names.keys (known_texts start) list) in
    let few : length (all_texts (known_texts start) list) < 2 ^ 64 = omega (arith, c.total_of-total.ensures c.args.held.now.segments, c.total_of-total.type_inv) in
    let read : pass_in c.in_ok-segment-in-None.segment ≡ Some (draft_of_parts c.args.parts ref) = ap pass_in c.in_ok-segment-in-None.ensures ∙ pass_again (draft_of_parts c.args.parts ref) (pass_spelled c.args.parts.run.now c.args.parts.simulator.now ref c.args.parts.output.now (run_fits start) (simulator_fits start) (new_spelled table.names.keys (known_texts start) list (is_pending start) few) c.requires.parts.output) in
    let next = c.next_of-in-None.result in
    let same : next.segment ≡ c.in_ok-segment-in-None.segment = c.next_of-in-None.ensures.segment in
    let spelled : pass_in next.segment ≡ Some (pass_in_ranges next.segment next.addition.draft) = subst (λ (bs : List ℕ). pass_in bs ≡ Some (pass_in_ranges bs next.addition.draft)) (sym same) c.next_of-in-None.ensures.read in
    let files : HasFilesAt next.segment next.addition.draft.list = subst (λ (bs : List ℕ). HasFilesAt bs next.addition.draft.list) (sym same) c.next_of-in-None.ensures.files in
    let parts : HasPartsOfPass c.args.parts = record { run = (run_fits start); simulator = (simulator_fits start); output = c.requires.parts.output } in
    let never = subst (IsIndexOf table.lists.keys list.row) c.in-None.is c.number.ensures in
    let count : next.addition.list.count ≡ length (fresh_in list.fresh) = omega (arith, c.next_of-in-None.ensures.count, c.len-count.ensures, length-map list.fresh.texts.indices.items (located_text list.fresh.held.segments)) in
    let row : AreRowsOf table.names.keys (known_texts start) (new_files table.names.keys (known_texts start) list) c.in_ok-row-in-None.row = subst (AreRowsOf table.names.keys (known_texts start) (new_files table.names.keys (known_texts start) list)) (sym c.in_ok-row-in-None.ensures) (new_rows table.names.keys (known_texts start) list (is_pending start)) in
    let found : IsFoundList table.names.keys (known_texts start) ref next.addition.list = record { part = subst (IsListPart table.names.keys (known_texts start) ref) (sym c.next_of-in-None.ensures.part) row; count = omega (arith, ap length (new_texts table.names.keys (known_texts start) list (is_pending start)), length-append (known_texts start) (fresh_in list.fresh), count) } in
    next_is c.args.held.now.segments table list c.args.parts ref next parts (new_ref c.args.held.now.segments table list (are_located start) (is_pending start) never) (new_built table.names.keys (known_texts start) list (is_pending start)) found (new_texts table.names.keys (known_texts start) list (is_pending start)) (omega (arith, count)) (ap pass_in same ∙ read) spelled files
