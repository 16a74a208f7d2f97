use Rattle.std.proofs.Common.{◌≡◌, ◌+◌, ℕ, List, ◌∷◌, ◌++◌, length, ap, sym, subst, ◌∙◌, arith}
use Rattle.std.specs.Prelude.{IfOk}
use Rattle.std.specs.List.{flat_map}
use Rattle.base.specs.Bytes.{number_bytes, text_bytes}
use Rattle.base.specs.declared.file.FileName.{FileName}
use Rattle.testbench_runs.specs.BenchJobs.{texts_bytes}
use Rattle.store_journal.proofs.Framed.{framed, unframed}
use Rattle.store_table.specs.Located.{located_texts}
use Rattle.passes_codec.specs.Forms.{FileDraft, file_bytes, pass_bytes, run_bytes}
use Rattle.passes_codec.specs.Forms.ListRef.{NewList}
use Rattle.passes_table.specs.Pending.{all_texts, row_drafts}
use Rattle.passes_table.proofs.PassBytes.{new_frame, new_length}
use Rattle.passes_table.proofs.RowDrafts.{drafts_length}
use Rattle.passes_table.proofs.writing.new_payload.Goals as goal
use Rattle.passes_table.proofs.writing.new_payload.Goals.{In_ok-put_output}

abbrev new_files : (c : In_ok-put_output) → List FileDraft
new_files c = row_drafts (c.args.table.now.names.keys) (all_texts (located_texts c.args.held.now.segments c.args.table.now.texts) c.args.list.now) (length (located_texts c.args.held.now.segments c.args.table.now.texts)) c.args.list.now.row.files

abbrev frame_size : (c : In_ok-put_output) → ℕ
frame_size c = length c.bytes.result.now + 5 + c.files_size.result + 4 + length c.args.parts.output.now

abbrev pass_payload : (c : In_ok-put_output) → List ℕ
pass_payload c = pass_bytes (record { run = c.args.parts.run.now; simulator = c.args.parts.simulator.now; list = NewList (new_files c); output = c.args.parts.output.now })

is_framed : (c : In_ok-put_output) → c.put_output.new.out ≡ number_bytes (frame_size c) ++ pass_bytes (record { run = c.args.parts.run.now; simulator = c.args.parts.simulator.now; list = NewList (new_files c); output = c.args.parts.output.now })
is_framed c =
    let table = c.args.table.now in
    let names : List FileName = table.names.keys in
    let texts : List (List ℕ) = located_texts c.args.held.now.segments table.texts in
    let all : List (List ℕ) = all_texts texts c.args.list.now in
    let output : List ℕ = c.args.parts.output.now in
    let count : c.len.result ≡ length (new_files c) = c.len.ensures ∙ sym (drafts_length names all (length texts) c.args.list.now.row.files) in
    let written = c.in_ok-put_output.ensures ∙ ap (λ (bs : List ℕ). bs ++ text_bytes output) (c.in_ok-put_files.ensures ∙ ap (λ (bs : List ℕ). bs ++ flat_map file_bytes (new_files c)) (c.in_ok-put_list_start.ensures ∙ ap (λ (bs : List ℕ). bs ++ 1 ∷ number_bytes c.len.result) (c.in_ok-plain.ensures ∙ ap (λ (bs : List ℕ). bs ++ c.bytes-2.result.now) c.in_ok-frame.ensures ∙ ap (λ (bs : List ℕ). number_bytes (frame_size c) ++ bs) (c.bytes-2.ensures ∙ c.in_ok-head.ensures.is)))) in
    new_frame c.put_output.new.out (frame_size c) c.len.result c.args.parts.run.now c.args.parts.simulator.now (new_files c) output count written

payload_length : (c : In_ok-put_output) → length (pass_payload c) ≡ length (run_bytes c.args.parts.run.now ++ texts_bytes c.args.parts.simulator.now) + 5 + length (flat_map file_bytes (new_files c)) + 4 + length c.args.parts.output.now
payload_length c = new_length c.args.parts.run.now c.args.parts.simulator.now (new_files c) c.args.parts.output.now

head_length : (c : In_ok-put_output) → length c.bytes.result.now ≡ length (run_bytes c.args.parts.run.now ++ texts_bytes c.args.parts.simulator.now)
head_length c = ap length (c.bytes.ensures ∙ c.in_ok-head.ensures.is)

pub of-requires-clause-length : goal.of-requires-clause-length
of-requires-clause-length c =
    let step = (goal.at.of-requires-clause-length c).In_ok-put_output in
    framed c.put_output.new.out (pass_payload step) (frame_size step) (is_framed step) (omega (arith, (payload_length step), (head_length step), c.files_size.ensures.is))

pub of-requires-clause-small : goal.of-requires-clause-small
of-requires-clause-small c =
    let step = (goal.at.of-requires-clause-small c).In_ok-put_output in
    omega (arith, ap length (unframed c.put_output.new.out (pass_payload step) (frame_size step) (is_framed step)), (payload_length step), (head_length step), ap length c.bytes.ensures, c.in_ok-head.ensures.small, c.files_size.ensures.is, c.files_size.ensures.small, c.requires.parts.output)

pub returns : goal.returns
returns c =
    let step = (goal.at.returns c).In_ok-put_output in
    subst (λ (p : List ℕ). IfOk c.of.result (λ ready. ready ≡ p)) (unframed c.put_output.new.out (pass_payload step) (frame_size step) (is_framed step)) c.of.ensures
