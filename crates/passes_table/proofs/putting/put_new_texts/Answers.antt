use Rattle.std.proofs.Common.{◌∷◌, ◌++◌, ◌≡◌, ℕ, List, [], length, drop, true, None, Some, sym, ap, subst, ◌∙◌, arith}
use Rattle.std.specs.Prelude.{⊤}
use Rattle.std.specs.Int.{w32}
use Rattle.std.proofs.lemmas.Option.{get_or_from_slice_get}
use Rattle.base_bytes.specs.Reading.{number_at}
use Rattle.base_bytes.specs.Ranges.{IsReadAt}
use Rattle.base_bytes.specs.TextRefs.{is_text_ref, with_text}
use Rattle.store_table.specs.Located.{located_texts, nth_payload}
use Rattle.passes_codec.specs.Forms.{FileDraft, file_at}
use Rattle.passes_codec.specs.PassTables.{with_list_texts}
use Rattle.passes_codec.specs.Ranges.{counted_files, file_in_ranges}
use Rattle.passes_table.proofs.Files.{IsFileAt, files_begin, files_end, files_go_on, files_rest, files_stop, no_files_count}
use Rattle.passes_table.proofs.NewLists.{next_fits, next_ref, texts_none, texts_push}
use Rattle.passes_table.proofs.putting.put_new_texts.Goals as goal
use Rattle.passes_table.proofs.putting.put_new_texts.Goals.{In-Some-file_range}
use Rattle.passes_table.proofs.putting.put_new_texts.Goals.{After-get-bytes}

abbrev Texts : (segments : List (List ℕ)) → (texts : List (List ℕ)) → (now : List (List ℕ)) → List FileDraft → Type 0
Texts segments texts now files = now ≡ with_list_texts texts files

bytes_are : (c : After-get-bytes) → c.get-bytes.result.now ≡ nth_payload c.args.held.now.segments c.args.at
bytes_are c = sym (get_or_from_slice_get c.args.held.now.segments c.args.at c.get-bytes.result.now [] c.get-bytes.ensures)

found_file : (c : In-Some-file_range) → IsFileAt (nth_payload c.args.held.now.segments c.args.at) c.loop.next c.in-Some-file_range.file c.in-Some-file_range.end
found_file c =
    let segments : List (List ℕ) = c.args.held.now.segments in
    let bytes : c.get-bytes.result.now ≡ nth_payload segments c.args.at = sym (get_or_from_slice_get segments c.args.at c.get-bytes.result.now [] c.get-bytes.ensures) in
    subst (λ (bs : List ℕ). IsFileAt bs c.loop.next c.in-Some-file_range.file c.in-Some-file_range.end) bytes c.in-Some-file_range.ensures

abbrev file_here : (c : In-Some-file_range) → FileDraft
file_here c = file_in_ranges (nth_payload c.args.held.now.segments c.args.at) c.in-Some-file_range.file

rest_of : (c : In-Some-file_range) → (others : List FileDraft) × (counted_files (nth_payload c.args.held.now.segments c.args.at) c.args.range ≡ (c.loop.invariant.files.files ++ (file_here c) ∷ []) ++ others)
rest_of c =
    let segments : List (List ℕ) = c.args.held.now.segments in
    let texts : List (List ℕ) = located_texts segments c.args.texts.now in
    let payload : List ℕ = nth_payload segments c.args.at in
    files_rest (Texts segments texts (located_texts segments c.loop.texts)) payload c.args.range c.requires.files c.in-Some.count c.loop.counter c.loop.next c.in-Some-file_range.end (file_here c) c.loop.invariant.files c.loop-test.true (found_file c).0

pub returns-in_default-clause-is : goal.returns-in_default-clause-is
returns-in_default-clause-is c =
    let segments : List (List ℕ) = c.args.held.now.segments in
    let none : number_at w32 (drop c.args.range.start (nth_payload segments c.args.at)) ≡ None = ap (λ (bs : List ℕ). number_at w32 (drop c.args.range.start bs)) (sym (bytes_are ((goal.at.returns-in_default-clause-is c).After-get-bytes))) ∙ c.in_default.ensures in
    absurd (no_files_count (λ files. ⊤) (nth_payload segments c.args.at) c.args.range c.requires.files none)

pub loop-init : goal.loop-init
loop-init c =
    let segments : List (List ℕ) = c.args.held.now.segments in
    let texts : List (List ℕ) = located_texts segments c.args.texts.now in
    let read = subst (λ (bs : List ℕ). IsReadAt c.args.range.start (λ (n : ℕ). n) bs (Some (c.in-Some.count, c.in-Some.first)) (number_at w32 (drop c.args.range.start bs))) (bytes_are ((goal.at.loop-init c).After-get-bytes)) c.in-Some.ensures in
    record {
      texts = record { within = c.requires.texts.within; split = c.requires.texts.split };
      room = omega arith;
      files = files_begin (Texts segments texts texts) (nth_payload segments c.args.at) c.args.range c.requires.files c.in-Some.count c.in-Some.first read (texts_none texts);
    }

pub returns-in_default-file_range-clause-is : goal.returns-in_default-file_range-clause-is
returns-in_default-file_range-clause-is c =
    let segments : List (List ℕ) = c.args.held.now.segments in
    let texts : List (List ℕ) = located_texts segments c.args.texts.now in
    let none = ap (λ (bs : List ℕ). file_at (drop c.loop.next bs)) (sym (bytes_are ((goal.at.returns-in_default-file_range-clause-is c).After-get-bytes))) ∙ c.in_default-file_range.ensures in
    absurd (files_stop (Texts segments texts (located_texts segments c.loop.texts)) (nth_payload segments c.args.at) c.args.range c.requires.files c.in-Some.count c.loop.counter c.loop.next c.loop.invariant.files c.loop-test.true none)

pub put_artefact-requires-clause-source : goal.put_artefact-requires-clause-source
put_artefact-requires-clause-source c =
    let step = (goal.at.put_artefact-requires-clause-source c).In-Some-file_range in
    let files = c.loop.invariant.files in
    subst (λ (ts : List (List ℕ)). is_text_ref ts (file_here step).artefact ≡ true) (sym files.holds) (next_ref (located_texts c.args.held.now.segments c.args.texts.now) files.files (rest_of step).0 (counted_files (nth_payload c.args.held.now.segments c.args.at) c.args.range) (file_here step) (rest_of step).1 c.requires.valid)

pub put_artefact-requires-clause-room : goal.put_artefact-requires-clause-room
put_artefact-requires-clause-room c =
    let step = (goal.at.put_artefact-requires-clause-room c).In-Some-file_range in
    let files = c.loop.invariant.files in
    let fits = next_fits (located_texts c.args.held.now.segments c.args.texts.now) files.files (rest_of step).0 (counted_files (nth_payload c.args.held.now.segments c.args.at) c.args.range) (file_here step) (rest_of step).1 in
    omega (arith, fits, ap (λ (ts : List (List ℕ)). length (with_text ts (file_here step).artefact)) files.holds, c.requires.room, c.loop.invariant.room)

pub loop-preserved : goal.loop-preserved
loop-preserved c =
    let step = (goal.at.loop-preserved c).In-Some-file_range in
    let segments : List (List ℕ) = c.args.held.now.segments in
    let texts : List (List ℕ) = located_texts segments c.args.texts.now in
    let payload : List ℕ = nth_payload segments c.args.at in
    record {
      texts = c.put_artefact.ensures.are;
      room = omega (arith, c.loop.invariant.room, c.put_artefact.ensures.room);
      files = files_go_on (Texts segments texts (located_texts segments c.loop.texts)) payload c.args.range c.requires.files (Texts segments texts (located_texts segments c.put_artefact.new.texts)) c.in-Some.count c.loop.counter c.loop.next c.in-Some-file_range.end (file_here step) c.loop.invariant.files c.loop-test.true (found_file step).0 (found_file step).2
          (λ files e. c.put_artefact.ensures.is ∙ ap (λ (ts : List (List ℕ)). with_text ts (file_here step).artefact) e ∙ sym (texts_push texts files (file_here step)));
    }

pub returns-clause-is : goal.returns-clause-is
returns-clause-is c =
    let segments : List (List ℕ) = c.args.held.now.segments in
    let texts : List (List ℕ) = located_texts segments c.args.texts.now in
    let files = c.loop.invariant.files in
    files.holds ∙ ap (with_list_texts texts) (sym (files_end (Texts segments texts (located_texts segments c.loop.texts)) (nth_payload segments c.args.at) c.args.range c.requires.files c.in-Some.count c.loop.counter c.loop.next files c.loop-test.false))

pub file_range-requires : goal.file_range-requires
file_range-requires c =
    omega (arith, c.loop.invariant.files.within, ap length (bytes_are ((goal.at.file_range-requires c).After-get-bytes)))
