use Rattle.std.proofs.Common.{◌≡◌, Bool, ℕ, List, [], length, drop, None, Some, refl, sym, ap, subst, ◌∙◌, arith}
use Rattle.std.specs.Prelude.{⊤}
use Rattle.std.specs.Int.{w32}
use Rattle.std.proofs.lemmas.Option.{get_or_from_slice_get}
use Rattle.base.specs.declared.file.FileName.{FileName}
use Rattle.base_bytes.specs.Reading.{number_at}
use Rattle.base_bytes.specs.Ranges.{IsReadAt}
use Rattle.store_table.specs.Located.{located_texts, nth_payload}
use Rattle.passes_codec.specs.Forms.{FileDraft, file_at}
use Rattle.passes_codec.specs.Ranges.{counted_files, file_in_ranges}
use Rattle.passes_table.specs.declared.checking.ListSoFar.{ListSoFar}
use Rattle.passes_table.specs.Additions.{AreListed, IsListedNext}
use Rattle.passes_table.proofs.Checks.{none_listed}
use Rattle.passes_table.proofs.Counts.{files_count}
use Rattle.passes_table.proofs.Files.{IsFileAt, files_begin, files_end, files_go_on, files_rest, files_stop, no_files_count}
use Rattle.passes_table.proofs.NewLists.{next_not}
use Rattle.passes_table.proofs.checking.listed_files.Goals as goal
use Rattle.passes_table.proofs.checking.listed_files.Goals.{After-get-bytes}

abbrev Listed : (segments : List (List ℕ)) → List FileName → List (List ℕ) → ListSoFar → List FileDraft → Type 0
Listed segments names texts list files = AreListed segments names texts files list

bytes_are : (c : After-get-bytes) → c.get-bytes.result.now ≡ nth_payload c.args.held.now.segments c.args.at
bytes_are c = sym (get_or_from_slice_get c.args.held.now.segments c.args.at c.get-bytes.result.now [] c.get-bytes.ensures)

pub returns-in_default-clause-listed : goal.returns-in_default-clause-listed
returns-in_default-clause-listed c =
    let segments : List (List ℕ) = c.args.held.now.segments in
    let none : number_at w32 (drop c.args.range.start (nth_payload segments c.args.at)) ≡ None = ap (λ (bs : List ℕ). number_at w32 (drop c.args.range.start bs)) (sym (bytes_are ((goal.at.returns-in_default-clause-listed c).After-get-bytes))) ∙ c.in_default.ensures in
    absurd (no_files_count (λ files. ⊤) (nth_payload segments c.args.at) c.args.range c.requires.files none)

pub returns-then-count-gt-FILE_LIMIT-clause-listed : goal.returns-then-count-gt-FILE_LIMIT-clause-listed
returns-then-count-gt-FILE_LIMIT-clause-listed c =
    let segments : List (List ℕ) = c.args.held.now.segments in
    let read = subst (λ (bs : List ℕ). IsReadAt c.args.range.start (λ (n : ℕ). n) bs (Some (c.in-Some.count, c.in-Some.first)) (number_at w32 (drop c.args.range.start bs))) (bytes_are ((goal.at.returns-then-count-gt-FILE_LIMIT-clause-listed c).After-get-bytes)) c.in-Some.ensures in
    let size = files_count (nth_payload segments c.args.at) c.args.range c.in-Some.count (drop c.in-Some.first (nth_payload segments c.args.at)) c.requires.files read.0 in
    λ few. absurd (omega (arith, few, size, c.if-count-gt-FILE_LIMIT.true))

pub loop-init : goal.loop-init
loop-init c =
    let segments : List (List ℕ) = c.args.held.now.segments in
    let table = c.args.table.now in
    let texts : List (List ℕ) = located_texts segments table.texts in
    let read = subst (λ (bs : List ℕ). IsReadAt c.args.range.start (λ (n : ℕ). n) bs (Some (c.in-Some.count, c.in-Some.first)) (number_at w32 (drop c.args.range.start bs))) (bytes_are ((goal.at.loop-init c).After-get-bytes)) c.in-Some.ensures in
    let list : ListSoFar = record { rows = c.new.result; fresh = c.new-2.result } in
    record {
      table = record { texts = c.requires.table.texts; lists = c.requires.table.lists; rows = c.requires.table.rows; names_once = c.requires.table.names_once; latest = c.requires.table.latest };
      same = refl;
      lists = refl;
      files = files_begin (Listed segments table.names.keys texts list) (nth_payload segments c.args.at) c.args.range c.requires.files c.in-Some.count c.in-Some.first read (none_listed segments table.names.keys texts list c.new.ensures c.new-2.ensures.indices c.new-2.ensures.splits);
    }

pub file_range-requires : goal.file_range-requires
file_range-requires c =
    omega (arith, c.loop.invariant.files.within, ap length (bytes_are ((goal.at.file_range-requires c).After-get-bytes)))

pub returns-in_default-file_range-clause-listed : goal.returns-in_default-file_range-clause-listed
returns-in_default-file_range-clause-listed c =
    let segments : List (List ℕ) = c.args.held.now.segments in
    let table = c.loop.table in
    let none = ap (λ (bs : List ℕ). file_at (drop c.loop.next bs)) (sym (bytes_are ((goal.at.returns-in_default-file_range-clause-listed c).After-get-bytes))) ∙ c.in_default-file_range.ensures in
    absurd (files_stop (Listed segments table.names.keys (located_texts segments table.texts) c.loop.list) (nth_payload segments c.args.at) c.args.range c.requires.files c.in-Some.count c.loop.counter c.loop.next c.loop.invariant.files c.loop-test.true none)

pub returns-then-not-is_valid-clause-listed : goal.returns-then-not-is_valid-clause-listed
returns-then-not-is_valid-clause-listed c =
    let segments : List (List ℕ) = c.args.held.now.segments in
    let table = c.loop.table in
    let texts' : List (List ℕ) = located_texts segments c.list_file.new.table.texts in
    let payload : List ℕ = nth_payload segments c.args.at in
    let found = subst (λ (bs : List ℕ). IsFileAt bs c.loop.next c.in-Some-file_range.file c.in-Some-file_range.end) (bytes_are ((goal.at.returns-then-not-is_valid-clause-listed c).After-get-bytes)) c.in-Some-file_range.ensures in
    let file : FileDraft = file_in_ranges (nth_payload segments c.args.at) c.in-Some-file_range.file in
    let files = c.loop.invariant.files in
    let rest = files_rest (Listed segments table.names.keys (located_texts segments table.texts) c.loop.list) payload c.args.range c.requires.files c.in-Some.count c.loop.counter c.loop.next c.in-Some-file_range.end file files c.loop-test.true found.0 in
    let none = subst (λ (is : Bool). IsListedNext is segments c.list_file.new.table.names.keys texts' files.files file c.list_file.new.list) c.if-not-is_valid.true (c.in_ok-is_valid.ensures.listed files.files files.holds) in
    λ few. next_not texts' files.files rest.0 (counted_files payload c.args.range) file rest.1 none

pub loop-preserved : goal.loop-preserved
loop-preserved c =
    let segments : List (List ℕ) = c.args.held.now.segments in
    let table = c.loop.table in
    let now = c.list_file.new.table in
    let texts : List (List ℕ) = located_texts segments table.texts in
    let texts' : List (List ℕ) = located_texts segments now.texts in
    let payload : List ℕ = nth_payload segments c.args.at in
    let found = subst (λ (bs : List ℕ). IsFileAt bs c.loop.next c.in-Some-file_range.file c.in-Some-file_range.end) (bytes_are ((goal.at.loop-preserved c).After-get-bytes)) c.in-Some-file_range.ensures in
    let file : FileDraft = file_in_ranges (nth_payload segments c.args.at) c.in-Some-file_range.file in
    record {
      table = c.list_file.ensures.are;
      same = c.list_file.ensures.is ∙ c.loop.invariant.same;
      lists = c.list_file.ensures.lists ∙ c.loop.invariant.lists;
      files = files_go_on (Listed segments table.names.keys texts c.loop.list) payload c.args.range c.requires.files (Listed segments now.names.keys texts' c.list_file.new.list) c.in-Some.count c.loop.counter c.loop.next c.in-Some-file_range.end file c.loop.invariant.files c.loop-test.true found.0 found.2
          (λ files are. subst (λ (is : Bool). IsListedNext is segments c.list_file.new.table.names.keys texts' files file c.list_file.new.list) c.if-not-is_valid.false (c.in_ok-is_valid.ensures.listed files are));
    }

pub returns-clause-listed : goal.returns-clause-listed
returns-clause-listed c =
    let segments : List (List ℕ) = c.args.held.now.segments in
    let table = c.loop.table in
    let texts : List (List ℕ) = located_texts segments table.texts in
    let files = c.loop.invariant.files in
    let all = files_end (Listed segments table.names.keys texts c.loop.list) (nth_payload segments c.args.at) c.args.range c.requires.files c.in-Some.count c.loop.counter c.loop.next files c.loop-test.false in (
      omega (arith, ap length all, files.as_many, c.loop.auto.counter-end, c.if-count-gt-FILE_LIMIT.false),
      subst (λ (fs : List FileDraft). AreListed segments table.names.keys texts fs c.loop.list) (sym all) files.holds,
    )
