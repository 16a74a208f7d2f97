-- Payloads of passes as ranges of their bytes.
use Rattle.std.specs.Prelude.{◌≡◌, ◌≤◌, ⊤, ℕ, List, [], length, drop, Option, Some}
use Rattle.std.specs.Option.{option_map_or}
use Rattle.base_bytes.specs.Reading.{counted_at}
use Rattle.base_bytes.specs.Ranges.{counted_words, range_end, ranged}
use Rattle.base_bytes.specs.TextRefs.{ref_in_range}
use Rattle.base_bytes.specs.declared.ranges.ByteRange.{ByteRange}
use Rattle.testbench_runs.specs.declared.runs.TestRun.{TestRun}
use Rattle.passes_codec.specs.declared.reading.RunRanges.{RunRanges}
use Rattle.passes_codec.specs.declared.reading.FileRanges.{FileRanges}
use Rattle.passes_codec.specs.declared.reading.ListRange.{ListRange}
use Rattle.passes_codec.specs.declared.reading.ListRange.TheVariants as ranges
use Rattle.passes_codec.specs.declared.reading.PassRanges.{PassRanges}
use Rattle.passes_codec.specs.Forms.{FileDraft, ListRef, PassDraft, file_at}
use Rattle.passes_codec.specs.Forms.ListRef.{KnownList, NewList}

-- the run whose parts are at these ranges of bytes
abbrev pub run_in_ranges : List ℕ → RunRanges → TestRun
run_in_ranges bytes run = record { library = ranged bytes run.library; bench = ranged bytes run.bench; architecture = ranged bytes run.architecture; cases = counted_words bytes run.cases; whole = run.whole; same_sim = run.same_sim; path = ranged bytes run.path }

-- the file of a list whose parts are at these ranges of bytes
abbrev pub file_in_ranges : List ℕ → FileRanges → FileDraft
file_in_ranges bytes file = record { name = record { library = ranged bytes file.library; path = ranged bytes file.path }; artefact = ref_in_range bytes file.artefact }

-- the files that are counted from the start of a range; none where they can't be read
abbrev pub counted_files : List ℕ → ByteRange → List FileDraft
counted_files bytes range = option_map_or (λ read. read.0) (counted_at file_at (drop range.start bytes)) []

-- the list that was found in bytes: by its number, or the files of its range
abbrev pub list_in_range : List ℕ → ListRange → ListRef
list_in_range bytes (ranges.Known number) = KnownList number
list_in_range bytes (ranges.New files) = NewList (counted_files bytes files)

-- the files of a new list can be read from the start of their range, which is within the bytes
abbrev pub HasFilesAt : List ℕ → ListRange → Type 0
HasFilesAt bytes (ranges.Known number) = ⊤
HasFilesAt bytes (ranges.New files) = (files.start ≤ length bytes) × (counted_at file_at (drop files.start bytes) ≡ Some (counted_files bytes files, drop (range_end files) bytes))

-- the pass whose parts are at these ranges of bytes
abbrev pub pass_in_ranges : List ℕ → PassRanges → PassDraft
pass_in_ranges bytes draft = record { run = run_in_ranges bytes draft.run; simulator = counted_words bytes draft.simulator; list = list_in_range bytes draft.list; output = ranged bytes draft.output }
