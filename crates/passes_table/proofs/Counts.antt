-- How many files a new list has.
use Rattle.std.proofs.Common.{◌≡◌, ℕ, List, length, drop, Some, refl, sym, ◌∙◌}
use Rattle.std.specs.Int.{w32}
use Rattle.base_bytes.specs.Reading.{counted_at, many_at, number_at}
use Rattle.base_bytes.specs.Ranges.{range_end}
use Rattle.base_bytes.specs.declared.ranges.ByteRange.{ByteRange}
use Rattle.base_bytes.proofs.CountedWords.{many_length}
use Rattle.passes_codec.specs.Forms.{file_at}
use Rattle.passes_codec.specs.Ranges.{HasFilesAt, counted_files}
use Rattle.passes_codec.specs.declared.reading.ListRange.TheVariants.{New}

pub files_count : (bytes : List ℕ) (range : ByteRange) (count : ℕ) (left : List ℕ) → HasFilesAt bytes (New range) → number_at w32 (drop range.start bytes) ≡ Some (count, left) → length (counted_files bytes range) ≡ count
unfolding counted_at
files_count bytes range count left has e =
    let read : counted_at file_at (drop range.start bytes) ≡ many_at file_at count left = rw e refl in
    many_length file_at count left (counted_files bytes range) (drop (range_end range) bytes) (sym read ∙ has.1)
