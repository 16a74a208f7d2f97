-- The files of a new list after their number, as a loop reads them.
use Rattle.std.proofs.Common.{◌≡◌, ℕ, ◌-◌, ◌+◌, ◌<◌, ◌≤◌, List, [], ◌∷◌, ◌++◌, length, drop, Option, Some, None, refl, sym, ap, ◌∙◌, arith, length-append}
use Rattle.std.specs.Int.{w32}
use Rattle.std.specs.Option.{option_map_or}
use Rattle.std.proofs.lemmas.Option.{none-some}
use Rattle.base_bytes.specs.Reading.{counted_at, many_at, number_at}
use Rattle.base_bytes.specs.Ranges.{IsReadAt, range_end}
use Rattle.base_bytes.specs.declared.ranges.ByteRange.{ByteRange}
use Rattle.base_bytes.proofs.Many.{begins, goes_on, is_done, no_count, stops, with_prefix}
use Rattle.passes_codec.specs.Forms.{FileDraft, file_at}
use Rattle.passes_codec.specs.Ranges.{HasFilesAt, counted_files, file_in_ranges}
use Rattle.passes_codec.specs.declared.reading.FileRanges.{FileRanges}
use Rattle.passes_codec.specs.declared.reading.ListRange.TheVariants.{New}
use Rattle.passes_table.proofs.NewLists.{rest_of}

-- `i` of `count` files were read so far, and `P` holds of them.
pub record FilesSoFar (P : List FileDraft → Type 0) (bytes : List ℕ) (range : ByteRange) (count i next : ℕ) : Type 0 where
  pub files : List FileDraft
  pub so_far : with_prefix files (many_at file_at (count - i) (drop next bytes)) ≡ counted_at file_at (drop range.start bytes)
  pub as_many : length files ≡ i
  pub within : next ≤ length bytes
  pub holds : P files

-- the whole list, as the range has it
whole_list : List ℕ → ByteRange → Option (List FileDraft × List ℕ)
whole_list bytes range = Some (counted_files bytes range, drop (range_end range) bytes)

module _ (P : List FileDraft → Type 0) (bytes : List ℕ) (range : ByteRange) (has : HasFilesAt bytes (New range)) where
  pub no_files_count : number_at w32 (drop range.start bytes) ≡ None → ⊥
  no_files_count e = none-some (counted_files bytes range, drop (range_end range) bytes) (sym (no_count file_at (drop range.start bytes) e) ∙ has.1)

  pub files_begin : (count first : ℕ) → IsReadAt range.start (λ (n : ℕ). n) bytes (Some (count, first)) (number_at w32 (drop range.start bytes)) → P [] → FilesSoFar P bytes range count 0 first
  files_begin count first found p = record { files = []; so_far = begins file_at (drop range.start bytes) count (drop first bytes) found.0; as_many = refl; within = found.2; holds = p }

  pub files_go_on : (Q : List FileDraft → Type 0) (count i next after : ℕ) (file : FileDraft) → FilesSoFar P bytes range count i next → i < count → file_at (drop next bytes) ≡ Some (file, drop after bytes) → after ≤ length bytes → ((files : List FileDraft) → P files → Q (files ++ file ∷ [])) → FilesSoFar Q bytes range count (i + 1) after
  files_go_on Q count i next after file are low e within step = record {
    files = are.files ++ file ∷ [];
    so_far = goes_on file_at are.files count i (drop next bytes) file (drop after bytes) (counted_at file_at (drop range.start bytes)) low e are.so_far;
    as_many = omega (arith, are.as_many, length-append are.files (file ∷ []));
    within = within;
    holds = step are.files are.holds;
  }

  pub files_stop : (count i next : ℕ) → FilesSoFar P bytes range count i next → i < count → file_at (drop next bytes) ≡ None → ⊥
  files_stop count i next are low e =
      none-some (counted_files bytes range, drop (range_end range) bytes) (sym (stops file_at are.files count i (drop next bytes) (counted_at file_at (drop range.start bytes)) low e are.so_far) ∙ has.1)

  pub files_end : (count i next : ℕ) → (are : FilesSoFar P bytes range count i next) → count ≤ i → counted_files bytes range ≡ are.files
  files_end count i next are done =
      ap (λ (o : Option (List FileDraft × List ℕ)). option_map_or (λ r. r.0) o []) (is_done file_at are.files count i (drop next bytes) (counted_at file_at (drop range.start bytes)) done are.so_far)

  -- the next file is one of the list
  pub files_rest : (count i next after : ℕ) (file : FileDraft) → (are : FilesSoFar P bytes range count i next) → i < count → file_at (drop next bytes) ≡ Some (file, drop after bytes) → (rest : List FileDraft) × (counted_files bytes range ≡ (are.files ++ file ∷ []) ++ rest)
  files_rest count i next after file are low e =
      rest_of (are.files ++ file ∷ []) (counted_files bytes range) (many_at file_at (count - (i + 1)) (drop after bytes)) (drop (range_end range) bytes)
      (goes_on file_at are.files count i (drop next bytes) file (drop after bytes) (counted_at file_at (drop range.start bytes)) low e are.so_far ∙ has.1)

-- a file was read at an offset, which ends at another
abbrev pub IsFileAt : List ℕ → ℕ → FileRanges → ℕ → Type 0
IsFileAt bytes next file end = (file_at (drop next bytes) ≡ Some (file_in_ranges bytes file, drop end bytes)) × (next ≤ end) × (end ≤ length bytes)
