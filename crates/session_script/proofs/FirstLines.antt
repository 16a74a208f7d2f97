-- The lines of an input, one after the other.
use Rattle.std.proofs.Common.{◌≡◌, ℕ, suc, ◌+◌, ◌==◌, Bool, true, false, nat_le, nat_lt, if◌then◌else◌, List, [], ◌∷◌, length, take, drop, refl, sym, ap, ◌∙◌, arith, inl, inr}
use Rattle.std.specs.List.{onto_first, position_or_len}
use Rattle.std.proofs.lemmas.Bool.{cases_Bool, cond-true, cond-false, ne_eqb}
use Rattle.outside.specs.Streams.{is_line_feed, first_line, after_line, line_end}
use Rattle.outside.specs.declared.streams.LineEnd.{LineEnd}
use Rattle.outside.specs.declared.streams.LineEnd.TheVariants as line
use Rattle.session_script.specs.declared.limits.TheConstants.{LINE_LIMIT, LINE_COUNT_LIMIT}
use Rattle.session_script.specs.declared.lines.Ending.{Ending}
use Rattle.session_script.specs.declared.lines.Ending.TheVariants.{OverLine, OverLines}
use Rattle.session_script.specs.declared.lines.NextLine.{NextLine}
use Rattle.session_script.specs.declared.lines.NextLine.TheVariants.{Got, Ends}
use Rattle.session_script.specs.Scripts.{lines_of, next_of, next_line}

-- a first line of so many bytes, and the lines after it
abbrev split_lines : List ℕ → ℕ → List (List ℕ)
split_lines bytes count = take count bytes ∷ lines_of (drop (count + 1) bytes)

-- the first line has one byte more if the first byte is no line feed
split_later : (byte : ℕ) (bytes : List ℕ) (count : ℕ) → split_lines (byte ∷ bytes) (suc count) ≡ (byte ∷ take count bytes) ∷ lines_of (drop (count + 1) bytes)
split_later byte bytes count = let e : suc count + 1 ≡ suc (count + 1) = omega arith in ap (λ (n : ℕ). (byte ∷ take count bytes) ∷ lines_of (drop n (byte ∷ bytes))) e

count_now : (byte : ℕ) (bytes : List ℕ) → is_line_feed byte ≡ true → position_or_len is_line_feed (byte ∷ bytes) ≡ 0
count_now byte bytes t = rw t refl

count_later : (byte : ℕ) (bytes : List ℕ) → is_line_feed byte ≡ false → position_or_len is_line_feed (byte ∷ bytes) ≡ suc (position_or_len is_line_feed bytes)
count_later byte bytes f = rw f (omega arith)

-- the lines of an input are its first line and the lines after it
pub lines_first : (byte : ℕ) (bytes : List ℕ) → lines_of (byte ∷ bytes) ≡ first_line (byte ∷ bytes) ∷ lines_of (after_line (byte ∷ bytes))
unfolding lines_of
lines_first byte [] =
    elim (cases_Bool (is_line_feed byte)) [
      | inl t ↦ rw t refl
      | inr f ↦ rw f refl
    ]
lines_first byte (next ∷ bytes) =
    elim (cases_Bool (is_line_feed byte)) [
      | inl t ↦
          cond-true (is_line_feed byte) ([] ∷ lines_of (next ∷ bytes)) (onto_first byte (lines_of (next ∷ bytes))) t
          ∙ sym (ap (split_lines (byte ∷ next ∷ bytes)) (count_now byte (next ∷ bytes) t))
      | inr f ↦
          cond-false (is_line_feed byte) ([] ∷ lines_of (next ∷ bytes)) (onto_first byte (lines_of (next ∷ bytes))) f
          ∙ ap (onto_first byte) (lines_first next bytes)
          ∙ sym (split_later byte (next ∷ bytes) (position_or_len is_line_feed (next ∷ bytes)))
          ∙ sym (ap (split_lines (byte ∷ next ∷ bytes)) (count_later byte (next ∷ bytes) f))
    ]

-- what is next, from what was taken of the source
abbrev pub next_by : Ending → ℕ → LineEnd → NextLine
next_by at_end taken line.End = Ends at_end
next_by at_end taken line.TooLong = Ends OverLine
next_by at_end taken (line.Got bytes) = if nat_lt taken LINE_COUNT_LIMIT then Got bytes else Ends OverLines

next_by_size : (at_end : Ending) (taken : ℕ) (bytes : List ℕ) (short : Bool) → next_by at_end taken (if short then line.Got bytes else line.TooLong) ≡ (if short then (if nat_lt taken LINE_COUNT_LIMIT then Got bytes else Ends OverLines) else Ends OverLine)
next_by_size at_end taken bytes true = refl
next_by_size at_end taken bytes false = refl

some_bytes : (byte : ℕ) (bytes : List ℕ) → (length (byte ∷ bytes) == 0) ≡ false
some_bytes byte bytes = ne_eqb _ _ (λ (e : length (byte ∷ bytes) ≡ 0). omega arith)

pub next_by_end : (at_end : Ending) (taken : ℕ) (input : List ℕ) → next_by at_end taken (line_end input LINE_LIMIT) ≡ next_line at_end taken input
unfolding lines_of
next_by_end at_end taken [] = refl
next_by_end at_end taken (byte ∷ bytes) =
    let first = first_line (byte ∷ bytes) in
    let short = nat_le (length first) LINE_LIMIT in
    ap (next_by at_end taken) (cond-false (length (byte ∷ bytes) == 0) line.End (if short then line.Got first else line.TooLong) (some_bytes byte bytes))
    ∙ next_by_size at_end taken first short
    ∙ sym (ap (next_of at_end taken) (lines_first byte bytes))

-- what is next, from what was taken
pub next_from : (at_end : Ending) (taken : ℕ) (input : List ℕ) (end : LineEnd) → end ≡ line_end input LINE_LIMIT → next_by at_end taken end ≡ next_line at_end taken input
next_from at_end taken input end e = ap (next_by at_end taken) e ∙ next_by_end at_end taken input
