-- A line of bytes that are read in parts.
use Rattle.std.specs.Prelude.{◌≡◌, ◌≢◌, ℕ, ◌+◌, ◌<◌, ◌≤◌, Bool, not, nat_le, List, ◌++◌, length, take, drop, Option, Some, None, if◌then◌else◌}
use Rattle.std.specs.List.{position_or_len}
use Rattle.std.specs.Io.KnownBytes.{Consumes, Keeps, prepend_known}
use Rattle.std.proofs.Common.{arith, sym, ap, subst, ◌∙◌}
use Rattle.std.proofs.KnownBytes.{Consumes-trans, prepend_known-read}
use Rattle.std.proofs.lemmas.Bool.{cond-true, cond-false, eq-eqb, ne_eqb}
use Rattle.std.proofs.lemmas.List.{take-append-le, take-append-drop, drop-append-le, length-append, take_all}
use Rattle.std.proofs.lemmas.List.Folds.{prefix_len-append}
use Rattle.std.proofs.lemmas.List.Sums.{prefix_len-le-length}
use Rattle.std.proofs.Math.Seq.{take-append-add, drop-append-add}
use Rattle.outside.specs.Streams.{is_line_feed, first_line, after_line, line_end}
use Rattle.outside.specs.declared.streams.LineEnd.{LineEnd}
use Rattle.outside.specs.declared.streams.LineEnd.TheVariants.{Got, End, TooLong}
use Rattle.system_files.specs.Prefixes.{IsPrefix}
use Rattle.system_files.specs.Takes.{IsLineOf, IsAfterLine, IsLinePart}

-- the first line feed of what follows bytes without one
pub feed_behind : (seen rest : List ℕ) → position_or_len is_line_feed seen ≡ length seen → position_or_len is_line_feed (seen ++ rest) ≡ length seen + position_or_len is_line_feed rest
feed_behind seen rest h =
    prefix_len-append (λ x. not (is_line_feed x)) seen rest
    ∙ cond-true _ (length seen + position_or_len is_line_feed rest) (position_or_len is_line_feed seen) (eq-eqb _ _ h)

-- the first line feed of bytes that have one isn't moved by what follows
pub feed_before : (front rest : List ℕ) → position_or_len is_line_feed front ≢ length front → position_or_len is_line_feed (front ++ rest) ≡ position_or_len is_line_feed front
feed_before front rest h =
    prefix_len-append (λ x. not (is_line_feed x)) front rest
    ∙ cond-false _ (length front + position_or_len is_line_feed rest) (position_or_len is_line_feed front) (ne_eqb _ _ h)

-- a part that has no line feed is taken
pub part_grows : (limit : ℕ) (start before known : Option (List ℕ)) (front kept new_kept : List ℕ) (more new_more : Bool) (count : ℕ)
    → (part : IsLinePart limit start before kept more) → Keeps before (prepend_known front known)
    → count ≡ position_or_len is_line_feed front → length front ≤ count
    → IsPrefix limit (Some (part.seen ++ take count front)) new_kept new_more
    → IsLinePart limit start (prepend_known (drop count front) known) new_kept new_more
part_grows limit start before known front kept new_kept more new_more count part same is whole next =
    let taken : take count front ≡ front = take_all count front whole in
    let step = prepend_known-read before known front (drop count front) (take count front) ⊥ same (sym (take-append-drop count front)) (λ none. absurd none) in
    let counted : count ≡ length front = omega (arith, whole, is, prefix_len-le-length (λ x. not (is_line_feed x)) front) in
    record {
      seen = part.seen ++ take count front;
      taken = Consumes-trans start before (prepend_known (drop count front) known) part.seen (take count front) part.taken step.0;
      part = next;
      unended = subst (λ (l : List ℕ). position_or_len is_line_feed (part.seen ++ l) ≡ length (part.seen ++ l)) (sym taken)
          (feed_behind part.seen front part.unended ∙ ap (λ (n : ℕ). length part.seen + n) (sym is ∙ counted) ∙ sym (length-append part.seen front));
    }

-- bytes without a line feed, and behind them bytes of which `count` come before the first line feed
module _ (seen front back : List ℕ) (count limit : ℕ) (unended : position_or_len is_line_feed seen ≡ length seen) (is : count ≡ position_or_len is_line_feed front) (ends : count < length front) where
  abbrev whole : List ℕ
  whole = seen ++ (front ++ back)

  abbrev line : List ℕ
  line = seen ++ take count front

  feed_at : position_or_len is_line_feed whole ≡ length seen + count
  feed_at = feed_behind seen (front ++ back) unended ∙ ap (λ (n : ℕ). length seen + n) (feed_before front back (λ (e : position_or_len is_line_feed front ≡ length front). omega (arith, e, is, ends)) ∙ sym is)

  line_at : first_line whole ≡ line
  line_at =
      ap (λ (n : ℕ). take n whole) feed_at ∙ take-append-add seen (front ++ back) count
      ∙ ap (λ (l : List ℕ). seen ++ l) (take-append-le count front back (omega (arith, ends)))

  rest_at : after_line whole ≡ drop (count + 1) front ++ back
  rest_at =
      let further : length seen + count + 1 ≡ length seen + (count + 1) = omega arith in
      ap (λ (n : ℕ). drop (n + 1) whole) feed_at ∙ ap (λ (n : ℕ). drop n whole) further
      ∙ drop-append-add seen (front ++ back) (count + 1) ∙ drop-append-le (count + 1) front back (omega (arith, ends))

  end_at : line_end whole limit ≡ (if nat_le (length line) limit then Got line else TooLong)
  end_at =
      let some : length whole ≢ 0 = λ (none : length whole ≡ 0). omega (arith, none, length-append seen (front ++ back), length-append front back, ends) in
      cond-false _ End (if nat_le (length (first_line whole)) limit then Got (first_line whole) else TooLong) (ne_eqb _ _ some)
      ∙ ap (λ (l : List ℕ). if nat_le (length l) limit then Got l else TooLong) line_at

-- the line that is taken once its end is found, and the bytes that then remain
pub taken_at : (start before known : Option (List ℕ)) (seen front : List ℕ) (count limit : ℕ) (end : LineEnd)
    → Consumes start before seen → Keeps before (prepend_known front known)
    → position_or_len is_line_feed seen ≡ length seen → count ≡ position_or_len is_line_feed front → count < length front
    → end ≡ (if nat_le (length (seen ++ take count front)) limit then Got (seen ++ take count front) else TooLong)
    → IsLineOf limit start end × IsAfterLine start (prepend_known (drop (count + 1) front) known)
taken_at None before known seen front count limit end taken same unended is ends told = (tt, tt)
taken_at (Some xs) None known seen front count limit end taken same unended is ends told = absurd taken
taken_at (Some xs) (Some ys) None seen front count limit end taken same unended is ends told = absurd same
taken_at (Some xs) (Some ys) (Some zs) seen front count limit end taken same unended is ends told =
    let all : xs ≡ seen ++ (front ++ zs) = taken ∙ ap (λ (l : List ℕ). seen ++ l) (sym same) in (
      told ∙ sym (end_at seen front zs count limit unended is ends) ∙ ap (λ (l : List ℕ). line_end l limit) (sym all),
      sym (rest_at seen front zs count limit unended is ends) ∙ ap (λ (l : List ℕ). after_line l) (sym all),
    )
