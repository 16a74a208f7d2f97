-- What runs tell of the words of a row.
use Rattle.std.proofs.Common.{◌≡◌, ◌≢◌, ℕ, zero, suc, ◌+◌, ◌/◌, ◌%◌, ◌<◌, ◌≤◌, Bool, true, false, ◌||◌, cond, List, [], ◌∷◌, ◌++◌, length, nat_eq, nat_lt, get_or, drop, replicate, take, below_more, ◌⊎◌, inl, inr, refl, sym, ◌∙◌, ap, subst, arith, if◌then◌else◌, not, bit_or, length-append}
use Rattle.std.specs.Int.{bit_at}
use Rattle.std.proofs.Math.ListN.{get_or-append}
use Rattle.std.proofs.Math.Seq.{get_or-append_seam}
use Rattle.std.proofs.lemmas.Bool.{cases_lt}
use Rattle.std.proofs.lemmas.Bool.Decides.{eqb_tells, nat_tests}
use Rattle.std.proofs.Math.ListN.{drop_of_length-le}
use Rattle.std.proofs.Math.ListN.{set}
use Rattle.std.proofs.Math.Seq.{drop-length, take-append_seam}
use Rattle.std.proofs.lemmas.List.{drop_more, ext_get_or, get_or-replicate, get_or-set_other, get_or-set_same, get_or_default, get_or_past, length-replicate}
use Rattle.std.proofs.lemmas.List.Sums.{sum_by-append}
use Rattle.std.specs.Int.Bits.{or_zero_l}
use Rattle.std.proofs.lemmas.Nat.{le_or_l}
use Rattle.std.proofs.lemmas.Nat.Bits.{bit_at-zero}
use Rattle.vhdl_scope.specs.declared.row.Run.{Run}
use Rattle.vhdl_scope.specs.Bits.{gap, row_has, weight}
use Rattle.vhdl_scope.specs.Rows.{AreMergedTo, ArePassed, AreRunsTo, HasMore, both_words, row_words, values, word_or}
use Rattle.vhdl_scope.proofs.BitLemmas.{joined, less_gap}

not_less : (m n : ℕ) → n ≤ m → nat_lt m n ≡ false
not_less m n least = grind (arith, nat_tests)

is_less : (m n : ℕ) → m < n → nat_lt m n ≡ true
is_less m n less = grind (arith, nat_tests)

-- ## Values of a function

pub values_long : (f : ℕ → ℕ) (count : ℕ) → length (values f count) ≡ count
unfolding values
values_long f zero = refl
values_long f (suc count) = omega (arith, length-append (values f count) (f count ∷ []), values_long f count)

pub value_at : (f : ℕ → ℕ) (count at : ℕ) → at < count → get_or (values f count) at 0 ≡ f at
unfolding values
value_at f zero at within = absurd (omega (arith, within))
value_at f (suc count) at within = by_index (value_at f count at) (cases_lt at count) where
  by_index : (at < count → get_or (values f count) at 0 ≡ f at) → (at < count) ⊎ (count ≤ at) → get_or (values f count ++ f count ∷ []) at 0 ≡ f at
  by_index earlier (inl before) = get_or-append (values f count) (f count ∷ []) 0 at (omega (arith, values_long f count)) ∙ earlier before
  by_index earlier (inr last) =
      let same : at ≡ count = omega arith in
      ap (λ (n : ℕ). get_or (values f count ++ f count ∷ []) n 0) (same ∙ sym (values_long f count)) ∙ (get_or-append_seam (values f count) (f count) [] 0 ∙ ap f (sym same))

pub value_past : (f : ℕ → ℕ) (count at : ℕ) → count ≤ at → get_or (values f count) at 0 ≡ 0
value_past f count at far = get_or_past (values f count) at 0 (omega (arith, values_long f count))

values_least : (f g : ℕ → ℕ) (count : ℕ) → ((at : ℕ) → at < count → f at ≤ g at) → weight (values f count) ≤ weight (values g count)
unfolding values
values_least f g zero each = omega arith
values_least f g (suc count) each =
    omega (arith, sum_by-append (λ (n : ℕ). n) (values f count) (f count ∷ []), sum_by-append (λ (n : ℕ). n) (values g count) (g count ∷ []), values_least f g count (λ at below. each at (omega arith)), each count (omega arith))

values_less : (f g : ℕ → ℕ) (count row_index : ℕ) → ((at : ℕ) → at < count → f at ≤ g at) → row_index < count → f row_index < g row_index → weight (values f count) < weight (values g count)
unfolding values
values_less f g zero row_index each within less = absurd (omega (arith, within))
values_less f g (suc count) row_index each within less = by_index (λ before. values_less f g count row_index (λ at below. each at (omega arith)) before less) (cases_lt row_index count) where
  f_sum : weight (values f count ++ f count ∷ []) ≡ weight (values f count) + weight (f count ∷ [])
  f_sum = sum_by-append (λ (n : ℕ). n) (values f count) (f count ∷ [])

  g_sum : weight (values g count ++ g count ∷ []) ≡ weight (values g count) + weight (g count ∷ [])
  g_sum = sum_by-append (λ (n : ℕ). n) (values g count) (g count ∷ [])

  by_index : (row_index < count → weight (values f count) < weight (values g count)) → (row_index < count) ⊎ (count ≤ row_index) → weight (values f count ++ f count ∷ []) < weight (values g count ++ g count ∷ [])
  by_index earlier (inl before) = let rest = earlier before in let here = each count (omega arith) in omega (arith, f_sum, g_sum, rest, here)
  by_index earlier (inr last) =
      let same : row_index ≡ count = omega arith in
      let here : f count < g count = subst (λ (n : ℕ). f n < g n) same less in
      let rest = values_least f g count (λ at below. each at (omega arith)) in omega (arith, f_sum, g_sum, rest, here)

-- ## Words of runs

pub words_long : (words : ℕ) (runs : List Run) → length (row_words words runs) ≡ words
unfolding row_words
words_long words runs = values_long (word_or 0 runs) words

pub word_told : (words : ℕ) (runs : List Run) (at : ℕ) → at < words → get_or (row_words words runs) at 0 ≡ word_or 0 runs at
unfolding row_words
word_told words runs at within = value_at (word_or 0 runs) words at within

pub word_past : (words : ℕ) (runs : List Run) (at : ℕ) → words ≤ at → get_or (row_words words runs) at 0 ≡ 0
unfolding row_words
word_past words runs at far = value_past (word_or 0 runs) words at far

-- runs that tell each word
pub words_are : (words : List ℕ) (runs : List Run) → ((at : ℕ) → at < length words → word_or 0 runs at ≡ get_or words at 0) → row_words (length words) runs ≡ words
words_are words runs each = ext_get_or 0 (row_words (length words) runs) words (words_long (length words) runs) (λ at within. word_told (length words) runs at (omega (arith, words_long (length words) runs)) ∙ each at (omega (arith, words_long (length words) runs)))

-- a number past the words
pub has_past : (words : ℕ) (runs : List Run) (number : ℕ) → words ≤ number / 64 → false ≡ row_has (row_words words runs) number
unfolding row_has
has_past words runs number far = sym (rw (word_past words runs (number / 64) far) (rw (bit_at-zero (number % 64)) refl))

pub has_there : (words : ℕ) (runs : List Run) (number word : ℕ) → number / 64 < words → word ≡ word_or 0 runs (number / 64) → nat_eq (bit_at word (number % 64)) 1 ≡ row_has (row_words words runs) number
unfolding row_has
has_there words runs number word within is = ap (λ (w : ℕ). nat_eq (bit_at w (number % 64)) 1) (is ∙ sym (word_told words runs (number / 64) within))

-- a run at the head
pub word_here : (run : Run) (rest : List Run) (none at : ℕ) → at < run.end → word_or none (run ∷ rest) at ≡ run.word
unfolding word_or
word_here run rest none at before = rw (is_less at run.end before) refl

pub word_later : (run : Run) (rest : List Run) (none at : ℕ) → run.end ≤ at → word_or none (run ∷ rest) at ≡ word_or none rest at
unfolding word_or
word_later run rest none at after = rw (not_less at run.end after) refl

pub word_append : (first second : List Run) (none at : ℕ) → word_or none (first ++ second) at ≡ word_or (word_or none second at) first at
unfolding word_or
word_append [] second none at = refl
word_append (run ∷ first) second none at = ap (λ (word : ℕ). if nat_lt at run.end then run.word else word) (word_append first second none at)

alone : ℕ → ℕ → List Run
alone end word = record { end = end; word = word } ∷ []

-- the last run with the word that is there else
last_same : (last : Run) (word at : ℕ) → last.word ≡ word → word_or word (last ∷ []) at ≡ word
unfolding word_or
last_same last word at same = by_test (nat_lt at last.end) where
  by_test : (b : Bool) → (if b then last.word else word) ≡ word
  by_test true = same
  by_test false = refl

empty_told : (none at : ℕ) → word_or none [] at ≡ none
unfolding word_or
empty_told none at = refl

last_none : (first : List Run) (last : Run) (at : ℕ) → ((none : ℕ) → word_or (word_or none (last ∷ []) at) first at ≡ none) → (none : ℕ) → word_or none first at ≡ none
last_none first last at each none = by_index (cases_lt at last.end) where
  by_index : (at < last.end) ⊎ (last.end ≤ at) → word_or none first at ≡ none
  by_index (inl before) =
      let one : word_or last.word first at ≡ 0 = ap (λ (w : ℕ). word_or w first at) (sym (word_here last [] 0 at before)) ∙ each 0 in
      let two : word_or last.word first at ≡ 1 = ap (λ (w : ℕ). word_or w first at) (sym (word_here last [] 1 at before)) ∙ each 1 in
      absurd (omega (arith, one, two))
  by_index (inr after) = ap (λ (w : ℕ). word_or w first at) (sym (word_later last [] none at after ∙ empty_told none at)) ∙ each none

pub runs_none : (words : ℕ → ℕ) → AreRunsTo 0 words []
runs_none words = record { told = λ none at below. absurd (omega (arith, below)); past = λ none at after. empty_told none at }

module _ (start end word : ℕ) (words : ℕ → ℕ) (more : start < end) (is : (at : ℕ) → start ≤ at → at < end → words at ≡ word) where
  abbrev next : Run
  next = record { end = end; word = word }

  -- a run more
  pub run_more : (runs : List Run) → AreRunsTo start words runs → AreRunsTo end words (runs ++ next ∷ [])
  run_more runs so_far = record { told = told; past = past } where
    by_index : (none at : ℕ) → at < end → (at < start) ⊎ (start ≤ at) → word_or none (runs ++ next ∷ []) at ≡ words at
    by_index none at below (inl before) = word_append runs (next ∷ []) none at ∙ so_far.told (word_or none (next ∷ []) at) at before
    by_index none at below (inr after) = word_append runs (next ∷ []) none at ∙ (so_far.past (word_or none (next ∷ []) at) at after ∙ (word_here next [] none at below ∙ sym (is at after below)))

    told : (none at : ℕ) → at < end → word_or none (runs ++ next ∷ []) at ≡ words at
    told none at below = by_index none at below (cases_lt at start)

    past : (none at : ℕ) → end ≤ at → word_or none (runs ++ next ∷ []) at ≡ none
    past none at after = word_append runs (next ∷ []) none at ∙ (so_far.past (word_or none (next ∷ []) at) at (omega arith) ∙ (word_later next [] none at after ∙ empty_told none at))

  -- the last run goes on
  pub run_longer : (first : List Run) (last : Run) → last.word ≡ word → AreRunsTo start words (first ++ last ∷ []) → AreRunsTo end words (first ++ next ∷ [])
  run_longer first last same so_far = record { told = told; past = past } where
    before_word : (at : ℕ) → word_or word (first ++ last ∷ []) at ≡ word_or word first at
    before_word at = word_append first (last ∷ []) word at ∙ ap (λ (w : ℕ). word_or w first at) (last_same last word at same)

    here : (none at : ℕ) → at < end → word_or none (first ++ next ∷ []) at ≡ word_or word first at
    here none at below = word_append first (next ∷ []) none at ∙ ap (λ (w : ℕ). word_or w first at) (word_here next [] none at below)

    by_index : (at : ℕ) → at < end → (at < start) ⊎ (start ≤ at) → word_or word first at ≡ words at
    by_index at below (inl before) = sym (before_word at) ∙ so_far.told word at before
    by_index at below (inr after) = sym (before_word at) ∙ (so_far.past word at after ∙ sym (is at after below))

    told : (none at : ℕ) → at < end → word_or none (first ++ next ∷ []) at ≡ words at
    told none at below = here none at below ∙ by_index at below (cases_lt at start)

    past : (none at : ℕ) → end ≤ at → word_or none (first ++ next ∷ []) at ≡ none
    past none at after =
        word_append first (next ∷ []) none at
        ∙ (ap (λ (w : ℕ). word_or w first at) (word_later next [] none at after ∙ empty_told none at)
        ∙ last_none first last at (λ (other : ℕ). sym (word_append first (last ∷ []) other at) ∙ so_far.past other at (omega arith)) none)

-- ## Merged rows

bit_or_less : (a b : ℕ) → bit_or a b ≢ a → a < bit_or a b
bit_or_less a b differ = omega (arith, differ, le_or_l a b)

pub merged_bits : (words : ℕ) (first second merged : List Run) → ((at : ℕ) → at < words → word_or 0 merged at ≡ both_words first second at) → (number : ℕ) → row_has (row_words words merged) number ≡ (row_has (row_words words first) number || row_has (row_words words second) number)
merged_bits words first second merged each = joined (row_words words first) (row_words words second) (row_words words merged) (λ at. by_index at (cases_lt at words)) where
  by_index : (at : ℕ) → (at < words) ⊎ (words ≤ at) → get_or (row_words words merged) at 0 ≡ bit_or (get_or (row_words words first) at 0) (get_or (row_words words second) at 0)
  by_index at (inl within) = rw (word_told words merged at within, word_told words first at within, word_told words second at within) (each at within)
  by_index at (inr far) = rw (word_past words merged at far, word_past words first at far, word_past words second at far) (sym (or_zero_l 0))

pub merged_grows : (words : ℕ) (first second merged : List Run) → AreRunsTo words (both_words first second) merged → ((at : ℕ) → at < words → both_words first second at < 18446744073709551616) → HasMore words first second → gap (row_words words merged) < gap (row_words words first)
unfolding row_words
merged_grows words first second merged runs fit more =
    less_gap (values (word_or 0 first) words) (values (word_or 0 merged) words) (values_long (word_or 0 merged) words ∙ sym (values_long (word_or 0 first) words))
    (λ at within. let below : at < words = omega (arith, values_long (word_or 0 merged) words) in let is : get_or (values (word_or 0 merged) words) at 0 ≡ both_words first second at = value_at (word_or 0 merged) words at below ∙ runs.told 0 at below in omega (arith, is, fit at below))
    (values_less (word_or 0 first) (word_or 0 merged) words more.at
    (λ at below. let is : word_or 0 merged at ≡ bit_or (word_or 0 first at) (word_or 0 second at) = runs.told 0 at below in omega (arith, is, le_or_l (word_or 0 first at) (word_or 0 second at)))
    more.below
    (let is : word_or 0 merged more.at ≡ bit_or (word_or 0 first more.at) (word_or 0 second more.at) = runs.told 0 more.at more.below in let less = bit_or_less (word_or 0 first more.at) (word_or 0 second more.at) more.differs in omega (arith, is, less)))

-- a run that has all bits of another
pub one_over : (first second : List Run) (none : Run) → length first ≡ 1 → length second ≡ 1 → ((get_or first 0 none).end ≡ (get_or second 0 none).end) × (bit_or (get_or first 0 none).word (get_or second 0 none).word ≡ (get_or first 0 none).word) → (at : ℕ) → both_words first second at ≡ word_or 0 first at
unfolding word_or
one_over [] second none long other has at = absurd (omega (arith, long))
one_over (a ∷ b ∷ rest) second none long other has at = absurd (omega (arith, long))
one_over (a ∷ []) [] none long other has at = absurd (omega (arith, other))
one_over (a ∷ []) (b ∷ c ∷ rest) none long other has at = absurd (omega (arith, other))
one_over (a ∷ []) (b ∷ []) none long other has at = ap (λ (end : ℕ). bit_or (cond (nat_lt at a.end) a.word 0) (cond (nat_lt at end) b.word 0)) (sym has.0) ∙ by_index (nat_lt at a.end) where
  by_index : (here : Bool) → bit_or (cond here a.word 0) (cond here b.word 0) ≡ cond here a.word 0
  by_index true = has.1
  by_index false = refl

-- nothing is merged yet
pub merged_none : (first second : List Run) → AreMergedTo 0 first second [] false
merged_none first second = record {
  runs = runs_none (both_words first second);
  fit = λ at below. absurd (omega (arith, below));
  same = λ still at below. absurd (omega (arith, below));
  more = λ grew. let never : ⊥ = cc in absurd never;
}

-- the words up to an index more are merged
module _ (first second : List Run) (start end own other : ℕ) (longer : start < end) (one : (at : ℕ) → start ≤ at → at < end → word_or 0 first at ≡ own) (two : (at : ℕ) → start ≤ at → at < end → word_or 0 second at ≡ other) where
  pub both_told : (at : ℕ) → start ≤ at → at < end → both_words first second at ≡ bit_or own other
  both_told at after below = rw (one at after below, two at after below) refl

  pub merged_more : (merged after : List Run) (grown : Bool) → AreMergedTo start first second merged grown → AreRunsTo end (both_words first second) after → bit_or own other < 18446744073709551616 → AreMergedTo end first second after (grown || not (nat_eq (bit_or own other) own))
  merged_more merged after grown so_far runs fits = record { runs = runs; fit = fit; same = same grown so_far.same; more = more grown so_far.more } where
    fit : (at : ℕ) → at < end → both_words first second at < 18446744073709551616
    fit at below = by_index (cases_lt at start) where
      by_index : (at < start) ⊎ (start ≤ at) → both_words first second at < 18446744073709551616
      by_index (inl before) = so_far.fit at before
      by_index (inr from) = let is = both_told at from below in omega (arith, is, fits)

    same : (b : Bool) → (b ≡ false → (at : ℕ) → at < start → both_words first second at ≡ word_or 0 first at) → (b || not (nat_eq (bit_or own other) own)) ≡ false → (at : ℕ) → at < end → both_words first second at ≡ word_or 0 first at
    same true before told = let never : ⊥ = cc in absurd never
    same false before told = λ (at : ℕ) (below : at < end). by_word at below (eqb_tells (bit_or own other) own) told (cases_lt at start) where
      by_word : (at : ℕ) → at < end → ((nat_eq (bit_or own other) own ≡ true) × (bit_or own other ≡ own)) ⊎ ((nat_eq (bit_or own other) own ≡ false) × (bit_or own other ≢ own)) → not (nat_eq (bit_or own other) own) ≡ false → (at < start) ⊎ (start ≤ at) → both_words first second at ≡ word_or 0 first at
      by_word at below found told (inl earlier) = before refl at earlier
      by_word at below (inl (yes_it, equal)) told (inr from) = both_told at from below ∙ (equal ∙ sym (one at from below))
      by_word at below (inr (no_it, differ)) told (inr from) = let never : true ≡ false = rw no_it at told in let impossible : ⊥ = cc in absurd impossible

    more : (b : Bool) → (b ≡ true → HasMore start first second) → (b || not (nat_eq (bit_or own other) own)) ≡ true → HasMore end first second
    more true before told = let found = before refl in record { at = found.at; below = omega (arith, found.below); differs = found.differs }
    more false before told = by_word (eqb_tells (bit_or own other) own) told where
      by_word : ((nat_eq (bit_or own other) own ≡ true) × (bit_or own other ≡ own)) ⊎ ((nat_eq (bit_or own other) own ≡ false) × (bit_or own other ≢ own)) → not (nat_eq (bit_or own other) own) ≡ true → HasMore end first second
      by_word (inl (yes_it, equal)) told = let never : false ≡ true = rw yes_it at told in let impossible : ⊥ = cc in absurd impossible
      by_word (inr (no_it, differ)) told = record {
        at = start;
        below = longer;
        differs = λ (same : both_words first second start ≡ word_or 0 first start). differ (sym (both_told start (omega arith) longer) ∙ (same ∙ one start (omega arith) longer));
      }

-- a walk over runs
passed_on : (runs : List Run) (at index : ℕ) (run : Run) → index < length runs → get_or runs index run ≡ run → run.end ≤ at → ArePassed at runs (drop index runs) → ArePassed at runs (drop (index + 1) runs)
passed_on runs at index run within here end passed row_index from =
    sym (ap (λ (some : List Run). word_or 0 some row_index) (drop_more runs index run within) ∙ (ap (λ (r : Run). word_or 0 (r ∷ drop (index + 1) runs) row_index) here ∙ word_later run (drop (index + 1) runs) 0 row_index (omega arith)))
    ∙ passed row_index from

pub walk_on : (runs : List Run) (none : Run) (at index : ℕ) → index < length runs → (get_or runs index none).end ≤ at → ArePassed at runs (drop index runs) → ArePassed at runs (drop (index + 1) runs)
walk_on runs none at index within end passed = passed_on runs at index (get_or runs index none) within (get_or_default runs index (get_or runs index none) none within) end passed

pub stands : (runs : List Run) (none : Run) (at index row_index : ℕ) → index < length runs → ArePassed at runs (drop index runs) → at ≤ row_index → row_index < (get_or runs index none).end → word_or 0 runs row_index ≡ (get_or runs index none).word
stands runs none at index row_index within passed from before =
    sym (passed row_index from) ∙ (ap (λ (some : List Run). word_or 0 some row_index) (drop_more runs index none within) ∙ word_here (get_or runs index none) (drop (index + 1) runs) 0 row_index before)

pub stands_past : (runs : List Run) (at index row_index : ℕ) → length runs ≤ index → ArePassed at runs (drop index runs) → at ≤ row_index → word_or 0 runs row_index ≡ 0
stands_past runs at index row_index far passed from = sym (passed row_index from) ∙ (ap (λ (some : List Run). word_or 0 some row_index) (drop_of_length-le runs far) ∙ empty_told 0 row_index)

pub passed_all : (runs : List Run) (at index : ℕ) → length runs ≤ index → ArePassed at runs (drop index runs) → ArePassed at runs (drop (length runs) runs)
passed_all runs at index far passed row_index from = ap (λ (some : List Run). word_or 0 some row_index) (drop-length runs ∙ sym (drop_of_length-le runs far)) ∙ passed row_index from

-- the first run that ends past an index tells its word
pub word_found : (runs : List Run) (none : Run) (at index : ℕ) → index < length runs → word_or 0 (drop index runs) at ≡ word_or 0 runs at → at < (get_or runs index none).end → (get_or runs index none).word ≡ word_or 0 runs at
word_found runs none at index within so_far before =
    sym (word_here (get_or runs index none) (drop (index + 1) runs) 0 at before) ∙ (sym (ap (λ (some : List Run). word_or 0 some at) (drop_more runs index none within)) ∙ so_far)

pub word_onward : (runs : List Run) (none : Run) (at index : ℕ) → index < length runs → word_or 0 (drop index runs) at ≡ word_or 0 runs at → (get_or runs index none).end ≤ at → word_or 0 (drop (index + 1) runs) at ≡ word_or 0 runs at
word_onward runs none at index within so_far after =
    sym (ap (λ (some : List Run). word_or 0 some at) (drop_more runs index none within) ∙ word_later (get_or runs index none) (drop (index + 1) runs) 0 at after) ∙ so_far

pub word_none : (runs : List Run) (at index : ℕ) → length runs ≤ index → word_or 0 (drop index runs) at ≡ word_or 0 runs at → 0 ≡ word_or 0 runs at
word_none runs at index far so_far = sym (ap (λ (some : List Run). word_or 0 some at) (drop_of_length-le runs far) ∙ empty_told 0 at) ∙ so_far

-- a row of no run has no number
pub no_words : (words : ℕ) (runs : List Run) → runs ≡ [] → row_words words runs ≡ replicate words 0
no_words words runs none =
    ext_get_or 0 (row_words words runs) (replicate words 0) (words_long words runs ∙ sym (length-replicate {A = ℕ} words 0))
    (λ at within. let below : at < words = omega (arith, words_long words runs) in word_told words runs at below ∙ (ap (λ (some : List Run). word_or 0 some at) none ∙ (empty_told 0 at ∙ sym (get_or-replicate {A = ℕ} words at 0 0 below))))

-- rows of the same length have the same number of words
pub as_many : (words others : ℕ) (runs more : List Run) → length (row_words others more) ≡ length (row_words words runs) → others ≡ words
as_many words others runs more even = sym (words_long others more) ∙ (even ∙ words_long words runs)

-- what was written through a slice of the whole
pub all_written : {X : Type 0} (count : ℕ) (new rest : List X) → count ≡ length new → take count (new ++ rest) ≡ new
all_written count new rest same = ap (λ (n : ℕ). take n (new ++ rest)) same ∙ take-append_seam new rest

-- a word more was written
pub told_more : (words : List ℕ) (runs : List Run) (at word : ℕ) → at < length words → word ≡ word_or 0 runs at → ((k : ℕ) → k < at → get_or words k 0 ≡ word_or 0 runs k) → (k : ℕ) → k < at + 1 → get_or (set words at word) k 0 ≡ word_or 0 runs k
told_more words runs at word within is so_far = below_more _ _ (λ (k : ℕ) (below : k < at). let other : k ≢ at = omega arith in get_or-set_other words at k word 0 other ∙ so_far k below) (get_or-set_same words at word 0 within ∙ is)
