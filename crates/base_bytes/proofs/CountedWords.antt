-- Words after their number, as a loop over them finds them.
use Rattle.std.proofs.Common.{◌≡◌, ◌≢◌, ℕ, zero, suc, ◌-◌, ◌+◌, ◌<◌, ◌≤◌, List, [], ◌∷◌, ◌++◌, length, take, get_or, Option, Some, None, refl, sym, ap, subst, ◌∙◌, append_assoc, arith, length-append, length-take}
use Rattle.std.specs.Prelude.{All}
use Rattle.std.specs.Int.{w32}
use Rattle.std.specs.Option.{option_map_or}
use Rattle.std.proofs.lemmas.List.{get_or_at}
use Rattle.std.proofs.lemmas.List.Elements.{All-push}
use Rattle.std.proofs.lemmas.Option.{same_Some}
use Rattle.base.specs.Names.{FitsCommand}
use Rattle.base.specs.declared.limits.TheConstants.{COMMAND_LIMIT, WORD_LIMIT}
use Rattle.base_bytes.specs.Reading.{◌>>=◌, counted_at, many_at, number_at, text_at}
use Rattle.base_bytes.proofs.Fields.{bind_some}
use Rattle.base_bytes.proofs.Many.{begins, goes_on, is_done, no_count, stops, with_prefix}

-- the words that are read
abbrev pub words_at : List ℕ → List (List ℕ)
words_at bytes = option_map_or (λ read. read.0) (counted_at text_at bytes) []

-- as many are read as were asked for
pub many_length : {X : Type 0} (read : List ℕ → Option (X × List ℕ)) (n : ℕ) (bytes : List ℕ) (xs : List X) (left : List ℕ) → many_at read n bytes ≡ Some (xs, left) → length xs ≡ n
unfolding many_at
many_length {X} read zero bytes xs left e = ap (λ (y : List X × List ℕ). length y.0) (sym (same_Some ([], bytes) (xs, left) e))
many_length {X} read (suc n) bytes xs left e =
    let a = bind_some (read bytes) (λ first. many_at read n first.1 >>= λ others. Some (first.0 ∷ others.0, others.1)) (xs, left) e in
    let b = bind_some (many_at read n a.0.1) (λ others. Some (a.0.0 ∷ others.0, others.1)) (xs, left) a.2 in
    ap (λ (y : List X × List ℕ). length y.0) (sym (same_Some (a.0.0 ∷ b.0.0, b.0.1) (xs, left) b.2)) ∙ ap suc (many_length read n a.0.1 b.0.0 b.0.1 b.1)

pub no_words : (bytes : List ℕ) → counted_at text_at bytes ≡ None → words_at bytes ≡ []
no_words bytes e = rw e refl

pub uncounted_words : (bytes : List ℕ) → number_at w32 bytes ≡ None → words_at bytes ≡ []
uncounted_words bytes e = no_words bytes (no_count text_at bytes e)

-- where there are words, their number is what was read first
pub words_count : (bytes left : List ℕ) (count : ℕ) → number_at w32 bytes ≡ Some (count, left) → 0 < length (words_at bytes) → length (words_at bytes) ≡ count
unfolding counted_at
words_count bytes left count e some =
    let read : counted_at text_at bytes ≡ many_at text_at count left = rw e refl in
    let P : Option (List (List ℕ) × List ℕ) → List (List ℕ) = λ (o : Option (List (List ℕ) × List ℕ)). option_map_or (λ r. r.0) o [] in
    ap (λ (o : Option (List (List ℕ) × List ℕ)). length (P o)) read ∙ by (many_at text_at count left) refl (subst (λ (o : Option (List (List ℕ) × List ℕ)). 0 < length (P o)) read some)
  where
    by : (o : Option (List (List ℕ) × List ℕ)) → many_at text_at count left ≡ o → 0 < length (option_map_or (λ read. read.0) o []) → length (option_map_or (λ read. read.0) o []) ≡ count
    by None f some = absurd (omega (arith, some))
    by (Some r) f some = many_length text_at count left r.0 r.1 f

-- no list of words begins with another one
pub differs : (words : List (List ℕ)) (i : ℕ) (text : List ℕ) (more : Option (List (List ℕ) × List ℕ)) → i < length words → get_or words i [] ≢ text → option_map_or (λ read. read.0) (with_prefix (take i words ++ text ∷ []) more) [] ≢ words
differs words i text None low other e = absurd (omega (arith, low, ap length e))
differs words i text (Some r) low other e =
    let here : get_or (take i words ++ (text ∷ r.0)) i [] ≡ text = get_or_at (take i words) text r.0 [] i (omega (arith, length-take i words, low)) in
    other (ap (λ (ws : List (List ℕ)). get_or ws i []) (sym e ∙ append_assoc (take i words) (text ∷ []) r.0) ∙ here)

-- Words that are short were read so far.
pub record AreShort (bytes : List ℕ) (count i : ℕ) (left : List ℕ) : Type 0 where
  pub words : List (List ℕ)
  pub so_far : with_prefix words (many_at text_at (count - i) left) ≡ counted_at text_at bytes
  pub as_many : length words ≡ i
  pub short : All (λ word. length word ≤ WORD_LIMIT) words

pub short_begin : (bytes left : List ℕ) (count : ℕ) → number_at w32 bytes ≡ Some (count, left) → AreShort bytes count 0 left
short_begin bytes left count e = record { words = []; so_far = begins text_at bytes count left e; as_many = refl; short = λ k d l. absurd (omega arith) }

pub short_go_on : (bytes left after word : List ℕ) (count i : ℕ) → AreShort bytes count i left → i < count → text_at left ≡ Some (word, after) → length word ≤ WORD_LIMIT → AreShort bytes count (i + 1) after
short_go_on bytes left after word count i are low e small = record {
  words = are.words ++ word ∷ [];
  so_far = goes_on text_at are.words count i left word after (counted_at text_at bytes) low e are.so_far;
  as_many = omega (arith, are.as_many, length-append are.words (word ∷ []));
  short = All-push (λ (w : List ℕ). length w ≤ WORD_LIMIT) are.words word are.short small;
}

pub short_stop : (bytes left : List ℕ) (count i : ℕ) → AreShort bytes count i left → i < count → text_at left ≡ None → words_at bytes ≡ []
short_stop bytes left count i are low e = no_words bytes (stops text_at are.words count i left (counted_at text_at bytes) low e are.so_far)

-- words with one above the limit of length aren't a command within its limits
pub too_long : (bytes left after word : List ℕ) (count i : ℕ) → AreShort bytes count i left → i < count → text_at left ≡ Some (word, after) → WORD_LIMIT < length word → FitsCommand (words_at bytes) → ⊥
too_long bytes left after word count i are low e long fits =
    by (many_at text_at (count - (i + 1)) after) (subst (λ (o : Option (List (List ℕ) × List ℕ)). FitsCommand (option_map_or (λ read. read.0) o [])) (sym (goes_on text_at are.words count i left word after (counted_at text_at bytes) low e are.so_far)) fits)
  where
    by : (o : Option (List (List ℕ) × List ℕ)) → FitsCommand (option_map_or (λ read. read.0) (with_prefix (are.words ++ word ∷ []) o) []) → ⊥
    by None f = absurd (omega (arith, f.count.at_least))
    by (Some r) f =
        let all : List (List ℕ) = (are.words ++ word ∷ []) ++ r.0 in
        let here : get_or all (length are.words) [] ≡ word = ap (λ (ws : List (List ℕ)). get_or ws (length are.words) []) (append_assoc are.words (word ∷ []) r.0) ∙ get_or_at are.words word r.0 [] (length are.words) refl in
        let within : length are.words < length all = omega (arith, length-append (are.words ++ word ∷ []) r.0, length-append are.words (word ∷ [])) in
        let small : length (get_or all (length are.words) []) ≤ WORD_LIMIT = f.words (length are.words) [] within in
        omega (arith, small, ap length here, long)

pub all_short : (bytes left : List ℕ) (count i : ℕ) → AreShort bytes count i left → count ≤ i → i ≤ count → 1 ≤ count → count ≤ COMMAND_LIMIT → FitsCommand (words_at bytes)
all_short bytes left count i are done within low high =
    let whole : words_at bytes ≡ are.words = rw (is_done text_at are.words count i left (counted_at text_at bytes) done are.so_far) refl in
    subst FitsCommand (sym whole) (record { count = record { at_least = omega (arith, are.as_many, low, done); at_most = omega (arith, are.as_many, within, high) }; words = are.short })
