use Rattle.std.proofs.Common.{◌≡◌, ◌≢◌, ◌+◌, ◌-◌, [], ◌∷◌, ◌++◌, take, drop, get_or, Option, ap, refl, sym, subst, ◌∙◌, true≢false, length, List, ℕ, arith}
use Rattle.std.specs.Int.{w32}
use Rattle.std.specs.Option.{option_map_or}
use Rattle.std.proofs.lemmas.Bool.{not-false, not-true}
use Rattle.std.proofs.lemmas.List.{get_or_default, take_all, take_more}
use Rattle.std.proofs.lemmas.Slice.Eq.{bytes_eq-Decides}
use Rattle.base_bytes.specs.Reading.{counted_at, many_at, number_at, text_at}
use Rattle.base_bytes.proofs.Many.{begins, goes_on, is_done, stops, with_prefix}
use Rattle.base_bytes.proofs.CountedWords.{differs, no_words, uncounted_words, words_at, words_count}
use Rattle.base_bytes.proofs.words.has_words.Goals as goal

pub returns-in_default : goal.returns-in_default
returns-in_default c = (λ f. absurd cc, λ same. absurd (omega (arith, c.requires, ap length (sym (uncounted_words (drop c.args.range.start c.args.bytes.now) (ap (number_at w32) (sym (c.new-reader.ensures ∙ c.rest_from.ensures)) ∙ c.in_default.ensures)) ∙ same))))

pub returns-then-count-words : goal.returns-then-count-words
returns-then-count-words c = (
  λ f. absurd cc,
  λ same.
      let size : length (words_at (drop c.args.range.start c.args.bytes.now)) ≡ length c.args.words.now = ap length same in
      let slice : length c.as_slice-words.result.now ≡ length c.args.words.now = ap length c.as_slice-words.ensures in
      let count : length (words_at (drop c.args.range.start c.args.bytes.now)) ≡ c.in-Some.count =
      words_count (drop c.args.range.start c.args.bytes.now) c.u32.new.self c.in-Some.count (ap (number_at w32) (sym (c.new-reader.ensures ∙ c.rest_from.ensures)) ∙ c.in-Some.ensures) (omega (arith, c.requires, size)) in
      absurd (omega (arith, size, slice, count, c.if-count-words.true)),
)

pub loop-word-init : goal.loop-word-init
loop-word-init c = begins text_at (drop c.args.range.start c.args.bytes.now) c.in-Some.count c.u32.new.self (ap (number_at w32) (sym (c.new-reader.ensures ∙ c.rest_from.ensures)) ∙ c.in-Some.ensures)

pub returns-in_default-text : goal.returns-in_default-text
returns-in_default-text c = (
  λ f. absurd cc,
  λ same.
      let none = no_words (drop c.args.range.start c.args.bytes.now) (stops text_at (take c.loop-word.word-index c.as_slice-words.result.now) c.in-Some.count c.loop-word.word-index c.loop-word.reader (counted_at text_at (drop c.args.range.start c.args.bytes.now)) (omega (arith, c.loop-word-test.true, c.if-count-words.false)) c.in_default-text.ensures c.loop-word.invariant) in
      absurd (omega (arith, c.requires, ap length (sym none ∙ same))),
)

pub returns-then-ne : goal.returns-then-ne
returns-then-ne c = (
  λ f. absurd cc,
  λ same.
      let words : List (List ℕ) = c.as_slice-words.result.now in
      let i : ℕ = c.loop-word.word-index in
      let text : List ℕ = c.in-Some-text.text.now in
      let bytes : List ℕ = drop c.args.range.start c.args.bytes.now in
      let on = goes_on text_at (take i words) c.in-Some.count i c.loop-word.reader text c.text.new.self (counted_at text_at bytes) (omega (arith, c.loop-word-test.true, c.if-count-words.false)) c.in-Some-text.ensures c.loop-word.invariant in
      let other : get_or words i [] ≢ text = λ e. true≢false (sym ((bytes_eq-Decides text c.bytes.result.now).1 (sym e ∙ get_or_default words i [] c.word-item.result c.loop-word-test.true ∙ sym c.word-item.is ∙ sym c.bytes.ensures)) ∙ not-true _ (sym c.ne.ensures ∙ c.if-ne.true)) in
      absurd (differs words i text (many_at text_at (c.in-Some.count - (i + 1)) c.text.new.self) c.loop-word-test.true other (ap (λ (o : Option (List (List ℕ) × List ℕ)). option_map_or (λ r. r.0) o []) on ∙ same ∙ sym c.as_slice-words.ensures)),
)

pub loop-word-preserved : goal.loop-word-preserved
loop-word-preserved c =
    let words : List (List ℕ) = c.as_slice-words.result.now in
    let i : ℕ = c.loop-word.word-index in
    let text : List ℕ = c.in-Some-text.text.now in
    let bytes : List ℕ = drop c.args.range.start c.args.bytes.now in
    let on = goes_on text_at (take i words) c.in-Some.count i c.loop-word.reader text c.text.new.self (counted_at text_at bytes) (omega (arith, c.loop-word-test.true, c.if-count-words.false)) c.in-Some-text.ensures c.loop-word.invariant in
    let same : text ≡ c.word-item.result = (bytes_eq-Decides text c.bytes.result.now).0 (not-false _ (sym c.ne.ensures ∙ c.if-ne.false)) ∙ c.bytes.ensures in
    let grown : take i words ++ text ∷ [] ≡ take (i + 1) words = ap (λ (t : List ℕ). take i words ++ t ∷ []) (same ∙ c.word-item.is) ∙ sym (take_more words i c.word-item.result c.loop-word-test.true) in
    subst (λ (ws : List (List ℕ)). with_prefix ws (many_at text_at (c.in-Some.count - (i + 1)) c.text.new.self) ≡ counted_at text_at bytes) grown on

pub returns : goal.returns
returns c = (
  λ t.
      let words : List (List ℕ) = c.as_slice-words.result.now in
      let i : ℕ = c.loop-word.word-index in
      let bytes : List ℕ = drop c.args.range.start c.args.bytes.now in
      let done = is_done text_at (take i words) c.in-Some.count i c.loop-word.reader (counted_at text_at bytes) (omega (arith, c.loop-word-test.false, c.if-count-words.false)) c.loop-word.invariant in
      ap (λ (o : Option (List (List ℕ) × List ℕ)). option_map_or (λ r. r.0) o []) done ∙ take_all i words c.loop-word-test.false ∙ c.as_slice-words.ensures,
  λ same. refl,
)
