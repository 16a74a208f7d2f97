use Rattle.std.proofs.Common.{[], ◌≡◌, drop, ap, refl, sym, ◌∙◌, length, List, ℕ, arith}
use Rattle.std.specs.Int.{w32}
use Rattle.base.specs.Names.{FitsCommand}
use Rattle.base_bytes.specs.Reading.{number_at}
use Rattle.base_bytes.proofs.CountedWords.{all_short, short_begin, short_go_on, short_stop, too_long, uncounted_words, words_count}
use Rattle.base_bytes.proofs.words.has_word_sizes.Goals as goal

no_command : (words : List (List ℕ)) → words ≡ [] → FitsCommand words → ⊥
no_command words e fits = omega (arith, ap length e, fits.count.at_least)

pub returns-in_default : goal.returns-in_default
returns-in_default c = (λ f. absurd cc, λ fits. absurd (no_command _ (uncounted_words (drop c.args.range.start c.args.bytes.now) (ap (number_at w32) (sym (c.new-reader.ensures ∙ c.rest_from.ensures)) ∙ c.in_default.ensures)) fits))

pub returns-then-count-lt1 : goal.returns-then-count-lt1
returns-then-count-lt1 c = (
  λ f. absurd cc,
  λ fits. absurd (omega (
    arith,
    fits.count.at_least,
    c.if-count-lt1.true,
    words_count (drop c.args.range.start c.args.bytes.now) c.u32.new.self c.in-Some.count (ap (number_at w32) (sym (c.new-reader.ensures ∙ c.rest_from.ensures)) ∙ c.in-Some.ensures) (omega (arith, fits.count.at_least)),
  )),
)

pub returns-then-count-gt-COMMAND_LIMIT : goal.returns-then-count-gt-COMMAND_LIMIT
returns-then-count-gt-COMMAND_LIMIT c = (
  λ f. absurd cc,
  λ fits. absurd (omega (
    arith,
    fits.count.at_most,
    c.if-count-gt-COMMAND_LIMIT.true,
    words_count (drop c.args.range.start c.args.bytes.now) c.u32.new.self c.in-Some.count (ap (number_at w32) (sym (c.new-reader.ensures ∙ c.rest_from.ensures)) ∙ c.in-Some.ensures) (omega (arith, fits.count.at_least)),
  )),
)

pub loop-init : goal.loop-init
loop-init c = short_begin (drop c.args.range.start c.args.bytes.now) c.u32.new.self c.in-Some.count (ap (number_at w32) (sym (c.new-reader.ensures ∙ c.rest_from.ensures)) ∙ c.in-Some.ensures)

pub returns-in_default-text : goal.returns-in_default-text
returns-in_default-text c = (
  λ f. absurd cc,
  λ fits. absurd (no_command _ (short_stop (drop c.args.range.start c.args.bytes.now) c.loop.reader c.in-Some.count c.loop.counter c.loop.invariant c.loop-test.true c.in_default-text.ensures) fits),
)

pub returns-then-word-gt-WORD_LIMIT : goal.returns-then-word-gt-WORD_LIMIT
returns-then-word-gt-WORD_LIMIT c = (
  λ f. absurd cc,
  λ fits. absurd (too_long (drop c.args.range.start c.args.bytes.now) c.loop.reader c.text.new.self c.in-Some-text.word.now c.in-Some.count c.loop.counter c.loop.invariant c.loop-test.true c.in-Some-text.ensures (omega (arith, c.if-word-gt-WORD_LIMIT.true)) fits),
)

pub loop-preserved : goal.loop-preserved
loop-preserved c =
    short_go_on (drop c.args.range.start c.args.bytes.now) c.loop.reader c.text.new.self c.in-Some-text.word.now c.in-Some.count c.loop.counter c.loop.invariant c.loop-test.true c.in-Some-text.ensures (omega (arith, c.if-word-gt-WORD_LIMIT.false))

pub returns : goal.returns
returns c = (
  λ t. all_short (drop c.args.range.start c.args.bytes.now) c.loop.reader c.in-Some.count c.loop.counter c.loop.invariant c.loop-test.false (omega (arith, c.loop.auto.counter-end)) (omega (arith, c.if-count-lt1.false)) (omega (arith, c.if-count-gt-COMMAND_LIMIT.false)),
  λ fits. refl,
)
