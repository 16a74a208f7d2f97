use Rattle.std.proofs.Common.{◌≡◌, ℕ, List, drop, refl, sym, ap, ◌∙◌}
use Rattle.std.specs.Int.{w32}
use Rattle.std.proofs.lemmas.List.Sums.{fold_push}
use Rattle.base_bytes.specs.Reading.{number_at}
use Rattle.base_bytes.proofs.CountedWords.{uncounted_words}
use Rattle.passes_table.specs.Fingerprints.{with_text_fingerprint, with_text_fingerprints}
use Rattle.passes_table.proofs.Words.{words_begin, words_end, words_go_on, words_stop}
use Rattle.passes_table.proofs.fingerprints.with_words.Goals as goal

abbrev Fingerprints : ℕ → ℕ → List (List ℕ) → Type 0
Fingerprints fingerprint all words = all ≡ with_text_fingerprints fingerprint words

pub returns-in_default : goal.returns-in_default
returns-in_default c =
    ap (with_text_fingerprints c.args.fingerprint) (sym (uncounted_words (drop c.args.range.start c.args.bytes.now) (ap (number_at w32) (sym (c.new-reader.ensures ∙ c.all_of.ensures)) ∙ c.in_default.ensures)))

pub loop-init : goal.loop-init
loop-init c = words_begin (Fingerprints c.args.fingerprint c.args.fingerprint) (drop c.args.range.start c.args.bytes.now) c.u32.new.self c.in-Some.count (ap (number_at w32) (sym (c.new-reader.ensures ∙ c.all_of.ensures)) ∙ c.in-Some.ensures) refl

pub returns-in_default-text : goal.returns-in_default-text
returns-in_default-text c = ap (with_text_fingerprints c.args.fingerprint) (sym (words_stop (Fingerprints c.args.fingerprint c.loop.all) (drop c.args.range.start c.args.bytes.now) c.loop.reader c.in-Some.count c.loop.counter c.loop.invariant c.loop-test.true c.in_default-text.ensures))

pub loop-preserved : goal.loop-preserved
loop-preserved c =
    words_go_on (Fingerprints c.args.fingerprint c.loop.all) (Fingerprints c.args.fingerprint c.with_text-all.result) (drop c.args.range.start c.args.bytes.now) c.loop.reader c.text.new.self c.in-Some-text.word.now c.in-Some.count c.loop.counter c.loop.invariant c.loop-test.true c.in-Some-text.ensures
    (λ words e. c.with_text-all.ensures ∙ ap (λ (fingerprint : ℕ). with_text_fingerprint fingerprint c.in-Some-text.word.now) e ∙ sym (fold_push with_text_fingerprint c.args.fingerprint words c.in-Some-text.word.now))

pub returns : goal.returns
returns c = c.loop.invariant.holds ∙ ap (with_text_fingerprints c.args.fingerprint) (sym (words_end (Fingerprints c.args.fingerprint c.loop.all) (drop c.args.range.start c.args.bytes.now) c.loop.reader c.in-Some.count c.loop.counter c.loop.invariant c.loop-test.false))
