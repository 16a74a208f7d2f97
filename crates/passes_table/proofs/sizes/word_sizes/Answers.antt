use Rattle.std.proofs.Common.{◌≡◌, ◌+◌, ◌≤◌, Some, ℕ, List, drop, length, sum_by, refl, sym, ap, ◌∙◌, arith}
use Rattle.std.specs.Int.{w32}
use Rattle.base_bytes.specs.Reading.{number_at}
use Rattle.base_bytes.proofs.CountedWords.{uncounted_words}
use Rattle.passes_table.proofs.Words.{number_fits, sum_push, word_fits, words_begin, words_end, words_go_on, words_stop}
use Rattle.passes_table.proofs.sizes.word_sizes.Goals as goal

abbrev Sizes : (bytes left : List ℕ) → ℕ → List (List ℕ) → Type 0
Sizes bytes left total words = (total ≡ sum_by (λ word. length word) words) × (total + length left ≤ length bytes)

pub returns-in_default-clause-count : goal.returns-in_default-clause-count
returns-in_default-clause-count c =
    ap (λ (ws : List (List ℕ)). length ws) (sym (uncounted_words (drop c.args.range.start c.args.bytes.now) (ap (number_at w32) (sym (c.new-reader.ensures ∙ c.all_of.ensures)) ∙ c.in_default.ensures)))

pub returns-in_default-clause-total : goal.returns-in_default-clause-total
returns-in_default-clause-total c =
    ap (λ (ws : List (List ℕ)). sum_by (λ word. length word) ws) (sym (uncounted_words (drop c.args.range.start c.args.bytes.now) (ap (number_at w32) (sym (c.new-reader.ensures ∙ c.all_of.ensures)) ∙ c.in_default.ensures)))

pub loop-init : goal.loop-init
loop-init c =
    let bytes : List ℕ = drop c.args.range.start c.args.bytes.now in
    let is : number_at w32 bytes ≡ Some (c.in-Some.count, c.u32.new.self) = ap (number_at w32) (sym (c.new-reader.ensures ∙ c.all_of.ensures)) ∙ c.in-Some.ensures in
    words_begin (Sizes bytes c.u32.new.self 0) bytes c.u32.new.self c.in-Some.count is (refl, omega (arith, number_fits bytes c.in-Some.count c.u32.new.self is))

pub returns-in_default-text-clause-count : goal.returns-in_default-text-clause-count
returns-in_default-text-clause-count c =
    let bytes : List ℕ = drop c.args.range.start c.args.bytes.now in
    ap (λ (ws : List (List ℕ)). length ws) (sym (words_stop (Sizes bytes c.loop.reader c.loop.total) bytes c.loop.reader c.in-Some.count c.loop.counter c.loop.invariant c.loop-test.true c.in_default-text.ensures))

pub returns-in_default-text-clause-total : goal.returns-in_default-text-clause-total
returns-in_default-text-clause-total c =
    let bytes : List ℕ = drop c.args.range.start c.args.bytes.now in
    ap (λ (ws : List (List ℕ)). sum_by (λ word. length word) ws) (sym (words_stop (Sizes bytes c.loop.reader c.loop.total) bytes c.loop.reader c.in-Some.count c.loop.counter c.loop.invariant c.loop-test.true c.in_default-text.ensures))

pub loop-preserved : goal.loop-preserved
loop-preserved c =
    let bytes : List ℕ = drop c.args.range.start c.args.bytes.now in
    let word : List ℕ = c.in-Some-text.word.now in
    words_go_on (Sizes bytes c.loop.reader c.loop.total) (Sizes bytes c.text.new.self (c.loop.total + length word)) bytes c.loop.reader c.text.new.self word c.in-Some.count c.loop.counter c.loop.invariant c.loop-test.true c.in-Some-text.ensures
    (λ words is. (ap (λ (n : ℕ). n + length word) is.0 ∙ sym (sum_push words word), omega (arith, is.1, word_fits c.loop.reader word c.text.new.self c.in-Some-text.ensures)))

pub returns-clause-count : goal.returns-clause-count
returns-clause-count c =
    let bytes : List ℕ = drop c.args.range.start c.args.bytes.now in
    let all = words_end (Sizes bytes c.loop.reader c.loop.total) bytes c.loop.reader c.in-Some.count c.loop.counter c.loop.invariant c.loop-test.false in
    omega (arith, ap length all, c.loop.invariant.as_many, c.loop-test.false, c.loop.auto.counter-end)

pub returns-clause-total : goal.returns-clause-total
returns-clause-total c =
    let bytes : List ℕ = drop c.args.range.start c.args.bytes.now in
    let all = words_end (Sizes bytes c.loop.reader c.loop.total) bytes c.loop.reader c.in-Some.count c.loop.counter c.loop.invariant c.loop-test.false in
    c.loop.invariant.holds.0 ∙ ap (λ (ws : List (List ℕ)). sum_by (λ word. length word) ws) (sym all)
