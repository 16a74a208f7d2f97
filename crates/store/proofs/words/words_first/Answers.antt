use Rattle.std.proofs.Common.{◌-◌, ℕ, List, length, ap, sym, ◌∙◌, arith, length-append}
use Rattle.std.specs.Int.{w32}
use Rattle.base_bytes.specs.Reading.{number_at}
use Rattle.store_codec.specs.Forms.{command_bytes}
use Rattle.store.specs.Words.{first_words}
use Rattle.store.proofs.Worded.{before_rest, passed_all, passed_more, passed_none, some_count, some_word}
use Rattle.store.proofs.words.words_first.Goals as goal

pub unreachable-requires : goal.unreachable-requires
unreachable-requires c = some_count c.args.bytes.now (ap (number_at w32) (sym c.new-reader.ensures) ∙ c.in_default.ensures) (record { count = c.requires.count; words = c.requires.words })

pub loop-init : goal.loop-init
loop-init c = passed_none c.args.bytes.now c.u32.new.self c.in-Some.count (ap (number_at w32) (sym c.new-reader.ensures) ∙ c.in-Some.ensures)

pub unreachable-requires-in_default-text : goal.unreachable-requires-in_default-text
unreachable-requires-in_default-text c = some_word c.args.bytes.now c.loop.reader c.in-Some.count c.loop.counter c.loop.invariant c.loop-test.true c.in_default-text.ensures (record { count = c.requires.count; words = c.requires.words })

pub loop-preserved : goal.loop-preserved
loop-preserved c = passed_more c.args.bytes.now c.loop.reader c.text.new.self c.in-Some-text._word.now c.in-Some.count c.loop.counter c.loop.invariant c.loop-test.true c.in-Some-text.ensures

pub slice_bounds-result-count : goal.slice_bounds-result-count
slice_bounds-result-count c =
    let whole = passed_all c.args.bytes.now c.loop.reader c.in-Some.count c.loop.counter (λ i. omega (arith, c.type_inv.bytes i)) c.loop.invariant c.loop-test.false in
    omega (arith, ap length whole, length-append (command_bytes (first_words c.args.bytes.now)) c.loop.reader, ap length c.rest-left.ensures)

pub returns : goal.returns
returns c =
    let whole = passed_all c.args.bytes.now c.loop.reader c.in-Some.count c.loop.counter (λ i. omega (arith, c.type_inv.bytes i)) c.loop.invariant c.loop-test.false in
    before_rest c.args.bytes.now (command_bytes (first_words c.args.bytes.now)) c.loop.reader _ whole (ap (λ (bs : List ℕ). length c.args.bytes.now - length bs) c.rest-left.ensures)
