use Rattle.std.proofs.Common.{drop, refl}
use Rattle.base_bytes.specs.Reading.{text_at}
use Rattle.base_bytes.proofs.Many.{no_count}
use Rattle.base_bytes.specs.Ranges.{range_end, ranged}
use Rattle.base_bytes.proofs.Ranging.{counted_begins, counted_ends, counted_goes_on, counted_stops}
use Rattle.base_bytes.proofs.reading.words_range.Goals as goal

pub returns-in_default : goal.returns-in_default
returns-in_default c = no_count text_at (drop c.args.at c.args.bytes.now) c.in_default.ensures

pub loop-init : goal.loop-init
loop-init c = counted_begins text_at c.args.bytes.now c.args.at c.in-Some.count c.in-Some.first c.in-Some.ensures

pub loop-preserved : goal.loop-preserved
loop-preserved c =
    let found = c.in-Some-text_range.ensures in
    counted_goes_on text_at c.args.bytes.now c.args.at c.in-Some.count c.loop.counter c.loop.next (range_end c.in-Some-text_range.text) (ranged c.args.bytes.now c.in-Some-text_range.text) c.loop.invariant c.loop-test.true found.0 found.1 found.2

pub returns-in_default-text_range : goal.returns-in_default-text_range
returns-in_default-text_range c = counted_stops text_at c.args.bytes.now c.args.at c.in-Some.count c.loop.counter c.loop.next c.loop.invariant c.loop-test.true c.in_default-text_range.ensures

pub returns : goal.returns
returns c = counted_ends text_at c.args.bytes.now c.args.at c.in-Some.count c.loop.counter c.loop.next _ c.loop.invariant c.loop-test.false refl refl
