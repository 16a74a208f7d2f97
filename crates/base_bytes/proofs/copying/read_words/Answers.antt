use Rattle.base_bytes.specs.Reading.{text_at, counted_at}
use Rattle.base_bytes.proofs.Many.{begins, no_count, goes_on, stops, is_done}
use Rattle.base_bytes.proofs.copying.read_words.Goals as goal

pub returns-in_default : goal.returns-in_default
returns-in_default c = no_count text_at c.args.reader.now c.in_default.ensures

pub loop-init : goal.loop-init
loop-init c = rw c.new-words.ensures (begins text_at c.args.reader.now c.in-Some.count c.u32.new.self c.in-Some.ensures)

pub returns-in_default-2 : goal.returns-in_default-2
returns-in_default-2 c =
    let none = rw c.in_default-2.is at c.in_ok-word.ensures in
    stops text_at c.loop.words c.in-Some.count c.loop.counter c.loop.reader (counted_at text_at c.args.reader.now) c.loop-test.true none c.loop.invariant

pub loop-preserved : goal.loop-preserved
loop-preserved c =
    let one = rw c.in-Some-2.is at c.in_ok-word.ensures in
    rw c.in_ok-push.ensures.ok
    (goes_on text_at c.loop.words c.in-Some.count c.loop.counter c.loop.reader c.in-Some-2.word c.owned_text.new.self (counted_at text_at c.args.reader.now) c.loop-test.true one c.loop.invariant)

pub returns : goal.returns
returns c = is_done text_at c.loop.words c.in-Some.count c.loop.counter c.loop.reader (counted_at text_at c.args.reader.now) c.loop-test.false c.loop.invariant
