use Rattle.std.specs.Int.{w32}
use Rattle.base_bytes.specs.Reading.{number_at, counted_at}
use Rattle.base_bytes.proofs.Many.{begins, no_count, goes_on, stops, is_done}
use Rattle.tests_graphs.proofs.reading.positions_of.Goals as goal

pub returns-in_default : goal.returns-in_default
returns-in_default c = no_count (number_at w32) c.args.reader.now c.in_default.ensures

pub loop-init : goal.loop-init
loop-init c = rw c.new-positions.ensures (begins (number_at w32) c.args.reader.now c.in-Some.count c.u32.new.self c.in-Some.ensures)

pub returns-in_default-u32 : goal.returns-in_default-u32
returns-in_default-u32 c = stops (number_at w32) c.loop.positions c.in-Some.count c.loop.counter c.loop.reader (counted_at (number_at w32) c.args.reader.now) c.loop-test.true c.in_default-u32.ensures c.loop.invariant

pub loop-preserved : goal.loop-preserved
loop-preserved c =
    rw c.in_ok-push.ensures.ok
    (goes_on (number_at w32) c.loop.positions c.in-Some.count c.loop.counter c.loop.reader c.in-Some-u32.position c.u32-in-loop.new.self (counted_at (number_at w32) c.args.reader.now) c.loop-test.true c.in-Some-u32.ensures c.loop.invariant)

pub returns : goal.returns
returns c = is_done (number_at w32) c.loop.positions c.in-Some.count c.loop.counter c.loop.reader (counted_at (number_at w32) c.args.reader.now) c.loop-test.false c.loop.invariant
