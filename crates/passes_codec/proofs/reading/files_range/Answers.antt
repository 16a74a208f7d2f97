use Rattle.std.proofs.Common.{drop, refl}
use Rattle.base_bytes.proofs.Many.{no_count}
use Rattle.base_bytes.proofs.Ranging.{counted_begins, counted_ends, counted_goes_on, counted_stops}
use Rattle.passes_codec.specs.Forms.{file_at}
use Rattle.passes_codec.specs.Ranges.{file_in_ranges}
use Rattle.passes_codec.proofs.reading.files_range.Goals as goal

pub returns-in_default-clause-is : goal.returns-in_default-clause-is
returns-in_default-clause-is c = no_count file_at (drop c.args.at c.args.bytes.now) c.in_default.ensures

pub loop-init : goal.loop-init
loop-init c = counted_begins file_at c.args.bytes.now c.args.at c.in-Some.count c.in-Some.first c.in-Some.ensures

pub loop-preserved : goal.loop-preserved
loop-preserved c =
    let found = c.in-Some-file_range.ensures in
    counted_goes_on file_at c.args.bytes.now c.args.at c.in-Some.count c.loop.counter c.loop.next c.in-Some-file_range.end (file_in_ranges c.args.bytes.now c.in-Some-file_range._file) c.loop.invariant c.loop-test.true found.0 found.1 found.2

pub returns-in_default-file_range-clause-is : goal.returns-in_default-file_range-clause-is
returns-in_default-file_range-clause-is c = counted_stops file_at c.args.bytes.now c.args.at c.in-Some.count c.loop.counter c.loop.next c.loop.invariant c.loop-test.true c.in_default-file_range.ensures

pub returns-clause-is : goal.returns-clause-is
returns-clause-is c = counted_ends file_at c.args.bytes.now c.args.at c.in-Some.count c.loop.counter c.loop.next _ c.loop.invariant c.loop-test.false refl refl
