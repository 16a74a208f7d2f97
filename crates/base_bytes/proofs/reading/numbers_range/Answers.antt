use Rattle.std.proofs.Common.{drop, refl, arith}
use Rattle.std.specs.Int.{w64}
use Rattle.base_bytes.specs.Reading.{number_at}
use Rattle.base_bytes.proofs.Many.{no_count}
use Rattle.base_bytes.proofs.Ranging.{numbers_found, numbers_missing}
use Rattle.base_bytes.proofs.reading.numbers_range.Goals as goal

pub returns-in_default : goal.returns-in_default
returns-in_default c = no_count (number_at w64) (drop c.args.at c.args.bytes.now) c.in_default.ensures

pub returns-then-bytes-first : goal.returns-then-bytes-first
returns-then-bytes-first c = numbers_missing c.args.bytes.now c.args.at c.in-Some.count c.in-Some.first _ c.in-Some.ensures refl c.if-bytes-first.true

pub returns : goal.returns
returns c = numbers_found c.args.bytes.now c.args.at c.in-Some.count c.in-Some.first _ _ c.requires c.in-Some.ensures refl (omega (arith, c.if-bytes-first.false)) refl refl
