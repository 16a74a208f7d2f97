use Rattle.std.proofs.Common.{drop, ap, sym, ◌∙◌}
use Rattle.std.specs.Int.{w32}
use Rattle.base_bytes.specs.Reading.{number_at}
use Rattle.base_bytes.specs.Ranges.{long_numbers}
use Rattle.base_bytes.proofs.LongNumbers.{taken_numbers, uncounted, untaken_numbers}
use Rattle.base_bytes.proofs.numbers.numbers_of.Goals as goal

pub returns-in_default : goal.returns-in_default
unfolding long_numbers
returns-in_default c =
    uncounted (drop c.args.range.start c.args.bytes.now) (ap (number_at w32) (sym (c.new-reader.ensures ∙ c.rest_from.ensures)) ∙ c.in_default.ensures)

pub returns-in-Some-take : goal.returns-in-Some-take
returns-in-Some-take c =
    taken_numbers (drop c.args.range.start c.args.bytes.now) c.u32.new.self c.in-Some-take.bytes.now c.take.new.self c.in-Some.count
    (ap (number_at w32) (sym (c.new-reader.ensures ∙ c.rest_from.ensures)) ∙ c.in-Some.ensures) c.in-Some-take.ensures

pub returns-in-None : goal.returns-in-None
unfolding long_numbers
returns-in-None c =
    untaken_numbers (drop c.args.range.start c.args.bytes.now) c.u32.new.self c.in-Some.count
    (ap (number_at w32) (sym (c.new-reader.ensures ∙ c.rest_from.ensures)) ∙ c.in-Some.ensures) c.in-None.ensures
