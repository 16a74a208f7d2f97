use Rattle.std.proofs.Common.{ap, length, arith}
use Rattle.store_codec.specs.Writing.{request_of_parts}
use Rattle.store.specs.Plans.{with_deps}
use Rattle.store.proofs.Counting.{length-request}
use Rattle.store.proofs.sizes.request_size.Goals as goal

pub returns : goal.returns
returns c = λ command numbers words count.
    omega (arith, length-request (with_deps (request_of_parts command c.args.parts) numbers), c.name_size-name.ensures.is, c.part_size.ensures.is, c.part_size-2.ensures.is, ap length words, count)
