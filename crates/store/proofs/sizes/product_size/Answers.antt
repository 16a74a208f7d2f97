use Rattle.std.proofs.Common.{arith}
use Rattle.store_codec.specs.Writing.{product_of_parts}
use Rattle.store.proofs.Counting.{length-product}
use Rattle.store.proofs.sizes.product_size.Goals as goal

pub returns : goal.returns
returns c = omega (arith, length-product (product_of_parts c.args.parts), c.name_size.ensures.is, c.part_size.ensures.is)
