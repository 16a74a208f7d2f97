use Rattle.std.proofs.Common.{arith}
use Rattle.store_codec.specs.Forms.{text_ref_bytes}
use Rattle.store_codec.proofs.Sized.{length-text}
use Rattle.store.proofs.sizes.part_size.Goals as goal

pub returns-in-None-clause-is : goal.returns-in-None-clause-is
unfolding text_ref_bytes
returns-in-None-clause-is c = rw c.in-None.is (omega (arith, length-text c.args.part.text.now))
