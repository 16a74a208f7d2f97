use Rattle.std.proofs.Common.{ap, length, arith, length-append}
use Rattle.base.specs.Bytes.{text_bytes}
use Rattle.base.specs.Jobs.{name_bytes}
use Rattle.store_codec.proofs.Sized.{length-text}
use Rattle.store.proofs.sizes.name_size.Goals as goal

pub returns-clause-is : goal.returns-clause-is
unfolding name_bytes
returns-clause-is c =
    let name = c.args.name.now in
    omega (arith, length-append (text_bytes name.library) (text_bytes name.path), length-text name.library, length-text name.path, ap length c.bytes.ensures, ap length c.bytes-2.ensures)
