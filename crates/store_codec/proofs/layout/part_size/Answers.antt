use Rattle.std.proofs.Common.{◌≡◌, Option, None, ℕ, length, ap, arith}
use Rattle.store_codec.specs.Forms.{text_ref_bytes}
use Rattle.store_codec.specs.Writing.{part_ref, ref_or}
use Rattle.store_codec.proofs.Sized.{length-text}
use Rattle.store_codec.proofs.layout.part_size.Goals as goal

pub returns-in-None : goal.returns-in-None
unfolding text_ref_bytes
returns-in-None c =
    let new : length (text_ref_bytes (part_ref c.args.part)) ≡ length (text_ref_bytes (ref_or None c.args.part.text.now)) = ap (λ (known : Option ℕ). length (text_ref_bytes (ref_or known c.args.part.text.now))) c.in-None.is in
    omega (arith, new, length-text c.args.part.text.now)
