use Rattle.std.proofs.Common.{◌≡◌, ℕ, ◌++◌, Option, ap, refl, sym, ◌∙◌}
use Rattle.base_bytes.specs.TextRefs.{TextRef}
use Rattle.base_bytes.specs.TextRefs.TextRef.{InFull}
use Rattle.store_codec.specs.Forms.{text_ref_bytes}
use Rattle.store_codec.specs.Writing.{part_ref, ref_or}
use Rattle.store_codec.proofs.Layouts.{new_text_here, range_here}
use Rattle.store_codec.proofs.layout.part_range.Goals as goal

pub returns-in-None : goal.returns-in-None
returns-in-None c = λ bytes rest e.
    let new : part_ref c.args.part ≡ InFull c.args.part.text.now = ap (λ (known : Option ℕ). ref_or known c.args.part.text.now) c.in-None.is in
    ap InFull (range_here bytes c.args.part.text.now rest _ (new_text_here bytes c.args.part.text.now rest c.args.at _ (e ∙ ap (λ (r : TextRef). text_ref_bytes r ++ rest) new) refl) refl) ∙ sym new
