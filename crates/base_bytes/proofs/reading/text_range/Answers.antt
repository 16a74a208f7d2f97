use Rattle.std.proofs.Common.{◌+◌, ◌∙◌, ap, sym, refl, arith}
use Rattle.std.proofs.lemmas.List.{get_or-drop, take_rest}
use Rattle.base_bytes.specs.Reading.{text_at}
use Rattle.base_bytes.proofs.Ranging.{text_found}
use Rattle.base_bytes.proofs.reading.text_range.Goals as goal

pub returns : goal.returns
returns c =
    let read = ap text_at (sym (take_rest c.args.bytes.now c.args.at)) ∙ ap text_at (sym c.new-reader.ensures) ∙ c.in-Some.ensures in
    text_found c.args.bytes.now c.in-Some.text.now c.text.new.self c.args.at _ c.requires (λ i. rw get_or-drop (omega (arith, c.type_inv.bytes (c.args.at + i)))) read refl refl
