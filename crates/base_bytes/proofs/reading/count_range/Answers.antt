use Rattle.std.proofs.Common.{◌∙◌, ap, sym, refl}
use Rattle.std.specs.Int.{w32}
use Rattle.std.proofs.lemmas.List.{take_rest}
use Rattle.base_bytes.specs.Reading.{number_at}
use Rattle.base_bytes.proofs.Ranging.{number_found}
use Rattle.base_bytes.proofs.reading.count_range.Goals as goal

pub returns : goal.returns
returns c =
    let read = ap (number_at w32) (sym (take_rest c.args.bytes.now c.args.at)) ∙ ap (number_at w32) (sym c.new-reader.ensures) ∙ c.in-Some.ensures in
    number_found w32 c.args.bytes.now c.args.at c.in-Some.number c.u32.new.self _ c.requires read refl
