use Rattle.std.proofs.Common.{◌≡◌, ◌/◌, ℕ, List, get_or, length, sym, ap, ◌∙◌, arith}
use Rattle.base_bytes.proofs.LongNumbers.{length-long_numbers, long_number_at}
use Rattle.base_bytes.proofs.numbers.Numbers.get.Goals as goal

pub number_from-requires : goal.number_from-requires
number_from-requires c =
    let size : length c.args.self.now ≡ length c.self.inside.bytes.now / 8 = ap length (sym c.self.view_is) ∙ length-long_numbers (length c.self.inside.bytes.now / 8) c.self.inside.bytes.now in
    omega (arith, c.requires, size)

pub returns : goal.returns
returns c =
    let count : ℕ = length c.self.inside.bytes.now / 8 in
    let size : length c.args.self.now ≡ length c.self.inside.bytes.now / 8 = ap length (sym c.self.view_is) ∙ length-long_numbers (length c.self.inside.bytes.now / 8) c.self.inside.bytes.now in
    c.number_from.ensures
    ∙ sym (long_number_at (length c.self.inside.bytes.now / 8) c.args.index c.self.inside.bytes.now (omega (arith, c.requires, size)))
    ∙ ap (λ (ns : List ℕ). get_or ns c.args.index 0) c.self.view_is
