use Rattle.std.proofs.Common.{◌/◌, length, sym, ap, ◌∙◌}
use Rattle.base_bytes.proofs.LongNumbers.{length-long_numbers}
use Rattle.base_bytes.proofs.numbers.Numbers.len.Goals as goal

pub returns : goal.returns
returns c = sym (length-long_numbers (length c.self.inside.bytes.now / 8) c.self.inside.bytes.now) ∙ ap length c.self.view_is
