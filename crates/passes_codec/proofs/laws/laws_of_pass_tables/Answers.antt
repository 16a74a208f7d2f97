use Rattle.passes_codec.proofs.Deciding.{valid_pass-Decides}
use Rattle.passes_codec.proofs.Once.{adds_pass, once_in_all}
use Rattle.passes_codec.proofs.laws.laws_of_pass_tables.Goals as goal

pub returns : goal.returns
returns c = record { once = once_in_all; pass = valid_pass-Decides; adds = adds_pass }
