use Rattle.passes_codec.proofs.Spelling.{pass_again, pass_takes}
use Rattle.passes_codec.proofs.laws.laws_of_pass_payloads.Goals as goal

pub returns : goal.returns
returns c = record { takes = pass_takes; again = pass_again }
