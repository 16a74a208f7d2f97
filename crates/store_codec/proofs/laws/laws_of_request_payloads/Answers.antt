use Rattle.store_codec.proofs.Spelling.{payload_again, payload_takes}
use Rattle.store_codec.proofs.laws.laws_of_request_payloads.Goals as goal

pub returns : goal.returns
returns c = record { takes = payload_takes; again = payload_again }
