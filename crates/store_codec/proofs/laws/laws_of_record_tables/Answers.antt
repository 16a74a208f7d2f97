use Rattle.store_codec.proofs.Deciding.{new_product-Decides, request-Decides}
use Rattle.store_codec.proofs.Once.{adds_product, adds_request, once_in_all}
use Rattle.store_codec.proofs.laws.laws_of_record_tables.Goals as goal

pub returns : goal.returns
returns c = record { once = once_in_all; request = request-Decides; product = new_product-Decides; adds = adds_request; adds_product = adds_product }
