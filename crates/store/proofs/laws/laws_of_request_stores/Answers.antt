use Rattle.store.specs.StoreLaws.{request_store_durable, request_store_held}
use Rattle.store.proofs.laws.laws_of_request_stores.Goals as goal

pub returns-clause-durable : goal.returns-clause-durable
returns-clause-durable c = request_store_durable

pub returns-clause-held : goal.returns-clause-held
returns-clause-held c = request_store_held
