-- Answers to the goals of `examples_of_stored_requests`.
use Rattle.tests_examples.proofs.StoredRequests.{shelved_requests, requests_compacted}
use Rattle.tests_examples.proofs.chapters.examples_of_stored_requests.Goals as goal

pub returns-clause-shelved_requests : goal.returns-clause-shelved_requests
returns-clause-shelved_requests c = shelved_requests

pub returns-clause-compacted_requests : goal.returns-clause-compacted_requests
returns-clause-compacted_requests c = requests_compacted
