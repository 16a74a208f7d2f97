use Rattle.store.proofs.LatestCompacted.{compacted-latest_requests, latest-latest_requests}
use Rattle.store.proofs.compaction_laws.laws_of_request_compaction.Goals as goal

pub returns-clause-latest : goal.returns-clause-latest
returns-clause-latest c = latest-latest_requests

pub returns-clause-again : goal.returns-clause-again
returns-clause-again c = compacted-latest_requests
