use Rattle.std.proofs.Common.{ℕ, List, ap, ◌∙◌}
use Rattle.store_form_2.specs.NodeContents.{contents_of as node_contents_of}
use Rattle.store_form_2.specs.Migrating.{migrated_requests}
use Rattle.store.specs.Taking.{taken_payloads}
use Rattle.store.proofs.takeover.taken_over.Goals as goal

pub returns-clause-is : goal.returns-clause-is
returns-clause-is c = c.in_ok-payloads.ensures.is ∙ ap taken_payloads c.of-segments.ensures

pub returns-clause-records : goal.returns-clause-records
returns-clause-records c = c.in_ok-payloads.ensures.records ∙ ap (λ (ps : List (List ℕ)). migrated_requests (node_contents_of ps).records) c.of-segments.ensures
