use Rattle.std.proofs.Common.{ℕ, List, Bor}
use Rattle.store.proofs.ArtefactSizes.{artefact_small}
use Rattle.store.proofs.store.RequestStore.artefact.Goals as goal

pub returns-clause-size : goal.returns-clause-size
returns-clause-size c = artefact_small c.self.inside.held.payloads c.args.name.now (λ (b : Bor (List ℕ)). b.now) c.artefact.result c.artefact.ensures.bytes
