use Rattle.std.proofs.Common.{ℕ, List, Bor, get_or}
use Rattle.store.specs.Additions.{no_entry}
use Rattle.store.proofs.ArtefactSizes.{artefact_small}
use Rattle.store.proofs.store.RequestStore.artefact_at.Goals as goal

pub returns-clause-size : goal.returns-clause-size
returns-clause-size c = artefact_small c.self.inside.held.payloads (get_or c.args.graph.now c.args.at no_entry).name (λ (b : Bor (List ℕ)). b.now) c.artefact_at.result (c.artefact_at.ensures no_entry)
