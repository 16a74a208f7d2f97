use Rattle.std.proofs.Common.{refl, ap, ◌∙◌}
use Rattle.std.proofs.lemmas.Option.{get_or_from_slice_get}
use Rattle.base.specs.declared.graph.Entry.{Entry}
use Rattle.store.specs.Additions.{no_entry}
use Rattle.store.proofs.records.RequestStoreRecords.commit.Goals as goal

pub returns-clause-over : goal.returns-clause-over
returns-clause-over g c = λ graph entry is over found named.
    c.commit.ensures.over graph is over
    (record { at_is = refl; named = ap (λ (e : Entry). e.name) (get_or_from_slice_get graph c.args.prepared.addition.at entry no_entry found) ∙ named })
