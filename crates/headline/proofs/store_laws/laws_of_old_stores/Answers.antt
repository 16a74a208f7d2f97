use Rattle.std.proofs.Common.{List, sym, subst}
use Rattle.std.specs.Prelude.{All}
use Rattle.outside.specs.Records.{Record}
use Rattle.store_journal.specs.Payloads.{payloads}
use Rattle.store_form_2.specs.NodeContents.{contents_of as node_contents_of}
use Rattle.run_spec.specs.Faithful.{IsTrueRecord}
use Rattle.headline.proofs.OldStores.{graphs_of, taken_in}
use Rattle.headline.proofs.TrueRequests.{all_true}
use Rattle.headline.proofs.store_laws.laws_of_old_stores.Goals as goal

pub returns-clause-taken : goal.returns-clause-taken
returns-clause-taken c = taken_in

pub returns-clause-faithful : goal.returns-clause-faithful
returns-clause-faithful c = λ answer image counts true_views.
    let views = (node_contents_of (payloads 2 image)).records in
    subst (λ (rs : List Record). All (IsTrueRecord answer) rs) (sym (taken_in image counts)) (all_true answer views (graphs_of (payloads 2 image)) true_views)
