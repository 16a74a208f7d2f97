use Rattle.std.proofs.Common.{◌≡◌, ◌∙◌, List, [], ◌∷◌, ◌++◌, sym, ap, subst, append_assoc}
use Rattle.std.specs.Vec.Iter.{into_iter_items}
use Rattle.base.specs.declared.graph.Entry.{Entry}
use Rattle.base.specs.Graphs.{IsGraph}
use Rattle.base.proofs.GraphPrefixes.{IsGraph-prefix}
use Rattle.tests_graphs.proofs.reading.graph_of.Goals as goal

pub push-requires : goal.push-requires
push-requires c =
    let whole : c.loop-entry.yielded ++ (c.in-Some.entry ∷ into_iter_items c.next.new.self) ≡ c.args.entries = ap (λ (rest : List Entry). c.loop-entry.yielded ++ rest) (sym c.in-Some.ensures.steps.0) ∙ c.loop-entry.invariant.rest in
    let parts : (c.loop-entry.yielded ++ c.in-Some.entry ∷ []) ++ into_iter_items c.next.new.self ≡ c.args.entries = append_assoc c.loop-entry.yielded (c.in-Some.entry ∷ []) (into_iter_items c.next.new.self) ∙ whole in
    subst (λ (g : List Entry). IsGraph (g ++ c.in-Some.entry ∷ [])) (sym c.loop-entry.invariant.graph)
    (IsGraph-prefix (c.loop-entry.yielded ++ c.in-Some.entry ∷ []) (into_iter_items c.next.new.self) (subst IsGraph (sym parts) c.requires))
