-- The one reference is that of the unit.
use Rattle.std.proofs.Common.{◌∙◌, ◌∷◌, [], Bool, List, cond, sym, ap, subst}
use Rattle.base.specs.declared.refs.Ref.{Ref}
use Rattle.vhdl_graph.specs.Linking.{LinksRefs}
use Rattle.vhdl_graph.proofs.InsideLemmas.{links_one}
use Rattle.vhdl_graph.proofs.seen.link_structural.Goals as goal

pub returns-clause-links : goal.returns-clause-links
returns-clause-links c units unit known stands =
    let ref : Ref = c.in_ok-is_there.reference in
    subst (λ (refs : List Ref). LinksRefs c.args.project.now units unit refs c.args.row.now c.link_own-linked.new.row c.link_own-linked.result)
    (sym (ap (λ (b : Bool). cond b (ref ∷ []) []) c.if-not-is_there.false) ∙ c.in_ok-is_there.ensures)
    (links_one c.args.project.now units unit ref c.args.row.now c.link_own-linked.new.row c.link_own-linked.result (c.link_own-linked.ensures.links units unit known stands))
